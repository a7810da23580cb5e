-- One of the two rankings: a tree is derived, or none is and the reading tells why, by a number of 1 to 5. Assumes nothing.
use mathlib.Core.Path.{◌≡◌, refl, subst}
use mathlib.Core.List.{List}
use Prim.Native.Nat.{ℕ}
use native.Mathlib.Omega.{arith}
use Rattle.stream.specs.Formed.{Formed}
use Rattle.stream.specs.declared.reader.Refusal.{Refusal}
use Rattle.operators.specs.Ranks.{ranks}
use Rattle.operators.specs.declared.Ranking.{Ranking}
use Rattle.tree.specs.Forest.{Forest}
use Rattle.grammar.specs.Grammar.{Chunk}
use Rattle.grammar.specs.Reading.{Out, fine, fail}
use Rattle.grammar.specs.Levels.{chunk}
use Rattle.grammar.proofs.Bounds.{Numbered, Bounded, bounded}
use Rattle.grammar.proofs.Theorems.{sound, complete, is_ranked}

module _ (s : List ℕ) (r : Ranking) (levels : ℕ) where
  pub data Side : Type 0 where
    derived : {t : Forest} → Chunk s (ranks r) levels t → Side
    refused : {e : Refusal} → ((t : Forest) → Chunk s (ranks r) levels t → ⊥) → chunk s (ranks r) levels ≡ fail e → Side

  pub refused_none : {e : Refusal} → chunk s (ranks r) levels ≡ fail e → (t : Forest) → Chunk s (ranks r) levels t → ⊥
  refused_none x t d = let z : ◌≡◌ {A = ℕ} 0 1 = cc ((complete s (ranks r) levels (is_ranked r) d).1, x) in omega arith

  pub side : Side
  side = go (chunk s (ranks r) levels) refl
    where
      go : (o : Out) → chunk s (ranks r) levels ≡ o → Side
      go (fine q m t v) x = derived (sound s (ranks r) levels (is_ranked r) x)
      go (fail e) x = refused (refused_none x) x

  pub numbers : {e : Refusal} → Formed s → chunk s (ranks r) levels ≡ fail e → Numbered e.number
  numbers f x = subst (Bounded s) x (bounded s f (ranks r) levels)
