-- The promise of the agreed reading leaves one answer. Assumes nothing.
use mathlib.Core.Path.{◌≡◌, sym, subst}
use mathlib.Core.List.{List}
use mathlib.Core.Logic.{◌⊎◌, inl, inr, by_cases}
use Prim.Native.Nat.{ℕ, ◌*◌, ◌≤◌, ◌<◌}
use native.Mathlib.Decide.{dec_lt}
use native.Mathlib.Omega.{arith}
use lib.ListN.{length}
use Rattle.stream.specs.Formed.{Formed, Malformed}
use Rattle.stream.specs.declared.reader.Refusal.{Refusal}
use Rattle.stream.proofs.Judged.{formed_or_not}
use Rattle.operators.specs.Ranks.{ranks}
use Rattle.operators.specs.declared.Ranking.TheVariants.{Crate, Manual}
use Rattle.tree.specs.Forest.{Forest, size}
use Rattle.grammar.specs.Grammar.{Chunk}
use Rattle.grammar.specs.Reading.{fail}
use Rattle.grammar.specs.Levels.{chunk}
use Rattle.grammar.proofs.Sides.{Side, derived, refused, side}
use Rattle.quarrel.specs.Rule.{Quarrelling, First}
use Rattle.quarrel.proofs.Trees.{differ}
use Rattle.parser.specs.declared.Answer.{Answer}
use Rattle.parser.proofs.Decided.{agree}
use Rattle.agreed.specs.Agreed.{Agreed}
use Rattle.agreed.proofs.Places.{none_or_first}

-- the six cases of the promise
pub data Case (s : List ℕ) (levels : ℕ) (n : List ℕ) : Type 0 where
  bad : {p : ℕ} → Malformed s p → Case s levels n
  roomed : {t : Forest} → Formed s → Chunk s (ranks Crate) levels t → Chunk s (ranks Manual) levels t → size t * 4 ≤ length n → Case s levels n
  cramped : {t : Forest} → Formed s → Chunk s (ranks Crate) levels t → Chunk s (ranks Manual) levels t → length n < size t * 4 → Case s levels n
  apart : {t u : Forest} {i : ℕ} → Formed s → Chunk s (ranks Crate) levels t → Chunk s (ranks Manual) levels u → (t ≡ u → ⊥) → First s t i → Case s levels n
  underived : {e : Refusal} → Formed s → ((t : Forest) → Chunk s (ranks Crate) levels t → ⊥) → chunk s (ranks Crate) levels ≡ fail e → Case s levels n
  deep : {t : Forest} {e : Refusal} → Formed s → Chunk s (ranks Crate) levels t → ((u : Forest) → Chunk s (ranks Manual) levels u → ⊥) → chunk s (ranks Manual) levels ≡ fail e → Case s levels n

module _ (s : List ℕ) (levels : ℕ) (n : List ℕ) where
  -- there always is one: by the stream, by its two readings, by the rule, and by the tree's size
  pub the_case : Case s levels n
  the_case = by_form (formed_or_not s)
    where
      by_size : (t : Forest) → Formed s → Chunk s (ranks Crate) levels t → Chunk s (ranks Manual) levels t → Case s levels n
      by_size t f c d = by_cases (dec_lt (length n) (size t * 4)) (λ l. cramped f c d l) (λ l. roomed f c d (omega arith))

      by_rule : {t u : Forest} → Formed s → Chunk s (ranks Crate) levels t → Chunk s (ranks Manual) levels u → ((i : ℕ) → ¬ Quarrelling s t i) ⊎ ((i : ℕ) × First s t i) → Case s levels n
      by_rule {t} {u} f c d (inl x) = by_size t f c (subst (Chunk s (ranks Manual) levels) (sym ((differ s levels c d).1 x)) d)
      by_rule {t} {u} f c d (inr x) = apart f c d (λ e. (differ s levels c d).0 e x.0 x.1.quarrelling) x.1

      by_sides : Formed s → Side s Crate levels → Side s Manual levels → Case s levels n
      by_sides f (refused none x) m = underived f none x
      by_sides f (derived c) (refused none x) = deep f c none x
      by_sides f (derived {t} c) (derived d) = by_rule f c d (none_or_first s t)

      by_form : Formed s ⊎ ((p : ℕ) × Malformed s p) → Case s levels n
      by_form (inl f) = by_sides f (side s Crate levels) (side s Manual levels)
      by_form (inr b) = bad b.1

-- no second answer would do
pub decided : (s n : List ℕ) {n' n'' : List ℕ} {a b : Answer} → Agreed s n n' a → Agreed s n n'' b → (a ≡ b) × (n' ≡ n'')
decided s n {n'} {n''} {a} {b} x y = by_case (the_case s 199 n)
  where
    by_case : Case s 199 n → (a ≡ b) × (n' ≡ n'')
    by_case (bad {p} m) = agree (x.malformed p m) (y.malformed p m)
    by_case (roomed {t} f c d l) = agree (x.agrees t f c d l) (y.agrees t f c d l)
    by_case (cramped {t} f c d l) = agree (x.short t f c d l) (y.short t f c d l)
    by_case (apart {t} {u} {i} f c d ne q) = agree (x.differs t u i f c d ne q) (y.differs t u i f c d ne q)
    by_case (underived {e} f none z) = agree (x.refuses e f none z) (y.refuses e f none z)
    by_case (deep {t} {e} f c none z) = agree (x.deeper t e f c none z) (y.deeper t e f c none z)
