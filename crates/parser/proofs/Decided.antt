-- The promise of a reading leaves one answer, and no array of four records a token and one more is too short. Assumes nothing.
use mathlib.Core.Path.{◌≡◌, sym, ap, ◌∙◌, subst}
use mathlib.Core.List.{List}
use mathlib.Core.Logic.{◌⊎◌, inl, inr, by_cases}
use Prim.Native.Nat.{ℕ, ◌+◌, ◌*◌, ◌-◌, ◌≤◌, ◌<◌}
use native.Mathlib.Decide.{dec_lt}
use native.Mathlib.Omega.{arith}
use lib.ListN.{length}
use Rattle.stream.specs.Words.{records}
use Rattle.stream.specs.Formed.{Formed, Malformed}
use Rattle.stream.specs.declared.reader.Refusal.{Refusal}
use Rattle.stream.proofs.Judged.{formed_or_not}
use Rattle.operators.specs.Ranks.{ranks}
use Rattle.operators.specs.declared.Ranking.{Ranking}
use Rattle.tree.specs.Forest.{Forest, size}
use Rattle.grammar.specs.Grammar.{Chunk}
use Rattle.grammar.specs.Reading.{fail}
use Rattle.grammar.specs.Levels.{chunk}
use Rattle.grammar.proofs.Bounds.{Bounded, bounded}
use Rattle.grammar.proofs.Theorems.{complete, small, is_ranked}
use Rattle.grammar.proofs.Sides.{Side, derived, refused, side, numbers}
use Rattle.parser.specs.Answered.{Answered}
use Rattle.parser.specs.declared.Answer.{Answer}

-- the four cases of the promise
data Case (s : List ℕ) (r : Ranking) (levels : ℕ) (n : List ℕ) : Type 0 where
  bad : {p : ℕ} → Malformed s p → Case s r levels n
  roomed : {t : Forest} → Formed s → Chunk s (ranks r) levels t → size t * 4 ≤ length n → Case s r levels n
  cramped : {t : Forest} → Formed s → Chunk s (ranks r) levels t → length n < size t * 4 → Case s r levels n
  underived : {e : Refusal} → Formed s → ((t : Forest) → Chunk s (ranks r) levels t → ⊥) → chunk s (ranks r) levels ≡ fail e → Case s r levels n

module _ (s : List ℕ) (r : Ranking) (levels : ℕ) where
  -- there always is one: by the stream, by its reading, and by the tree's size
  the_case : (n : List ℕ) → Case s r levels n
  the_case n = by_form (formed_or_not s)
    where
      by_side : Formed s → Side s r levels → Case s r levels n
      by_side f (derived {t} d) = by_cases (dec_lt (length n) (size t * 4)) (λ l. cramped f d l) (λ l. roomed f d (omega arith))
      by_side f (refused none x) = underived f none x

      by_form : Formed s ⊎ ((p : ℕ) × Malformed s p) → Case s r levels n
      by_form (inl f) = by_side f (side s r levels)
      by_form (inr b) = bad b.1

  -- the size of a tree
  tree_fits : {t : Forest} → Formed s → Chunk s (ranks r) levels t → size t ≤ 4 * (records s - 1) + 1
  tree_fits f d =
      let l : d.end < records s = subst (Bounded s) (complete s (ranks r) levels (is_ranked r) d).1 (bounded s f (ranks r) levels) in
      omega (arith, small s (ranks r) levels (is_ranked r) d)

-- two that are the same as a third
pub agree : {A B : Type 0} {a b c : A} {x y z : B} → (a ≡ c) × (x ≡ z) → (b ≡ c) × (y ≡ z) → (a ≡ b) × (x ≡ y)
agree p q = (p.0 ∙ sym q.0, p.1 ∙ sym q.1)

module _ (s : List ℕ) (r : Ranking) (n : List ℕ) where
  -- no second answer would do
  pub decided : {n' n'' : List ℕ} {a b : Answer} → Answered s r n n' a → Answered s r n n'' b → (a ≡ b) × (n' ≡ n'')
  decided {n'} {n''} {a} {b} x y = by_case (the_case s r 199 n)
    where
      by_case : Case s r 199 n → (a ≡ b) × (n' ≡ n'')
      by_case (bad {p} m) = agree (x.malformed p m) (y.malformed p m)
      by_case (roomed {t} f d l) = agree (x.accepts t f d l) (y.accepts t f d l)
      by_case (cramped {t} f d l) = agree (x.short t f d l) (y.short t f d l)
      by_case (underived {e} f none c) = agree (x.refuses e f none c) (y.refuses e f none c)

  -- a caller who lends four records a token and one more never sees 7
  pub roomy : {n' : List ℕ} {a : Answer} → (4 * (records s - 1) + 1) * 4 ≤ length n → Answered s r n n' a → a.number ≡ 7 → ⊥
  roomy {n'} {a} room x seven = by_case (the_case s r 199 n)
    where
      told : {b : Answer} → a ≡ b → 7 ≡ b.number
      told e = sym seven ∙ ap (λ (z : Answer). z.number) e

      by_case : Case s r 199 n → ⊥
      by_case (bad {p} m) = omega (arith, told (x.malformed p m).0)
      by_case (roomed {t} f d l) = omega (arith, told (x.accepts t f d l).0)
      by_case (cramped f d l) = omega (arith, tree_fits s r 199 f d)
      by_case (underived {e} f none c) = omega (arith, told (x.refuses e f none c).0, numbers s r 199 f c)
