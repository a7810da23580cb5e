-- One reading and what it promises: its number case by case, and that the array keeps its length. Assumes nothing.
use mathlib.Core.Path.{◌≡◌, ap, ◌∙◌}
use mathlib.Core.List.{List, ◌++◌}
use mathlib.Core.Logic.{◌⊎◌, inl, inr, by_cases}
use Prim.Native.Nat.{ℕ, ◌*◌, ◌≤◌}
use native.Mathlib.Decide.{dec_lt}
use native.Mathlib.Omega.{arith}
use lib.ListN.{length, drop, length-append, length-drop, length-replicate}
use Rattle.stream.specs.Formed.{Formed, Malformed}
use Rattle.stream.specs.declared.reader.Refusal.{Refusal}
use Rattle.stream.proofs.Judged.{formed_or_not}
use Rattle.operators.specs.Ranks.{ranks}
use Rattle.operators.specs.declared.Ranking.{Ranking}
use Rattle.tree.specs.Forest.{Forest, size, flat}
use Rattle.tree.proofs.Lay.{length_flat}
use Rattle.grammar.specs.Grammar.{Chunk}
use Rattle.grammar.specs.Reading.{fail}
use Rattle.grammar.specs.Levels.{chunk}
use Rattle.grammar.proofs.Bounds.{Numbered}
use Rattle.grammar.proofs.Sides.{Side, derived, refused, side, refused_none, numbers}
use Rattle.parser.specs.declared.Answer.{Answer}
use Rattle.parser.specs.Answered.{Answered, Zeroed}

zeroed_length : (n : List ℕ) {n' : List ℕ} → Zeroed n n' → length n' ≡ length n
zeroed_length n e = ap length e ∙ length-replicate (length n) 0

words_length : (n : List ℕ) (t : Forest) → size t * 4 ≤ length n → length (flat t ++ drop (size t * 4) n) ≡ length n
words_length n t l = omega (arith, length-append (flat t) (drop (size t * 4) n), length_flat t, length-drop (size t * 4) n)

module _ (s : List ℕ) (r : Ranking) {n n' : List ℕ} {a : Answer} (x : Answered s r n n' a) where
  told : {b : Answer} → a ≡ b → a.number ≡ b.number
  told e = ap (λ (z : Answer). z.number) e

  -- its numbers, case by case
  pub accepted : {t : Forest} → Formed s → Chunk s (ranks r) 199 t → (a.number ≡ 0) ⊎ (a.number ≡ 7)
  accepted {t} f d = by_cases (dec_lt (length n) (size t * 4)) (λ l. inr (told (x.short t f d l).0)) (λ l. inl (told (x.accepts t f d (omega arith)).0))

  pub declined : {e : Refusal} → Formed s → chunk s (ranks r) 199 ≡ fail e → Numbered a.number
  declined {e} f c = let z = told (x.refuses e f (refused_none s r 199 c) c).0 in let k = numbers s r 199 f c in omega arith

  -- the array keeps its length
  pub kept : length n' ≡ length n
  kept = by_form (formed_or_not s)
    where
      by_side : Formed s → Side s r 199 → length n' ≡ length n
      by_side f (derived {t} d) =
          by_cases (dec_lt (length n) (size t * 4)) (λ l. zeroed_length n (x.short t f d l).1)
          (λ l. let k : size t * 4 ≤ length n = omega arith in ap length (x.accepts t f d k).1 ∙ words_length n t k)
      by_side f (refused {e} none c) = zeroed_length n (x.refuses e f none c).1

      by_form : Formed s ⊎ ((p : ℕ) × Malformed s p) → length n' ≡ length n
      by_form (inl f) = by_side f (side s r 199)
      by_form (inr b) = zeroed_length n (x.malformed b.0 b.1).1
