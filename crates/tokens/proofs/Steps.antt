-- Where the cursor's functions lead, case by case. Assumes nothing.
use mathlib.Core.Path.{◌≡◌, refl, sym, ap, ◌∙◌}
use mathlib.Core.List.{List}
use Rattle.std.proofs.Common.{is_err, true}
use mathlib.Core.Bool.{false≢true}
use mathlib.Core.Logic.{by_cases}
use Prim.Native.Nat.{ℕ, zero, suc, ◌+◌, ◌-◌, ◌<◌}
use native.Mathlib.Decide.{ℕ_discrete}
use native.Mathlib.Omega.{arith}
use borrow.Author.Tests.{eq-eqb, ne_eqb}
use Rattle.stream.specs.Words.{kind}
use Rattle.stream.specs.Reader.{at_end, read_ahead, passed, take_next, look_ahead}
use Rattle.stream.specs.declared.reader.Cursor.{Cursor}
use Rattle.stream.proofs.Reading.{take_end, take_token}
use Rattle.tokens.specs.Steps.{stepped, steps}

module _ (s : List ℕ) (c : Cursor) where
  pub looks : (n : ℕ) → (look_ahead s c n).1 ≡ read_ahead s c (n + 1)
  unfolding look_ahead
  looks n = refl

  pub step_end : kind s c.place ≡ 59 → stepped s c ≡ read_ahead s c 1
  unfolding stepped
  step_end e = rw (stepped, at_end, eq-eqb _ _ e)

  pub step_token : (kind s c.place ≡ 59 → ⊥) → stepped s c ≡ passed (read_ahead s c 1)
  unfolding stepped
  step_token n = rw (stepped, at_end, ne_eqb _ _ n)

  pub leads : (take_next s c).1 ≡ stepped s c
  leads =
      by_cases (ℕ_discrete (kind s c.place) 59)
      (λ e. rw (take_end s c e) (sym (step_end e)))
      (λ n. rw (take_token s c n) (sym (step_token n)))

  only_at_end : is_err (take_next s c).0 ≡ true → kind s c.place ≡ 59
  only_at_end e = by_cases (ℕ_discrete (kind s c.place) 59) (λ k. k) (λ n. absurd (false≢true (rw (take_token s c n) at e)))

-- a step from the end of the stream leads nowhere
again : (s : List ℕ) (c : Cursor) → kind s c.place ≡ 59 → stepped s (read_ahead s c 1) ≡ read_ahead s c 1
again s c e = let m : (read_ahead s (read_ahead s c 1) 1).mark ≡ (read_ahead s c 1).mark = omega arith in step_end s (read_ahead s c 1) e ∙ (λ i. record { place = c.place; mark = m i; note = c.note })

still : (s : List ℕ) (c : Cursor) → stepped s c ≡ c → (n : ℕ) → steps s c n ≡ c
still s c e zero = refl
still s c e (suc n) = ap (λ d. steps s d n) e ∙ still s c e n

pub first : (s : List ℕ) (c : Cursor) (n : ℕ) → 0 < n → steps s c n ≡ steps s (stepped s c) (n - 1)
first s c zero l = absurd (omega arith)
first s c (suc n) l = let e : suc n - 1 ≡ n = omega arith in ap (steps s (stepped s c)) (sym e)

-- where no token is left, so many steps lead no further than one
pub steps_failed : (s : List ℕ) (c : Cursor) (n : ℕ) → 0 < n → is_err (take_next s c).0 ≡ true → steps s c n ≡ stepped s c
steps_failed s c n l e =
    let k = only_at_end s c e in
    let d = step_end s c k in
    first s c n l ∙ still s (stepped s c) (ap (stepped s) d ∙ again s c k ∙ sym d) (n - 1)
