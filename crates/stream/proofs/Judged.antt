-- The contract of `judge` leaves one answer, and there always is one. Assumes nothing.
use Rattle.std.proofs.Common.{◌≡◌, ℕ, zero, suc, ◌<◌, ◌≤◌, Bool, true, false, ◌⊎◌, List, sym, refl, ap, ◌∙◌, subst, inl, inr, Result, Ok, Err, arith}
use mathlib.Core.Bool.{false≢true}
use mathlib.Core.Logic.{by_cases}
use native.Mathlib.Decide.{dec_lt}
use Rattle.stream.specs.Words.{records}
use Rattle.stream.specs.Formed.{good, sized, Formed, Malformed, bad_length, bad_record, Judged}
use Rattle.stream.specs.declared.form.BadRecord.{BadRecord}

pub formed_not_malformed : {s : List ℕ} {p : ℕ} → Formed s → Malformed s p → ⊥
formed_not_malformed f (bad_length n) = false≢true (sym n ∙ f.size)
formed_not_malformed f (bad_record y b l n) = false≢true (sym n ∙ f.each _ l)

pub malformed_once : {s : List ℕ} {p q : ℕ} → Malformed s p → Malformed s q → p ≡ q
malformed_once (bad_length n) (bad_length m) = refl
malformed_once (bad_length n) (bad_record y b l m) = absurd (false≢true (sym n ∙ y))
malformed_once (bad_record y b l m) (bad_length n) = absurd (false≢true (sym n ∙ y))
malformed_once (bad_record {p} y b l n) (bad_record {p = q} z d k m) =
    by_cases (dec_lt p q) (λ h. absurd (false≢true (sym n ∙ d p h)))
    (λ g. by_cases (dec_lt q p) (λ h. absurd (false≢true (sym m ∙ b q h))) (λ h. omega arith))

pub decides : (s : List ℕ) (a b : Result Unit BadRecord) → Judged s a → Judged s b → a ≡ b
decides s (Ok a) (Ok b) f g = refl
decides s (Ok a) (Err e) f g = absurd (formed_not_malformed f g)
decides s (Err e) (Ok b) f g = absurd (formed_not_malformed g f)
decides s (Err e) (Err f) m n = ap (λ (p : ℕ). Err (record { index = p })) (malformed_once m n)

-- record by record: so many are good, or one of them is the first that is not
up_to : (s : List ℕ) → sized s ≡ true → (n : ℕ) → n ≤ records s → ((q : ℕ) → q < n → good s q ≡ true) ⊎ ((p : ℕ) × Malformed s p)
up_to s y zero l = inl (λ q h. absurd (omega arith))
up_to s y (suc n) l = go (up_to s y n (omega arith)) (good s n) refl
  where
    go : ((q : ℕ) → q < n → good s q ≡ true) ⊎ ((p : ℕ) × Malformed s p) → (b : Bool) → good s n ≡ b → ((q : ℕ) → q < suc n → good s q ≡ true) ⊎ ((p : ℕ) × Malformed s p)
    go (inr m) b e = inr m
    go (inl f) true e = inl (λ q h. by_cases (dec_lt q n) (f q) (λ g. let z : n ≡ q = omega arith in subst (λ (x : ℕ). good s x ≡ true) z e))
    go (inl f) false e = inr (n, bad_record y f l e)

-- every stream is well formed, or is told where it is not
pub formed_or_not : (s : List ℕ) → Formed s ⊎ ((p : ℕ) × Malformed s p)
formed_or_not s = by_size (sized s) refl
  where
    by_records : sized s ≡ true → ((q : ℕ) → q < records s → good s q ≡ true) ⊎ ((p : ℕ) × Malformed s p) → Formed s ⊎ ((p : ℕ) × Malformed s p)
    by_records y (inl f) = inl (record { size = y; each = f })
    by_records y (inr m) = inr m

    by_size : (b : Bool) → sized s ≡ b → Formed s ⊎ ((p : ℕ) × Malformed s p)
    by_size true y = by_records y (up_to s y (records s) (omega arith))
    by_size false n = inr (0, bad_length n)
