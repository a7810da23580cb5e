-- A table's rule at every kind, and what the three lookups say of one another. Assumes nothing.
use mathlib.Core.Path.{◌≡◌, refl, sym, ◌∙◌}
use mathlib.Core.Bool.{Bool, true, false, ◌&&◌, beq, and-eq-true_iff}
use mathlib.Core.List.{List, [], ◌∷◌}
use Rattle.std.proofs.Common.{Some, None}
use mathlib.Core.Logic.{by_cases}
use Prim.Native.Nat.{ℕ, ◌<◌}
use native.Mathlib.Decide.{ℕ_discrete}
use native.Mathlib.Omega.{arith}
use lib.Dec.{eqb, ltb}
use borrow.Author.Tests.{eq-eqb, ne_eqb, eqb-true, lt-ltb, ltb-true, ltb-false}
use Rattle.operators.specs.Ranks.{Row, row, binary, find, crate, manual, ranks, code, operator, binary_operator}
use Rattle.operators.specs.declared.Ranking.{Ranking}
use Rattle.operators.specs.declared.Ranking.TheVariants.{Crate, Manual}

-- the first row of a kind is its row
find_here : (k : ℕ) (x : Row) (xs : List Row) → k ≡ x.kind → find k (x ∷ xs) ≡ x
unfolding find
find_here k x xs e = rw (find, eq-eqb _ _ e)

pub find_later : (k : ℕ) (x : Row) (xs : List Row) → (k ≡ x.kind → ⊥) → find k (x ∷ xs) ≡ find k xs
unfolding find
find_later k x xs n = rw (find, ne_eqb _ _ n)

-- a test of two tables row by row, of the same kinds; for one table, it is given twice
abbrev pub each : (Row → Row → Bool) → List Row → List Row → Bool
each t [] [] = true
each t [] (y ∷ ys) = false
each t (x ∷ xs) [] = false
each t (x ∷ xs) (y ∷ ys) = eqb x.kind y.kind && (t x y && each t xs ys)

-- what holds of every row, and of what is no operator, holds at every kind
pub rule : (t : Row → Row → Bool) (k : ℕ) (xs ys : List Row) → each t xs ys ≡ true → t (row k 0 0 0) (row k 0 0 0) ≡ true → t (find k xs) (find k ys) ≡ true
unfolding find
rule t k [] [] e d = d
rule t k [] (y ∷ ys) e d = let z : ◌≡◌ {A = ℕ} 0 1 = cc in absurd (omega arith)
rule t k (x ∷ xs) [] e d = let z : ◌≡◌ {A = ℕ} 0 1 = cc in absurd (omega arith)
rule t k (x ∷ xs) (y ∷ ys) e d =
    let a = (and-eq-true_iff (eqb x.kind y.kind) _).0 e in
    let b = (and-eq-true_iff (t x y) _).0 a.1 in
    let s = eqb-true x.kind y.kind a.0 in
    by_cases (ℕ_discrete k x.kind)
    (λ q. rw (find_here k x xs q, find_here k y ys (q ∙ s)) b.0)
    (λ n. rw (find_later k x xs n, find_later k y ys (λ q. n (q ∙ sym s))) (rule t k xs ys b.1 d))

-- two answers that are the same
pub beq_at : (a b : Bool) → beq a b ≡ true → a ≡ b
beq_at true true e = refl
beq_at false false e = refl
beq_at true false e = sym e
beq_at false true e = e

-- the two rankings rank the same operators
pub same_operators : (k : ℕ) → ltb 0 (crate.left k) ≡ ltb 0 (manual.left k)
same_operators k = beq_at _ _ (rule (λ x y. beq (ltb 0 x.left) (ltb 0 y.left)) k (binary 10) (binary 3) refl refl)

-- what a lookup answers, taken apart
answered : (x : Row) (c : ℕ) (t : Bool) → ltb 0 x.left ≡ t → operator x ≡ Some c → (0 < x.left) × (x.code ≡ c)
answered x c true h e = let f = rw (operator, h) at e in (ltb-true _ _ h, (cc))
answered x c false h e = let f = rw (operator, h) at e in let z : ◌≡◌ {A = ℕ} 0 1 = cc in absurd (omega arith)

unanswered : (x : Row) (t : Bool) → ltb 0 x.left ≡ t → operator x ≡ None → t ≡ false
unanswered x true h e = let f = rw (operator, h) at e in cc
unanswered x false h e = refl

pub binary_found : (k c : ℕ) → binary_operator k ≡ Some c → code k ≡ c
unfolding binary_operator
binary_found k c e = (answered (find k (binary 10)) c _ refl e).1

as_crate : (g : Ranking) (k : ℕ) → ltb 0 ((ranks g).left k) ≡ ltb 0 (crate.left k)
as_crate Crate k = refl
as_crate Manual k = sym (same_operators k)

-- an operator has a left rank, and nothing else has
pub binary_left : (g : Ranking) (k c : ℕ) → binary_operator k ≡ Some c → 0 < (ranks g).left k
unfolding binary_operator
binary_left g k c e = ltb-true _ _ (as_crate g k ∙ lt-ltb _ _ (answered (find k (binary 10)) c _ refl e).0)

pub binary_none : (g : Ranking) (k : ℕ) → binary_operator k ≡ None → (ranks g).left k ≡ 0
unfolding binary_operator
binary_none g k e = omega (arith, ltb-false 0 ((ranks g).left k) (as_crate g k ∙ unanswered (find k (binary 10)) _ refl e))

pub end_left : (g : Ranking) → (ranks g).left 59 ≡ 0
unfolding find
end_left Crate = refl
end_left Manual = refl

-- a row is of the kind that was looked up
pub find_kind : (k : ℕ) (xs : List Row) → (find k xs).kind ≡ k
unfolding find
find_kind k [] = refl
find_kind k (x ∷ xs) = by_cases (ℕ_discrete k x.kind) (λ q. rw (find_here k x xs q) (sym q)) (λ n. rw (find_later k x xs n) (find_kind k xs))
