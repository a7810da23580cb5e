-- Kinds among kinds: what one computed test over two lists says of every kind. Assumes nothing.
use mathlib.Core.Path.{◌≡◌, ap, ◌∙◌}
use mathlib.Core.List.{List, [], ◌∷◌}
use mathlib.Core.Bool.{Bool, true, false, ◌&&◌, not}
use Prim.Native.Nat.{ℕ}
use lib.Dec.{eqb}
use borrow.Author.Tests.{eqb-true, not-true}
use Rattle.grammar.specs.Member.{member}
use Rattle.grammar.proofs.Tests.{wrong, and_left, and_right, or_elim}

-- no kind is in both; each of the first is in the second
abbrev pub disjoint : List ℕ → List ℕ → Bool
disjoint [] ys = true
disjoint (x ∷ xs) ys = not (member x ys) && disjoint xs ys

abbrev pub subset : List ℕ → List ℕ → Bool
subset [] ys = true
subset (x ∷ xs) ys = member x ys && subset xs ys

-- a kind that is known
pub known : {k x : ℕ} {r : Bool} (xs : List ℕ) → k ≡ x → member x xs ≡ r → member k xs ≡ r
known xs e h = ap (λ z. member z xs) e ∙ h

pub apart : (k : ℕ) (xs ys : List ℕ) → disjoint xs ys ≡ true → member k xs ≡ true → member k ys ≡ false
apart k [] ys h m = wrong m
apart k (x ∷ xs) ys h m =
    or_elim (eqb k x) (member k xs) m
    (λ e. known ys (eqb-true k x e) (not-true (member x ys) (and_left (not (member x ys)) (disjoint xs ys) h)))
    (λ e. apart k xs ys (and_right (not (member x ys)) (disjoint xs ys) h) e)

pub within : (k : ℕ) (xs ys : List ℕ) → subset xs ys ≡ true → member k xs ≡ true → member k ys ≡ true
within k [] ys h m = wrong m
within k (x ∷ xs) ys h m =
    or_elim (eqb k x) (member k xs) m
    (λ e. known ys (eqb-true k x e) (and_left (member x ys) (subset xs ys) h))
    (λ e. within k xs ys (and_right (member x ys) (subset xs ys) h) e)

-- the one kind of a list of one
pub only : {k x : ℕ} → member k (x ∷ []) ≡ true → k ≡ x
only {k} {x} m = or_elim (eqb k x) false m (λ e. eqb-true k x e) (λ e. wrong e)
