-- A kind among kinds: whether it is in a list. Assumes nothing.
use mathlib.Core.Path.{◌≡◌, refl, ap, ◌∙◌}
use mathlib.Core.List.{List, [], ◌∷◌}
use mathlib.Core.Bool.{Bool, true, false, ◌||◌}
use Prim.Native.Nat.{ℕ}
use borrow.Author.Tests.{eq-eqb, ne_eqb}
use Rattle.grammar.specs.Member.{member}

-- a kind that is known is among those that it is known to be among
pub among : {x k : ℕ} (ks : List ℕ) → x ≡ k → member x ks ≡ member k ks
among ks e = ap (λ (z : ℕ). member z ks) e

-- a list of one kind: it is that one
pub one : {x k : ℕ} → x ≡ k → member x (k ∷ []) ≡ true
one {x} {k} e = ap (λ (z : Bool). z || false) (eq-eqb x k e)

-- what holds of a kind that is none of these: `nor x (a ∷ b ∷ []) m n`, where m and n say that x is not a and not b
abbrev pub Unlike : ℕ → List ℕ → Type 0 → Type 0
Unlike x [] Z = Z
Unlike x (k ∷ ks) Z = (x ≡ k → ⊥) → Unlike x ks Z

pub unlike : {A B : Type 0} (x : ℕ) (ks : List ℕ) → (A → B) → Unlike x ks A → Unlike x ks B
unlike x [] f a = f a
unlike x (k ∷ ks) f a = λ n. unlike x ks f (a n)

pub nor : (x : ℕ) (ks : List ℕ) → Unlike x ks (member x ks ≡ false)
nor x [] = refl
nor x (k ∷ ks) = λ n. unlike x ks (λ e. ap (λ (z : Bool). z || member x ks) (ne_eqb x k n) ∙ e) (nor x ks)

-- a list of one kind: it is not that one
pub other : {x k : ℕ} → (x ≡ k → ⊥) → member x (k ∷ []) ≡ false
other {x} {k} n = nor x (k ∷ []) n
