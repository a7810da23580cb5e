-- What the answer of a test tells: of two tests, and of a choice that is made by it. Assumes nothing.
use mathlib.Core.Path.{◌≡◌, refl, sym}
use mathlib.Core.Bool.{Bool, true, false, ◌&&◌, ◌||◌, false≢true}

pub wrong {ℓ} : {A : Type ℓ} → false ≡ true → A
wrong h = absurd (false≢true h)

pub and_left : (a b : Bool) → (a && b) ≡ true → a ≡ true
and_left true b h = refl
and_left false b h = h

pub and_right : (a b : Bool) → (a && b) ≡ true → b ≡ true
and_right true b h = h
and_right false b h = wrong h

pub and_both : (a b : Bool) → a ≡ true → b ≡ true → (a && b) ≡ true
and_both true b h k = k
and_both false b h k = h

pub or_elim : {A : Type 0} (a b : Bool) → (a || b) ≡ true → (a ≡ true → A) → (b ≡ true → A) → A
or_elim true b h f g = f refl
or_elim false b h f g = g h

-- if the first, then the second
unfoldable pub imp : Bool → Bool → Bool
imp true b = b
imp false b = true

pub imp_at : (a b : Bool) → imp a b ≡ true → a ≡ true → b ≡ true
unfolding imp
imp_at true b h k = h
imp_at false b h k = wrong k

pub yes_case : {A : Type 0} (c : Bool) (x y : A) → c ≡ true → elim c as (λ z. A) [ true ↦ x | false ↦ y ] ≡ x
yes_case true x y h = refl
yes_case false x y h = wrong h

pub no_case : {A : Type 0} (c : Bool) (x y : A) → c ≡ false → elim c as (λ z. A) [ true ↦ x | false ↦ y ] ≡ y
no_case true x y h = wrong (sym h)
no_case false x y h = refl
