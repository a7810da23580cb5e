-- A kind among kinds. Assumes nothing: these are definitions.
use Rattle.std.specs.Prelude.{List, [], ◌∷◌, Bool, false, ◌||◌, ℕ, eqb}

abbrev pub member : ℕ → List ℕ → Bool
member k [] = false
member k (x ∷ xs) = eqb k x || member k xs
