-- Two rankings side by side along the operators of a chain. Assumes nothing: these are definitions.
use mathlib.Core.Bool.{Bool, true, false, ◌&&◌}
use mathlib.Core.List.{List, [], ◌∷◌}
use Prim.Native.Nat.{ℕ}
use lib.Dec.{ltb}

pub record Ranking (B : Type 0) : Type 0 where
  pub left : B → ℕ
  pub right : B → ℕ

-- two tests f and g walk along some operators: they must pass the same ones until both stop
abbrev pub step : Bool → Bool → Bool → Bool
step true true b = b
step true false b = false
step false true b = false
step false false b = true

abbrev pub walk : {B : Type 0} → (B → Bool) → (B → Bool) → List B → Bool
walk f g [] = true
walk f g (o ∷ s) = step (f o) (g o) (walk f g s)

-- for each operator o, R o and S o take as many of those after it
abbrev pub same : {B : Type 0} → (B → B → Bool) → (B → B → Bool) → List B → Bool
same R S [] = true
same R S (o ∷ s) = walk (R o) (S o) s && same R S s

-- the operators that the operand right of o takes
abbrev pub takes : {B : Type 0} → Ranking B → B → B → Bool
takes R o x = ltb (R.right o) (R.left x)
