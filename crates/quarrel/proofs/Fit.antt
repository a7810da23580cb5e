-- What a tree says of a ranking: each operator stands above the limit it is read under, and each operand ends where no operator above its limit comes next.
-- And the shape of such a tree: operators stand among the parts of an expression and nowhere else, and no expression's record stands there.
-- Assumes nothing: these are definitions.
use mathlib.Core.Path.{◌≡◌}
use mathlib.Core.Bool.{Bool, true, ◌&&◌, not}
use mathlib.Core.List.{List, [], ◌∷◌, ◌++◌}
use Prim.Native.Nat.{ℕ, ◌≤◌, ◌<◌}
use Rattle.stream.specs.Words.{kind}
use Rattle.operators.specs.Ranks.{Ranks}
use Rattle.tree.specs.Forest.{Forest, none, tree}
use Rattle.quarrel.specs.Chains.{Op, expression, unary, tail, operators}

-- a record's tag that is neither an expression's, nor a tail's, nor a unary operator's
abbrev pub apart : ℕ → Bool
apart tag = not (expression tag) && (not (tail tag) && not (unary tag))

-- the first of these operators, if there is one, is not above the limit
abbrev pub Stop : Ranks → ℕ → List Op → Type 0
Stop rank l [] = Unit {0}
Stop rank l (o ∷ os) = rank.left o.sort ≤ l

module _ (s : List ℕ) (rank : Ranks) where
  mutual
    -- the parts of an expression under a limit, where the operators os come after it in its chain
    pub data Fit : ℕ → Forest → List Op → Type 0 where
      ends : {l : ℕ} {os : List Op} → Stop rank l os → Fit l none os
      tailed : {l v n p : ℕ} {k r : Forest} {os : List Op} → l < rank.left (kind s p) → Right (rank.right (kind s p)) k (operators s r ++ os) → Fit l r os → Fit l (tree 19 v n p k r) os
      signed : {l v n p : ℕ} {k r : Forest} {os : List Op} → Right 12 k (operators s r ++ os) → Fit l r os → Fit l (tree 18 v n p k r) os
      atom : {l tag v n p : ℕ} {k r : Forest} {os : List Op} → apart tag ≡ true → Fits k → Fit l r os → Fit l (tree tag v n p k r) os

    -- an operand's record
    pub data Right : ℕ → Forest → List Op → Type 0 where
      right : {l tag v n p : ℕ} {k r : Forest} {os : List Op} → Fit l k os → Right l (tree tag v n p k r) os

    -- trees around expressions
    pub data Fits : Forest → Type 0 where
      nothing : Fits none
      whole : {v n p : ℕ} {k r : Forest} → Fit 0 k [] → Fits r → Fits (tree 17 v n p k r)
      part : {tag v n p : ℕ} {k r : Forest} → apart tag ≡ true → Fits k → Fits r → Fits (tree tag v n p k r)
