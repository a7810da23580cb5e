-- The chains of a tree: the binary operators of one expression at one bracket level, in token order. Assumes nothing: these are definitions.
use Rattle.std.specs.Prelude.{Bool, true, false, ◌||◌, List, [], ◌∷◌, ◌++◌, ℕ, eqb}
use Rattle.stream.specs.Words.{kind}
use Rattle.tree.specs.Forest.{Forest, none, tree}

-- an operator: the token's kind, and its index
pub record Op : Type 0 where
  pub sort : ℕ
  pub place : ℕ

abbrev pub op : List ℕ → ℕ → Op
op s p = record { sort = kind s p; place = p }

-- a unary operator's record and a tail's hold one expression, which goes on with the chain; every other record's expressions have chains of their own
abbrev pub expression : ℕ → Bool
expression tag = eqb tag 17

abbrev pub unary : ℕ → Bool
unary tag = eqb tag 18

abbrev pub tail : ℕ → Bool
tail tag = eqb tag 19

-- the operators among the parts of an expression, and of the expression that a unary operator or a tail holds
abbrev mutual
  pub operators : List ℕ → Forest → List Op
  operators s none = []
  operators s (tree tag value line place kids rest) =
      elim (tail tag) [
        | true ↦ op s place ∷ operand s kids ++ operators s rest
        | false ↦ elim (unary tag) [ true ↦ operand s kids ++ operators s rest | false ↦ operators s rest ]
      ]

  pub operand : List ℕ → Forest → List Op
  operand s none = []
  operand s (tree tag value line place kids rest) = operators s kids

-- every chain of some trees: each expression's own, and those within its operands; and those within the parts of an expression
abbrev mutual
  pub chains : List ℕ → Forest → List (List Op)
  chains s none = []
  chains s (tree tag value line place kids rest) =
      elim (expression tag) [ true ↦ operators s kids ∷ within s kids | false ↦ chains s kids ] ++ chains s rest

  pub within : List ℕ → Forest → List (List Op)
  within s none = []
  within s (tree tag value line place kids rest) =
      elim (tail tag || unary tag) [ true ↦ inner s kids | false ↦ chains s kids ] ++ within s rest

  pub inner : List ℕ → Forest → List (List Op)
  inner s none = []
  inner s (tree tag value line place kids rest) = within s kids
