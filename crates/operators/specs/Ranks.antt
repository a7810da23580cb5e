-- The operators and their ranks: 01's table. Assumes nothing: these are definitions.
use Rattle.std.specs.Prelude.{List, [], ◌∷◌, true, false, ℕ, eqb, ltb, Option, Some, None}
use Rattle.stream.specs.Kinds.{Or, And, Equal, LessThan, LessEqual, GreaterThan, GreaterEqual, NotEqual, BitOr, BitNotXor, BitAnd, ShiftLeft, ShiftRight}
use Rattle.stream.specs.Kinds.{Concat, Add, Minus, Mul, Div, IDiv, Mod, Pow, Not, Len}
use Rattle.operators.specs.declared.Priority.{Priority}
use Rattle.operators.specs.declared.Ranking.{Ranking}
use Rattle.operators.specs.declared.Ranking.TheVariants.{Crate, Manual}

-- a token's kind, the operator's number in the tree (its place in 000's enum), its left and its right rank
pub record Row : Type 0 where
  pub kind : ℕ
  pub code : ℕ
  pub left : ℕ
  pub right : ℕ

abbrev pub row : (kind code left right : ℕ) → Row
row k c l r = record { kind = k; code = c; left = l; right = r }

-- the binary operators, where `~=` has the rank n
abbrev pub binary : (n : ℕ) → List Row
binary n =
    row Or 20 1 1
    ∷ row And 19 2 2
    ∷ row Equal 14 3 3
    ∷ row LessThan 15 3 3
    ∷ row LessEqual 16 3 3
    ∷ row GreaterThan 17 3 3
    ∷ row GreaterEqual 18 3 3
    ∷ row NotEqual 13 n n
    ∷ row BitOr 8 4 4
    ∷ row BitNotXor 9 5 5
    ∷ row BitAnd 7 6 6
    ∷ row ShiftLeft 10 7 7
    ∷ row ShiftRight 11 7 7
    ∷ row Concat 12 9 8
    ∷ row Add 0 10 10
    ∷ row Minus 1 10 10
    ∷ row Mul 2 11 11
    ∷ row Mod 3 11 11
    ∷ row Div 5 11 11
    ∷ row IDiv 6 11 11
    ∷ row Pow 4 14 13
    ∷ []

-- the unary operators, all of rank 12
abbrev pub unary : List Row
unary = row Not 0 12 12 ∷ row Minus 1 12 12 ∷ row BitNotXor 2 12 12 ∷ row Len 3 12 12 ∷ []

-- the row of a kind; what is no operator has rank 0
unfoldable pub find : ℕ → List Row → Row
find k [] = row k 0 0 0
find k (x ∷ xs) = elim (eqb k x.kind) [ true ↦ x | false ↦ find k xs ]

-- left and right rank of each kind
pub record Ranks : Type 0 where
  pub left : ℕ → ℕ
  pub right : ℕ → ℕ

abbrev pub ranked : List Row → Ranks
ranked rows = record { left = λ k. (find k rows).left; right = λ k. (find k rows).right }

-- `~=` is 10, 10 in the crate, 3, 3 in the manual
abbrev pub crate : Ranks
crate = ranked (binary 10)

abbrev pub manual : Ranks
manual = ranked (binary 3)

abbrev pub ranks : Ranking → Ranks
ranks Crate = crate
ranks Manual = manual

-- the numbers of operators don't depend on the ranking
abbrev pub code : ℕ → ℕ
code k = (find k (binary 10)).code

abbrev pub unary_code : ℕ → ℕ
unary_code k = (find k unary).code

-- what the lookups answer
abbrev pub operator : Row → Option ℕ
operator x = elim (ltb 0 x.left) [ true ↦ Some x.code | false ↦ None ]

unfoldable pub unary_operator : ℕ → Option ℕ
unary_operator k = operator (find k unary)

unfoldable pub binary_operator : ℕ → Option ℕ
binary_operator k = operator (find k (binary 10))

abbrev pub priority : Ranks → ℕ → Priority
priority rank k = record { left = rank.left k; right = rank.right k }
