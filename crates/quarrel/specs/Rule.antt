-- 01's quarrel rule, in its own words, over the operators of a chain in token order. Assumes nothing: these are definitions.
use Rattle.std.specs.Prelude.{◌≡◌, true, false, List, [], ◌∷◌, ◌++◌, ◌⊎◌, ℕ, ◌≤◌}
use Rattle.stream.specs.Kinds.{And, Or, Minus, Add, BitNotXor, BitAnd, BitOr, ShiftRight, ShiftLeft, Concat, LessThan, LessEqual, GreaterThan, GreaterEqual, Equal, NotEqual}
use Rattle.tree.specs.Forest.{Forest}
use Rattle.grammar.specs.Member.{member}
use Rattle.quarrel.specs.Chains.{Op, chains}

-- and or
abbrev pub cuts : List ℕ
cuts = And ∷ Or ∷ []

-- == < <= > >= | ~ & << >> ..
abbrev pub firsts : List ℕ
firsts = Equal ∷ LessThan ∷ LessEqual ∷ GreaterThan ∷ GreaterEqual ∷ BitOr ∷ BitNotXor ∷ BitAnd ∷ ShiftLeft ∷ ShiftRight ∷ Concat ∷ []

-- | ~ & << >> .. + -
abbrev pub seconds : List ℕ
seconds = BitOr ∷ BitNotXor ∷ BitAnd ∷ ShiftLeft ∷ ShiftRight ∷ Concat ∷ Add ∷ Minus ∷ []

-- == < <= > >= ~=
abbrev pub halts : List ℕ
halts = Equal ∷ LessThan ∷ LessEqual ∷ GreaterThan ∷ GreaterEqual ∷ NotEqual ∷ []

-- none of these operators is of one of these kinds
pub data None (ks : List ℕ) : List Op → Type 0 where
  nothing : None ks []
  other : {o : Op} {os : List Op} → member o.sort ks ≡ false → None ks os → None ks (o ∷ os)

-- one of the firsts stands among them, in the last piece
pub record Stands (os : List Op) : Type 0 where
  pub early : List Op
  pub one : Op
  pub late : List Op
  pub split : os ≡ early ++ one ∷ late
  pub is : member one.sort firsts ≡ true
  pub uncut : None cuts late

-- one of the seconds comes among them, in the first piece and before a comparison
pub record Comes (os : List Op) : Type 0 where
  pub early : List Op
  pub one : Op
  pub late : List Op
  pub split : os ≡ early ++ one ∷ late
  pub is : member one.sort seconds ≡ true
  pub uncut : None cuts early
  pub unhalted : None halts early

-- a `~=` of a chain quarrels
pub record Quarrels (os : List Op) (x : Op) : Type 0 where
  pub before : List Op
  pub after : List Op
  pub split : os ≡ before ++ x ∷ after
  pub unequal : x.sort ≡ NotEqual
  pub why : Stands before ⊎ Comes after

-- one of the chains
pub data In : List Op → List (List Op) → Type 0 where
  here : {c : List Op} {cs : List (List Op)} → In c (c ∷ cs)
  there : {c d : List Op} {cs : List (List Op)} → In c cs → In c (d ∷ cs)

-- the token at i is a `~=` that quarrels, in some chain of these trees; and the first that does
pub record Quarrelling (s : List ℕ) (t : Forest) (i : ℕ) : Type 0 where
  pub chain : List Op
  pub its : In chain (chains s t)
  pub one : Op
  pub quarrels : Quarrels chain one
  pub there : one.place ≡ i

pub record First (s : List ℕ) (t : Forest) (i : ℕ) : Type 0 where
  pub quarrelling : Quarrelling s t i
  pub lowest : (j : ℕ) → Quarrelling s t j → i ≤ j
