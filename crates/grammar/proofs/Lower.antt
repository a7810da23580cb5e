-- The phrases one level down, of the grammar and of the terms: what each says of the other. Then what Up and Down both use. Assumes nothing.
use mathlib.Core.Path.{◌≡◌, subst}
use mathlib.Core.List.{List, [], ◌∷◌}
use Prim.Native.Nat.{ℕ, ◌+◌, ◌-◌}
use native.Mathlib.Omega.{arith}
use Rattle.stream.specs.Kinds.{Name, LeftParen, DoubleColon, Break, Goto, Do, While, Repeat, If, For, Function, Local, Comma, Assign}
use Rattle.stream.specs.Words.{kind}
use Rattle.tree.specs.Forest.{Forest, none, tree}
use Rattle.grammar.specs.Grammar.{Among, Ends, first_exp}
use Rattle.grammar.specs.Grammar as G
use Rattle.grammar.proofs.Derives.{Phrases}

-- what begins a stat that is no `;`
abbrev pub stat_tokens : List ℕ
stat_tokens = Name ∷ LeftParen ∷ DoubleColon ∷ Break ∷ Goto ∷ Do ∷ While ∷ Repeat ∷ If ∷ For ∷ Function ∷ Local ∷ []

pub record Lower (s : List ℕ) (P : G.Phrases) (Q : Phrases) : Type 0 where
  pub exp_to : {l i j : ℕ} {t : Forest} → P.exps l i j t → Q.exps l i j t 0
  pub exp_from : {l i j v : ℕ} {t : Forest} → Q.exps l i j t v → P.exps l i j t × (v ≡ 0)
  -- the terms take a call that `=` or `,` follows for the first of some targets
  pub stat_to : {i j : ℕ} {t : Forest} → P.stats i j t → Ends s (Assign ∷ Comma ∷ []) j → Q.stats i j t 0
  pub stat_from : {i j v : ℕ} {t : Forest} → Q.stats i j t v → P.stats i j t × (v ≡ 0)
  pub exp_first : {l i j : ℕ} {t : Forest} → P.exps l i j t → Among s first_exp i
  pub stat_first : {i j : ℕ} {t : Forest} → P.stats i j t → Among s stat_tokens i
  -- an expression that begins with a name that `=` follows is that name
  pub name_exp : {i j : ℕ} {t : Forest} → P.exps 0 i j t → kind s i ≡ Name → kind s (i + 1) ≡ Assign → j ≡ i + 1

-- a tree with an equal value and equal children
pub retree : {tag v v' l p : ℕ} {t t' : Forest} (A : Forest → Type 0) → v ≡ v' → t ≡ t' → A (tree tag v l p t none) → A (tree tag v' l p t' none)
retree A e f a = subst A (cc) a

-- a count that is another name of a value
pub revalue : {v v' : ℕ} {t : Forest} (A : ℕ → Forest → Type 0) → v ≡ v' → A v t → A v' t
revalue {t = t} A e a = subst (λ n. A n t) e a

-- the token before the one after it
pub before : (i : ℕ) → i + 1 - 1 ≡ i
before i = omega arith
