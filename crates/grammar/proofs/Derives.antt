-- Another meaning of terms: which trees the tokens from one place to another derive. Nothing is said of steps, marks or refusals;
-- it stands between the grammar of section 9 and the reading. Assumes nothing: these are definitions.
use mathlib.Core.Path.{◌≡◌}
use mathlib.Core.List.{List}
use mathlib.Core.Bool.{Bool, true, false}
use Prim.Native.Nat.{ℕ, zero, suc, ◌+◌, ◌-◌, ◌≤◌, ◌<◌}
use Rattle.stream.specs.Words.{kind, payload}
use Rattle.operators.specs.Ranks.{Ranks, code}
use Rattle.tree.specs.Forest.{Forest, none, tree, join}
use Rattle.grammar.specs.Member.{member}
use Rattle.grammar.specs.Term.{Term, Look, far, Line, From, Shape}
use Rattle.grammar.specs.Term.{empty, expect, any, leaf, weigh, coded, plus, exp, operand, stat, ◌⨾◌, on, operator, node, lead, held, kept, iter, again}
use Rattle.grammar.specs.Reading.{line_of, Held, hold, start_of, shaped}
use Rattle.grammar.specs.Productions.{block, expression, statement}

-- the tokens from i up to j, not including j, derive these trees with this value
abbrev pub Phrase : Type 1
Phrase = (i j : ℕ) → Forest → ℕ → Type 0

-- the phrases one level down
pub record Phrases : Type 1 where
  pub exps : ℕ → Phrase
  pub stats : Phrase

-- `Derives .. h b e i j t v`: the tokens from i to j derive t with value v as e; `again` in e stands for b, and h is held
pub data Derives (s : List ℕ) (rank : Ranks) (limit : ℕ) (P : Phrases) : Held → Term → Term → ℕ → ℕ → Forest → ℕ → Type 0 where
  empty' : {h : Held} {b : Term} {i : ℕ} → Derives s rank limit P h b empty i i none 0
  expect' : {h : Held} {b : Term} {i k c : ℕ} {o : Bool} → kind s i ≡ k → Derives s rank limit P h b (expect k c o) i (i + 1) none 0
  any' : {h : Held} {b : Term} {i : ℕ} → (kind s i ≡ 59 → ⊥) → Derives s rank limit P h b any i (i + 1) none 0
  leaf' : {h : Held} {b : Term} {i tag : ℕ} → Derives s rank limit P h b (leaf tag) i i (tree tag (payload s (i - 1)) 0 (i - 1) none none) 0
  weigh' : {h : Held} {b : Term} {i : ℕ} → Derives s rank limit P h b weigh i i none (payload s (i - 1))
  coded' : {h : Held} {b : Term} {i : ℕ} → Derives s rank limit P h b coded i i none (code (kind s (i - 1)))
  plus' : {h : Held} {b : Term} {i w : ℕ} → Derives s rank limit P h b (plus w) i i none w
  exp' : {h : Held} {b : Term} {l i j v : ℕ} {t : Forest} → P.exps l i j t v → Derives s rank limit P h b (exp l) i j t v
  operand' : {h : Held} {b : Term} {i j v : ℕ} {t : Forest} → P.exps (rank.right (kind s (i - 1))) i j t v → Derives s rank limit P h b operand i j t v
  stat' : {h : Held} {b : Term} {i j v : ℕ} {t : Forest} → P.stats i j t v → Derives s rank limit P h b stat i j t v
  seq' : {h : Held} {b e f : Term} {i j k v w : ℕ} {t u : Forest} → Derives s rank limit P h b e i j t v → Derives s rank limit P h b f j k u w → Derives s rank limit P h b (e ⨾ f) i k (join t u) (v + w)
  this' : {h : Held} {b e f : Term} {l : Look} {ks : List ℕ} {i j v : ℕ} {t : Forest} → member (kind s (far l i)) ks ≡ true → Derives s rank limit P h b e i j t v → Derives s rank limit P h b (on l ks e f) i j t v
  that' : {h : Held} {b e f : Term} {l : Look} {ks : List ℕ} {i j v : ℕ} {t : Forest} → member (kind s (far l i)) ks ≡ false → Derives s rank limit P h b f i j t v → Derives s rank limit P h b (on l ks e f) i j t v
  above' : {h : Held} {b e f : Term} {i j v : ℕ} {t : Forest} → limit < rank.left (kind s i) → Derives s rank limit P h b e i j t v → Derives s rank limit P h b (operator e f) i j t v
  below' : {h : Held} {b e f : Term} {i j v : ℕ} {t : Forest} → rank.left (kind s i) ≤ limit → Derives s rank limit P h b f i j t v → Derives s rank limit P h b (operator e f) i j t v
  node' : {h : Held} {b e : Term} {f : From} {l : Line} {tag i j v : ℕ} {t : Forest} → Derives s rank limit P h b e i j t v
      → Derives s rank limit P h b (node tag f l e) i j (tree tag v (line_of s l (start_of h f i) j) (start_of h f i) t none) 0
  lead' : {h : Held} {b e f : Term} {i j k v w : ℕ} {t u : Forest} → Derives s rank limit P h b e i j t v → Derives s rank limit P (hold i j t) f f j k u w
      → Derives s rank limit P h b (lead e f) i k u (v + w)
  held' : {h : Held} {b : Term} {x : Shape} {i n : ℕ} → shaped x h.trees ≡ true → Derives s rank limit P h b (held x n) i i h.trees 0
  kept' : {h : Held} {b e : Term} {x : Shape} {i j n v : ℕ} {t : Forest} → shaped x t ≡ true → Derives s rank limit P h b e i j t v → Derives s rank limit P h b (kept x n e) i j t v
  iter' : {h : Held} {b e : Term} {i j v : ℕ} {t : Forest} → Derives s rank limit P h e e i j t v → Derives s rank limit P h b (iter e) i j t v
  again' : {h : Held} {b : Term} {i j v : ℕ} {t : Forest} → Derives s rank limit P h b b i j t v → Derives s rank limit P h b again i j t v

-- a production on its own: nothing is held, and `again` would stand for it
abbrev pub Alone : List ℕ → Ranks → ℕ → Phrases → Term → Phrase
Alone s rank limit P e i j t v = Derives s rank limit P (hold 0 0 none) e e i j t v

abbrev pub phrases : List ℕ → Ranks → ℕ → Phrases
phrases s rank zero = record { exps = λ l i j t v. ⊥; stats = λ i j t v. ⊥ }
phrases s rank (suc g) = record { exps = λ l. Alone s rank l (phrases s rank g) expression; stats = Alone s rank 0 (phrases s rank g) statement }

-- the tokens of the stream derive this tree
pub record Chunk (s : List ℕ) (rank : Ranks) (g : ℕ) (t : Forest) : Type 0 where
  pub end : ℕ
  pub all : kind s end ≡ 59
  pub value : ℕ
  pub derived : Alone s rank 0 (phrases s rank g) block 0 end t value
