-- The meaning of terms: how far a reading comes, with the mark, or why it is refused. Assumes nothing: these are definitions.
use Rattle.std.specs.Prelude.{List, [], ◌∷◌, Bool, true, false, ◌&&◌, ℕ, zero, suc, ◌+◌, ◌-◌, length, eqb, ltb}
use Rattle.stream.specs.Words.{kind, payload, line}
use Rattle.stream.specs.Reader.{reached, told}
use Rattle.stream.specs.declared.reader.Refusal.{Refusal}
use Rattle.operators.specs.Ranks.{Ranks, code}
use Rattle.tree.specs.Forest.{Forest, none, tree, join}
use Rattle.grammar.specs.Member.{member}
use Rattle.grammar.specs.Term.{Term, Look, ahead, next, check, second, far, must, Line, opening, closing, unlined, From, here, back, Shape, target, call}
use Rattle.grammar.specs.Term.{empty, expect, any, leaf, weigh, coded, plus, exp, operand, stat, ◌⨾◌, on, operator, refuse, node, lead, held, kept, iter, again}

-- a record's line: it starts at i, and its last token stands before j
abbrev pub line_of : List ℕ → Line → ℕ → ℕ → ℕ
line_of s opening i j = line s i
line_of s closing i j = line s j
line_of s unlined i j = 0

-- what is held: where it starts and ends, and its trees
pub record Held : Type 0 where
  pub start : ℕ
  pub end : ℕ
  pub trees : Forest

abbrev pub hold : ℕ → ℕ → Forest → Held
hold i j t = record { start = i; end = j; trees = t }

abbrev pub start_of : Held → From → ℕ → ℕ
start_of h here i = i
start_of h back i = h.start

-- the tag of the last tree
abbrev pub last : ℕ → Forest → ℕ
last tag none = tag
last tag (tree tag' value line place kids rest) = last tag' rest

-- the suffixed expression ends in a name, a field or an index; in a call
abbrev pub ends : Shape → ℕ → Bool
ends target tag = member tag (30 ∷ 32 ∷ 33 ∷ [])
ends call tag = member tag (34 ∷ 35 ∷ [])

abbrev pub shaped : Shape → Forest → Bool
shaped h none = false
shaped h (tree tag value line place kids rest) = eqb tag 29 && ends h (last 0 kids)

pub data Out : Type 0 where
  fine : (place mark : ℕ) (trees : Forest) (value : ℕ) → Out
  fail : Refusal → Out

abbrev pub Reader : Type 0
Reader = (place mark : ℕ) → Out

-- the readers one level down
pub record Readers : Type 0 where
  pub exps : ℕ → Reader
  pub stats : Reader

-- how far a look moves the mark
abbrev pub reach : Look → ℕ
reach ahead = 2
reach next = 2
reach check = 1
reach second = 2

abbrev pub ended : List ℕ → ℕ → ℕ → Out
ended s m code = fail (record { number = 2; line = told s m; found = 0; expected = code })

abbrev pub deep : List ℕ → ℕ → Out
deep s m = fail (record { number = 5; line = told s m; found = 0; expected = 0 })

-- another token than this was expected; `own` tells the token's line, else the reading line
abbrev pub unexpected : List ℕ → ℕ → ℕ → ℕ → Bool → Out
unexpected s p m code own =
    elim (eqb (kind s p) 59) [
      | true ↦ ended s m code
      | false ↦ fail (record { number = 1; line = elim own [ true ↦ line s p | false ↦ told s m ]; found = p; expected = code })
    ]

-- trees and value before what is read
abbrev pub add : Forest → ℕ → Out → Out
add t v (fine q m u w) = fine q m (join t u) (v + w)
add t v (fail e) = fail e

abbrev pub then : Out → Reader → Out
then (fine q m t v) f = add t v (f q m)
then (fail e) f = fail e

-- what is held before what is read
abbrev pub leads : Out → (Forest → Reader) → Out
leads (fine q m t v) f = add none v (f t q m)
leads (fail e) f = fail e

-- the trees must have this shape
abbrev pub keep : Shape → Refusal → Out → Out
keep x r (fine q m t v) = elim (shaped x t) [ true ↦ fine q m t v | false ↦ fail r ]
keep x r (fail e) = fail e

-- a refusal that tells the line after what is held
abbrev pub misfit : List ℕ → Held → ℕ → Refusal
misfit s h n = record { number = n; line = line s h.end; found = 0; expected = 0 }

abbrev pub wrap : List ℕ → ℕ → Line → ℕ → Out → Out
wrap s tag l i (fine q m t v) = fine q m (tree tag v (line_of s l i q) i t none) 0
wrap s tag l i (fail e) = fail e

-- a reader in terms of itself, so many times
abbrev pub loop : List ℕ → ℕ → (Reader → Reader) → Reader
loop s zero f p m = ended s m 0
loop s (suc n) f p m = f (loop s n f) p m

-- `read .. h e A`: the term e, where A reads `again` and h is held
unfoldable pub read : List ℕ → Ranks → ℕ → Readers → Held → Term → Reader → Reader
read s rank limit R h empty A p m = fine p m none 0
read s rank limit R h (expect k c o) A p m = elim (eqb (kind s p) k) [ true ↦ fine (p + 1) (reached s m p 2) none 0 | false ↦ unexpected s p (reached s m p 2) c o ]
read s rank limit R h any A p m = elim (eqb (kind s p) 59) [ true ↦ ended s (reached s m p 2) 0 | false ↦ fine (p + 1) (reached s m p 2) none 0 ]
read s rank limit R h (leaf tag) A p m = fine p m (tree tag (payload s (p - 1)) 0 (p - 1) none none) 0
read s rank limit R h weigh A p m = fine p m none (payload s (p - 1))
read s rank limit R h coded A p m = fine p m none (code (kind s (p - 1)))
read s rank limit R h (plus w) A p m = fine p m none w
read s rank limit R h (exp l) A p m = R.exps l p m
read s rank limit R h operand A p m = R.exps (rank.right (kind s (p - 1))) p m
read s rank limit R h stat A p m = R.stats p m
read s rank limit R h (a ⨾ b) A p m = then (read s rank limit R h a A p m) (read s rank limit R h b A)
read s rank limit R h (on l ks a b) A p m =
    elim (must l && eqb (kind s p) 59) [
      | true ↦ ended s (reached s m p 2) 0
      | false ↦ elim (member (kind s (far l p)) ks) [ true ↦ read s rank limit R h a A p (reached s m p (reach l)) | false ↦ read s rank limit R h b A p (reached s m p (reach l)) ]
    ]
read s rank limit R h (operator a b) A p m = elim (ltb limit (rank.left (kind s p))) [ true ↦ read s rank limit R h a A p (reached s m p 2) | false ↦ read s rank limit R h b A p (reached s m p 2) ]
read s rank limit R h (refuse c) A p m = unexpected s p m c true
read s rank limit R h (node tag f l e) A p m = wrap s tag l (start_of h f p) (read s rank limit R h e A p m)
read s rank limit R h (lead a b) A p m = leads (read s rank limit R h a A p m) (λ t q. loop s (suc (length s)) (read s rank limit R (hold p q t) b) q)
read s rank limit R h (held x n) A p m = keep x (misfit s h n) (fine p m h.trees 0)
read s rank limit R h (kept x n e) A p m = keep x (misfit s h n) (read s rank limit R h e A p m)
read s rank limit R h (iter e) A p m = loop s (suc (length s)) (read s rank limit R h e) p m
read s rank limit R h again A p m = A p m

-- a production on its own: nothing is held, and `again` would stand for it
abbrev pub alone : List ℕ → Ranks → ℕ → Readers → Term → Reader
alone s rank limit R e = loop s (suc (length s)) (read s rank limit R (hold 0 0 none) e)
