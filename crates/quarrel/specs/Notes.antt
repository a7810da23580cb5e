-- What is noted on the way: the rule heard operator by operator, and over whole trees. Assumes nothing: these are definitions.
use Rattle.std.specs.Prelude.{Bool, true, false, List, Option, Some, None, ℕ, min, eqb}
use Rattle.stream.specs.Kinds.{NotEqual}
use Rattle.stream.specs.Words.{kind}
use Rattle.stream.specs.declared.reader.Note.{Note}
use Rattle.tree.specs.Forest.{Forest, none, tree}
use Rattle.grammar.specs.Member.{member}
use Rattle.quarrel.specs.Chains.{expression, unary, tail}
use Rattle.quarrel.specs.Rule.{cuts, firsts, seconds, Quarrelling, First}

-- a place is that of the first token that quarrels in some trees, and there is none where none does
abbrev pub Names : List ℕ → Forest → Option ℕ → Type 0
Names s t None = (i : ℕ) → ¬ Quarrelling s t i
Names s t (Some i) = First s t i

abbrev pub note : (heard : Bool) (waits found : Option ℕ) → Note
note h w f = record { heard = h; waits = w; found = f }

-- of two places that may be there, the lower of those that are; none where neither is
abbrev pub earlier : Option ℕ → Option ℕ → Option ℕ
earlier None q = q
earlier (Some i) None = Some i
earlier (Some i) (Some j) = Some (min i j)

-- what an operator of this kind, at this place, adds to a note
unfoldable pub hears : Note → (kind place : ℕ) → Note
hears n k p =
    elim (member k cuts) [
      | true ↦ note false None n.found
      | false ↦ elim (eqb k NotEqual) [
        | true ↦ note n.heard (Some p) (elim n.heard [ true ↦ earlier n.found (Some p) | false ↦ n.found ])
        | false ↦ elim (member k firsts) [
          | true ↦ note true None (elim (member k seconds) [ true ↦ earlier n.found n.waits | false ↦ n.found ])
          | false ↦ elim (member k seconds) [ true ↦ note n.heard None (earlier n.found n.waits) | false ↦ n ]
        ]
      ]
    ]

-- a chain of its own begins; and back in the chain around it
abbrev pub fresh : Note → Note
fresh n = note false None n.found

abbrev pub resumed : Note → Note → Note
resumed outer n = note outer.heard outer.waits n.found

-- some trees, in order: a tail's operator is heard, and what a tail or a unary operator holds goes on with the chain; any other
-- expression has a chain of its own
abbrev mutual
  pub noted : List ℕ → Forest → Note → Note
  noted s none n = n
  noted s (tree tag value line place kids rest) n =
      noted s rest
      (elim (expression tag) [
        | true ↦ resumed n (noted s kids (fresh n))
        | false ↦ elim (tail tag) [
          | true ↦ held s kids (hears n (kind s place) place)
          | false ↦ elim (unary tag) [ true ↦ held s kids n | false ↦ noted s kids n ]
        ]
      ])

  pub held : List ℕ → Forest → Note → Note
  held s none n = n
  held s (tree tag value line place kids rest) n = noted s kids n
