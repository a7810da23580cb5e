-- What is asked of a term: that it takes tokens where it must, and whether it has to do with ranks. Assumes nothing: these are definitions.
use mathlib.Core.Bool.{Bool, true, false, ◌&&◌, ◌||◌, not}
use lib.Dec.{eqb, ltb}
use Rattle.grammar.specs.Member.{member}
use Rattle.grammar.specs.Term.{Term, must}
use Rattle.grammar.specs.Term.{empty, expect, any, leaf, weigh, coded, plus, exp, operand, stat, ◌⨾◌, on, operator, refuse, node, lead, held, kept, iter, again}

-- takes a token whatever it derives
abbrev pub consumes : Term → Bool
consumes empty = false
consumes (expect k c o) = true
consumes any = true
consumes (leaf t) = false
consumes weigh = false
consumes coded = false
consumes (plus w) = false
consumes (exp l) = true
consumes operand = true
consumes stat = true
consumes (a ⨾ b) = consumes a || consumes b
consumes (on l ks a b) = consumes a && consumes b
consumes (operator a b) = consumes a && consumes b
consumes (refuse c) = true
consumes (node t k l e) = consumes e
consumes (lead a b) = consumes a || consumes b
consumes (held h n) = false
consumes (kept h n e) = consumes e
consumes (iter e) = consumes e
consumes again = false

-- takes a token before it comes to `again`
abbrev pub guarded : Term → Bool
guarded empty = true
guarded (expect k c o) = true
guarded any = true
guarded (leaf t) = true
guarded weigh = true
guarded coded = true
guarded (plus w) = true
guarded (exp l) = true
guarded operand = true
guarded stat = true
guarded (a ⨾ b) = guarded a && (consumes a || guarded b)
guarded (on l ks a b) = guarded a && guarded b
guarded (operator a b) = guarded a && guarded b
guarded (refuse c) = true
guarded (node t k l e) = guarded e
guarded (lead a b) = guarded a
guarded (held h n) = true
guarded (kept h n e) = guarded e
guarded (iter e) = true
guarded again = false

-- a repetition takes a token each time; no token is of kind 59; what comes after a look that refuses the end takes a token there
abbrev pub wellmade : Term → Bool
wellmade empty = true
wellmade (expect k c o) = ltb k 59
wellmade any = true
wellmade (leaf t) = true
wellmade weigh = true
wellmade coded = true
wellmade (plus w) = true
wellmade (exp l) = true
wellmade operand = true
wellmade stat = true
wellmade (a ⨾ b) = wellmade a && wellmade b
wellmade (on l ks a b) = wellmade a && wellmade b && (not (must l) || elim (member 59 ks) [ true ↦ consumes a | false ↦ consumes b ])
wellmade (operator a b) = wellmade a && wellmade b
wellmade (refuse c) = true
wellmade (node t k l e) = wellmade e
wellmade (lead a b) = wellmade a && (wellmade b && guarded b)
wellmade (held h n) = true
wellmade (kept h n e) = wellmade e
wellmade (iter e) = wellmade e && guarded e
wellmade again = true

-- has nothing to do with ranks and limits
abbrev pub plain : Term → Bool
plain empty = true
plain (expect k c o) = true
plain any = true
plain (leaf t) = true
plain weigh = true
plain coded = false
plain (plus w) = true
plain (exp l) = eqb l 0
plain operand = false
plain stat = true
plain (a ⨾ b) = plain a && plain b
plain (on l ks a b) = plain a && plain b
plain (operator a b) = false
plain (refuse c) = true
plain (node t k l e) = plain e
plain (lead a b) = plain a && plain b
plain (held h n) = true
plain (kept h n e) = plain e
plain (iter e) = plain e
plain again = true

-- has no `again` that stands for more than itself
abbrev pub closed : Term → Bool
closed empty = true
closed (expect k c o) = true
closed any = true
closed (leaf t) = true
closed weigh = true
closed coded = true
closed (plus w) = true
closed (exp l) = true
closed operand = true
closed stat = true
closed (a ⨾ b) = closed a && closed b
closed (on l ks a b) = closed a && closed b
closed (operator a b) = closed a && closed b
closed (refuse c) = true
closed (node t k l e) = closed e
closed (lead a b) = closed a
closed (held h n) = true
closed (kept h n e) = closed e
closed (iter e) = true
closed again = false
