-- A derivation, opened at its first part: a choice, a token, a weight. Assumes nothing.
use mathlib.Core.Path.{◌≡◌, refl, ap, subst}
use mathlib.Core.List.{List}
use mathlib.Core.Bool.{Bool}
use Prim.Native.Nat.{ℕ, ◌+◌}
use native.Mathlib.Omega.{arith}
use Rattle.stream.specs.Kinds.{Name}
use Rattle.stream.specs.Words.{kind, payload}
use Rattle.operators.specs.Ranks.{Ranks}
use Rattle.tree.specs.Forest.{Forest, none}
use Rattle.grammar.specs.Term.{Term, Look, far, expect, any, weigh, plus, ◌⨾◌, on, refuse}
use Rattle.grammar.specs.Reading.{Held}
use Rattle.grammar.specs.Productions.{named}
use Rattle.grammar.specs.Grammar.{Among, Ends}
use Rattle.grammar.proofs.Derives.{Phrases, Derives}
use Rattle.grammar.proofs.Derives.{expect', any', weigh', plus', seq', this', that'}
use Rattle.grammar.proofs.Lower.{before}

module _ {s : List ℕ} {rank : Ranks} {limit : ℕ} {P : Phrases} where
  -- a choice is the first or the second
  pub either : {A : Type 0} {h : Held} {b e f : Term} {l : Look} {ks : List ℕ} {i j v : ℕ} {t : Forest} → Derives s rank limit P h b (on l ks e f) i j t v
      → (Among s ks (far l i) → Derives s rank limit P h b e i j t v → A) → (Ends s ks (far l i) → Derives s rank limit P h b f i j t v → A) → A
  either (this' y d) g k = g y d
  either (that' y d) g k = k y d

  -- the last choice
  pub surely : {A : Type 0} {h : Held} {b e : Term} {l : Look} {ks : List ℕ} {c i j v : ℕ} {t : Forest} → Derives s rank limit P h b (on l ks e (refuse c)) i j t v → (Among s ks (far l i) → Derives s rank limit P h b e i j t v → A) → A
  surely (this' y d) g = g y d
  surely (that' y d) g = elim d [ ]

  -- a token that is expected ends a phrase
  pub last_word : {h : Held} {b : Term} {o : Bool} {k c i j v : ℕ} {t : Forest} (A : ℕ → Forest → ℕ → Type 0) → Derives s rank limit P h b (expect k c o) i j t v → (kind s i ≡ k → A (i + 1) none 0) → A j t v
  last_word A (expect' x) f = f x

  -- what comes after a token that is expected, after any token, after a weight, and after a Name that weighs
  pub word_then : {h : Held} {b e : Term} {o : Bool} {k c i j v : ℕ} {t : Forest} → Derives s rank limit P h b (expect k c o ⨾ e) i j t v → (kind s i ≡ k) × Derives s rank limit P h b e (i + 1) j t v
  word_then {h = h} {b = b} {e = e} {j = j} (seq' {i = i} {u = u} (expect' x) d) = (x, subst (Derives s rank limit P h b e (i + 1) j u) (omega arith) d)

  pub any_then : {h : Held} {b e : Term} {i j v : ℕ} {t : Forest} → Derives s rank limit P h b (any ⨾ e) i j t v → Derives s rank limit P h b e (i + 1) j t v
  any_then {h = h} {b = b} {e = e} {j = j} (seq' {i = i} {u = u} (any' x) d) = subst (Derives s rank limit P h b e (i + 1) j u) (omega arith) d

  pub plus_then : {h : Held} {b e : Term} {w i j v : ℕ} {t : Forest} → Derives s rank limit P h b (plus w ⨾ e) i j t v → (n : ℕ) × Derives s rank limit P h b e i j t n × (v ≡ w + n)
  plus_then (seq' {w = n} plus' d) = (n, d, refl)

  pub name_then : {h : Held} {b e : Term} {i j v : ℕ} {t : Forest} → Derives s rank limit P h b (named ⨾ weigh ⨾ e) i j t v → (n : ℕ) × (kind s i ≡ Name) × Derives s rank limit P h b e (i + 1) j t n × (v ≡ payload s i + n)
  name_then {i = i} (seq' (expect' x) (seq' {w = n} weigh' d)) = (n, x, d, omega (arith, ap (payload s) (before i)))
