-- What is derived under a ranking fits it. Assumes nothing.
use mathlib.Core.Path.{◌≡◌, refl, sym, subst}
use mathlib.Core.Bool.{true, ◌&&◌, ◌||◌}
use mathlib.Core.List.{List, [], ◌∷◌, ◌++◌}
use Prim.Native.Nat.{ℕ, zero, suc, ◌≤◌}
use native.Mathlib.Omega.{arith}
use borrow.Author.Tests.{eqb-true}
use Rattle.stream.specs.Words.{kind}
use Rattle.operators.specs.Ranks.{Ranks}
use Rattle.tree.specs.Forest.{Forest, join}
use Rattle.grammar.specs.Term.{Term, unlined, here}
use Rattle.grammar.specs.Term.{empty, any, plus, exp, ◌⨾◌, node}
use Rattle.grammar.specs.Reading.{Held}
use Rattle.grammar.specs.Productions.{simple, head, tail, tails, expression}
use Rattle.grammar.proofs.Derives.{Phrases, Derives, Alone, phrases, Chunk}
use Rattle.grammar.proofs.Derives.{empty', expect', any', leaf', weigh', coded', plus', exp', operand', stat', seq', this', that', above', below', node', lead', held', kept', iter', again'}
use Rattle.grammar.proofs.Tests.{wrong, and_left, and_right}
use Rattle.grammar.proofs.Lower.{before}
use Rattle.grammar.proofs.Made.{simple_closed}
use Rattle.quarrel.specs.Chains.{Op, operators}
use Rattle.quarrel.proofs.Fit.{Stop, Fit, Right, Fits, ends, tailed, signed, right, nothing, whole, part}
use Rattle.quarrel.proofs.Parts.{top, fitting, uses, bare, simple_fitting, statement_fitting, block_fitting, tops_of, fits_join, fit_tops, wrapped, rebased}

-- the operators os stand from the token j on; if there are none, no operator stands there
abbrev pub Next : List ℕ → Ranks → List Op → ℕ → Type 0
Next s rank [] j = rank.left (kind s j) ≡ 0
Next s rank (o ∷ os) j = o.sort ≡ kind s j

next_stop : (s : List ℕ) (rank : Ranks) (l j : ℕ) (os : List Op) → Next s rank os j → rank.left (kind s j) ≤ l → Stop rank l os
next_stop s rank l j [] n h = tt
next_stop s rank l j (o ∷ os) n h = subst (λ k. rank.left k ≤ l) (sym n) h

-- what is asked of the phrases one level down
pub record Low (s : List ℕ) (rank : Ranks) (P : Phrases) : Type 0 where
  pub right_of : {l i j v : ℕ} {t : Forest} (os : List Op) → P.exps l i j t v → Next s rank os j → Right s rank l t os
  pub whole_of : {i j v : ℕ} {t : Forest} → P.exps 0 i j t v → Fits s rank t
  pub stat_of : {i j v : ℕ} {t : Forest} → P.stats i j t v → Fits s rank t

module _ (s : List ℕ) (rank : Ranks) (limit : ℕ) (P : Phrases) where
  pub tail_ends : {h : Held} {i j v : ℕ} {t : Forest} → Derives s rank limit P h tail tail i j t v → rank.left (kind s j) ≤ limit
  unfolding tail
  tail_ends (below' y empty') = y
  tail_ends (above' y (seq' plus' (seq' (node' (seq' (any' z) (seq' coded' (operand' d)))) (again' q)))) = tail_ends q

  -- the operators of the tails, and those after them, stand where the tails begin; under any ranking
  pub next_tail : (rank' : Ranks) {h : Held} {i j v : ℕ} {t : Forest} (os : List Op) → Next s rank' os j → Derives s rank limit P h tail tail i j t v → Next s rank' (operators s t ++ os) i
  unfolding tail
  next_tail r os n (below' y empty') = n
  next_tail r os n (above' y (seq' plus' (seq' (node' (seq' (any' z) (seq' coded' (operand' d)))) (again' q)))) = refl

module _ (s : List ℕ) (rank : Ranks) (limit : ℕ) (P : Phrases) (low : Low s rank P) where
  pub marked : {h : Held} {b e : Term} {i j v : ℕ} {t : Forest} → fitting b ≡ true → fitting e ≡ true → Fits s rank h.trees → Derives s rank limit P h b e i j t v → Fits s rank t
  marked wb w x empty' = nothing
  marked wb w x (expect' y) = nothing
  marked wb w x (any' y) = nothing
  marked wb w x leaf' = part w nothing nothing
  marked wb w x weigh' = nothing
  marked wb w x coded' = nothing
  marked wb w x plus' = nothing
  marked wb w x (exp' {l = l} {i = i} {j = j} {v = v} {t = t} d) = low.whole_of (subst (λ z. P.exps z i j t v) (eqb-true l 0 w) d)
  marked wb w x (operand' d) = wrong w
  marked wb w x (stat' d) = low.stat_of d
  marked wb w x (seq' {e = a} {f = c} d d') = fits_join s rank (marked wb (and_left (fitting a) (fitting c) w) x d) (marked wb (and_right (fitting a) (fitting c) w) x d')
  marked wb w x (this' {e = a} {f = c} y d) = marked wb (and_left (fitting a) (fitting c) w) x d
  marked wb w x (that' {e = a} {f = c} y d) = marked wb (and_right (fitting a) (fitting c) w) x d
  marked wb w x (above' y d) = wrong w
  marked wb w x (below' y d) = wrong w
  marked wb w x (node' {e = a} {t = t} d) =
      wrapped s rank _ _ _ _ t (top a) (and_right (fitting a) _ w) (λ z. tops_of s rank limit P z d) (marked wb (and_left (fitting a) _ w) x d)
  marked wb w x (lead' {e = a} {f = c} d d') =
      let z = and_left (fitting c) _ (and_right (fitting a) (fitting c && (uses c || bare a)) w) in
      marked z z (marked wb (and_left (fitting a) _ w) x d) d'
  marked wb w x (held' y) = x
  marked wb w x (kept' y d) = marked wb w x d
  marked wb w x (iter' d) = marked w w x d
  marked wb w x (again' d) = marked wb wb x d

  marked_tail : {h : Held} {i j v : ℕ} {t : Forest} (os : List Op) → Next s rank os j → Derives s rank limit P h tail tail i j t v → Fit s rank limit t os
  unfolding tail
  marked_tail {j = j} os n (below' y empty') = ends (next_stop s rank limit j os n y)
  marked_tail os n (above' {i = i} y (seq' plus' (seq' {u = r} (node' (seq' (any' z) (seq' coded' (operand' {t = e} d)))) (again' q)))) =
      tailed y (subst (λ p. Right s rank (rank.right (kind s p)) e (operators s r ++ os)) (before i) (low.right_of (operators s r ++ os) d (next_tail s rank limit P rank os n q))) (marked_tail os n q)

  -- a head before the parts that come after it
  abbrev Headed : ℕ → Forest → Type 0
  Headed k t = (u : Forest) (os : List Op) → Next s rank (operators s u ++ os) k → Fit s rank limit u os → Fit s rank limit (join t u) os

  marked_unary : {h : Held} {b : Term} {c i k v : ℕ} {t : Forest} → Derives s rank limit P h b (node 18 here unlined (any ⨾ plus c ⨾ exp 12)) i k t v → Headed k t
  marked_unary (node' (seq' (any' w) (seq' plus' (exp' e)))) u os n x = signed (low.right_of (operators s u ++ os) e n) x

  marked_head : {h : Held} {b : Term} {i k v : ℕ} {t : Forest} → Fits s rank h.trees → Derives s rank limit P h b head i k t v → Headed k t
  unfolding head
  marked_head f (this' y d) = marked_unary d
  marked_head f (that' y (this' y' d)) = marked_unary d
  marked_head f (that' y (that' y' (this' y'' d))) = marked_unary d
  marked_head f (that' y (that' y' (that' y'' (this' y''' d)))) = marked_unary d
  marked_head f (that' y (that' y' (that' y'' (that' y''' d)))) =
      let z = and_left (fitting simple) (top simple) simple_fitting in
      let w = and_right (fitting simple) (top simple) simple_fitting in
      λ u os n x. fit_tops s rank (tops_of s rank limit P w d) (marked {b = empty} refl z f (rebased s rank limit P empty simple_closed d)) x

  marked_right : {i j v : ℕ} {t : Forest} (os : List Op) → Alone s rank limit P expression i j t v → Next s rank os j → Right s rank limit t os
  unfolding expression tails
  marked_right os (node' (seq' {u = u} x (iter' d))) n = right (marked_head nothing x u os (next_tail s rank limit P rank os n d) (marked_tail os n d))

  marked_whole : {i j v : ℕ} {t : Forest} → limit ≡ 0 → Alone s rank limit P expression i j t v → Fits s rank t
  unfolding expression tails
  marked_whole q (node' (seq' {t = t} {u = u} x (iter' {j = j} d))) =
      let n : Next s rank [] j = omega (arith, tail_ends s rank limit P d) in
      whole (subst (λ l. Fit s rank l (join t u) []) q (marked_head nothing x u [] (next_tail s rank limit P rank [] n d) (marked_tail [] n d))) nothing

module _ (s : List ℕ) (rank : Ranks) where
  pub lows : (g : ℕ) → Low s rank (phrases s rank g)
  lows zero = record { right_of = λ os d n. absurd d; whole_of = λ d. absurd d; stat_of = λ d. absurd d }
  lows (suc g) =
      let P = phrases s rank g in
      let low = lows g in
      record {
        right_of = λ {l} os d n. marked_right s rank l P low os d n;
        whole_of = λ d. marked_whole s rank 0 P low refl d;
        stat_of = λ d. marked s rank 0 P low statement_fitting statement_fitting nothing d;
      }

  -- a chunk's tree fits the ranking
  pub fits : {g : ℕ} {t : Forest} → Chunk s rank g t → Fits s rank t
  fits {g} c = marked s rank 0 (phrases s rank g) (lows g) block_fitting block_fitting nothing c.derived
