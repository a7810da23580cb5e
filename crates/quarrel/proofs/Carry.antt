-- What is derived under one ranking and fits another is derived under the other. Assumes nothing.
use mathlib.Core.Path.{◌≡◌, refl, sym, subst}
use mathlib.Core.Bool.{true, ◌&&◌, ◌||◌}
use mathlib.Core.List.{List, [], ◌∷◌, ◌++◌}
use Prim.Native.Nat.{ℕ, zero, suc, ◌≤◌, ◌<◌}
use native.Mathlib.Omega.{arith}
use borrow.Author.Tests.{eqb-true}
use Rattle.stream.specs.Words.{kind}
use Rattle.operators.specs.Ranks.{Ranks}
use Rattle.tree.specs.Forest.{Forest, none, tree, join}
use Rattle.grammar.specs.Term.{Term, unlined, here}
use Rattle.grammar.specs.Term.{empty, any, plus, exp, ◌⨾◌, node}
use Rattle.grammar.specs.Reading.{Held}
use Rattle.grammar.specs.Productions.{simple, head, tail, tails, expression}
use Rattle.grammar.proofs.Derives.{Phrases, Derives, Alone, phrases, Chunk}
use Rattle.grammar.proofs.Derives.{empty', expect', any', leaf', weigh', coded', plus', exp', operand', stat', seq', this', that', above', below', node', lead', held', kept', iter', again'}
use Rattle.grammar.proofs.Tests.{wrong, and_left, and_right, or_elim}
use Rattle.grammar.proofs.Lower.{before}
use Rattle.grammar.proofs.Made.{simple_closed}
use Rattle.quarrel.specs.Chains.{Op, operators}
use Rattle.quarrel.proofs.Fit.{Stop, Fit, Right, Fits, ends, tailed, signed, atom, right, whole, part}
use Rattle.quarrel.proofs.Parts.{top, fitting, uses, bare, simple_fitting, statement_fitting, block_fitting, tops_of, used, bare_fits, fits_parts, tops_fit, unwrapped, rebased}
use Rattle.quarrel.proofs.Marks.{Next, next_tail, tail_ends}

-- what is asked of the phrases one level down
pub record Across (s : List ℕ) (rank rank' : Ranks) (P P' : Phrases) : Type 0 where
  pub right_to : {l l' i j v : ℕ} {t : Forest} (os : List Op) → P.exps l i j t v → Next s rank' os j → Right s rank' l' t os → P'.exps l' i j t v
  pub whole_to : {i j v : ℕ} {t : Forest} → P.exps 0 i j t v → Fits s rank' t → P'.exps 0 i j t v
  pub stat_to : {i j v : ℕ} {t : Forest} → P.stats i j t v → Fits s rank' t → P'.stats i j t v

stop_next : (s : List ℕ) (rank : Ranks) (l j : ℕ) (os : List Op) → Next s rank os j → Stop rank l os → rank.left (kind s j) ≤ l
stop_next s rank l j [] n h = omega (arith, n)
stop_next s rank l j (o ∷ os) n h = subst (λ k. rank.left k ≤ l) n h

module _ (s : List ℕ) (rank : Ranks) {l v n p : ℕ} {k r : Forest} {os : List Op} where
  tail_in : Fit s rank l (tree 19 v n p k r) os → (l < rank.left (kind s p)) × Right s rank (rank.right (kind s p)) k (operators s r ++ os) × Fit s rank l r os
  tail_in (tailed a e x) = (a, e, x)
  tail_in (atom h e x) = wrong h

  sign_in : Fit s rank l (tree 18 v n p k r) os → Right s rank 12 k (operators s r ++ os) × Fit s rank l r os
  sign_in (signed e x) = (e, x)
  sign_in (atom h e x) = wrong h

end_in : (s : List ℕ) (rank : Ranks) {l : ℕ} {os : List Op} → Fit s rank l none os → Stop rank l os
end_in s rank (ends h) = h

right_in : (s : List ℕ) (rank : Ranks) {l tag v n p : ℕ} {k r : Forest} {os : List Op} → Right s rank l (tree tag v n p k r) os → Fit s rank l k os
right_in s rank (right x) = x

whole_in : (s : List ℕ) (rank : Ranks) {v n p : ℕ} {k r : Forest} → Fits s rank (tree 17 v n p k r) → Fit s rank 0 k []
whole_in s rank (whole x y) = x
whole_in s rank (part h x y) = wrong h

module _ (s : List ℕ) (rank rank' : Ranks) (limit limit' : ℕ) (P P' : Phrases) (low : Across s rank rank' P P') where
  carried : {h : Held} {b e : Term} {i j v : ℕ} {t : Forest} → fitting b ≡ true → fitting e ≡ true → Derives s rank limit P h b e i j t v → Fits s rank' t → Derives s rank' limit' P' h b e i j t v
  carried wb w empty' x = empty'
  carried wb w (expect' y) x = expect' y
  carried wb w (any' y) x = any' y
  carried wb w leaf' x = leaf'
  carried wb w weigh' x = weigh'
  carried wb w coded' x = coded'
  carried wb w plus' x = plus'
  carried wb w (exp' {l = l} {i = i} {j = j} {v = v} {t = t} d) x =
      let q = eqb-true l 0 w in
      exp' (subst (λ z. P'.exps z i j t v) (sym q) (low.whole_to (subst (λ z. P.exps z i j t v) q d) x))
  carried wb w (operand' d) x = wrong w
  carried wb w (stat' d) x = stat' (low.stat_to d x)
  carried wb w (seq' {e = a} {f = c} {t = t} {u = u} d d') x =
      let y = fits_parts s rank' t u x in
      seq' (carried wb (and_left (fitting a) (fitting c) w) d y.0) (carried wb (and_right (fitting a) (fitting c) w) d' y.1)
  carried wb w (this' {e = a} {f = c} y d) x = this' y (carried wb (and_left (fitting a) (fitting c) w) d x)
  carried wb w (that' {e = a} {f = c} y d) x = that' y (carried wb (and_right (fitting a) (fitting c) w) d x)
  carried wb w (above' y d) x = wrong w
  carried wb w (below' y d) x = wrong w
  carried wb w (node' {e = a} d) x =
      node' (carried wb (and_left (fitting a) _ w) d (unwrapped s rank' (top a) (and_right (fitting a) _ w) (λ z. tops_of s rank limit P z d) x))
  carried wb w (lead' {e = a} {f = c} d d') x =
      let z = and_right (fitting a) (fitting c && (uses c || bare a)) w in
      let wc = and_left (fitting c) _ z in
      let y = or_elim (uses c) (bare a) (and_right (fitting c) _ z) (λ q. used s rank limit P rank' q d' x) (λ q. bare_fits s rank limit P rank' q d) in
      lead' (carried wb (and_left (fitting a) _ w) d y) (carried wc wc d' x)
  carried wb w (held' y) x = held' y
  carried wb w (kept' y d) x = kept' y (carried wb w d x)
  carried wb w (iter' d) x = iter' (carried w w d x)
  carried wb w (again' d) x = again' (carried wb wb d x)

  carried_tail : {h : Held} {i j v : ℕ} {t : Forest} (os : List Op) → Next s rank' os j → Derives s rank limit P h tail tail i j t v → Fit s rank' limit' t os → Derives s rank' limit' P' h tail tail i j t v
  unfolding tail
  carried_tail {j = j} os n (below' y empty') x = below' (stop_next s rank' limit' j os n (end_in s rank' x)) empty'
  carried_tail os n (above' {i = i} y (seq' plus' (seq' {u = r} (node' (seq' (any' z) (seq' coded' (operand' {t = e} d)))) (again' q)))) x =
      let (a, f, g) = tail_in s rank' x in
      above' a (seq' plus' (seq' (node' (seq' (any' z) (seq' coded' (operand' (low.right_to (operators s r ++ os) d (next_tail s rank limit P rank' os n q) (subst (λ p. Right s rank' (rank'.right (kind s p)) e (operators s r ++ os)) (sym (before i)) f)))))) (again' (carried_tail os n q g))))

  -- a head, and what comes after it
  abbrev Headed : Held → Term → Term → ℕ → ℕ → Forest → ℕ → Type 0
  Headed h b e i k t v = (u : Forest) (os : List Op) → Next s rank' (operators s u ++ os) k → Fit s rank' limit' (join t u) os → Derives s rank' limit' P' h b e i k t v × Fit s rank' limit' u os

  carried_unary : {h : Held} {b : Term} {c i k v : ℕ} {t : Forest} → Derives s rank limit P h b (node 18 here unlined (any ⨾ plus c ⨾ exp 12)) i k t v → Headed h b (node 18 here unlined (any ⨾ plus c ⨾ exp 12)) i k t v
  carried_unary (node' (seq' (any' w) (seq' plus' (exp' e)))) u os n x =
      let (f, g) = sign_in s rank' x in
      (node' (seq' (any' w) (seq' plus' (exp' (low.right_to (operators s u ++ os) e n f)))), g)

  carried_simple : {h : Held} {b : Term} {i k v : ℕ} {t : Forest} → Derives s rank limit P h b simple i k t v → Headed h b simple i k t v
  carried_simple {b = b} d u os n x =
      let z = and_left (fitting simple) (top simple) simple_fitting in
      let w = and_right (fitting simple) (top simple) simple_fitting in
      let (f, g) = tops_fit s rank' u (tops_of s rank limit P w d) x in
      (rebased s rank' limit' P' b simple_closed (carried {b = empty} refl z (rebased s rank limit P empty simple_closed d) f), g)

  carried_head : {h : Held} {b : Term} {i k v : ℕ} {t : Forest} → Derives s rank limit P h b head i k t v → Headed h b head i k t v
  unfolding head
  carried_head (this' y d) u os n x = let z = carried_unary d u os n x in (this' y z.0, z.1)
  carried_head (that' y (this' y' d)) u os n x = let z = carried_unary d u os n x in (that' y (this' y' z.0), z.1)
  carried_head (that' y (that' y' (this' y'' d))) u os n x = let z = carried_unary d u os n x in (that' y (that' y' (this' y'' z.0)), z.1)
  carried_head (that' y (that' y' (that' y'' (this' y''' d)))) u os n x = let z = carried_unary d u os n x in (that' y (that' y' (that' y'' (this' y''' z.0))), z.1)
  carried_head (that' y (that' y' (that' y'' (that' y''' d)))) u os n x = let z = carried_simple d u os n x in (that' y (that' y' (that' y'' (that' y''' z.0))), z.1)

  carried_right : {i j v : ℕ} {t : Forest} (os : List Op) → Alone s rank limit P expression i j t v → Next s rank' os j → Right s rank' limit' t os → Alone s rank' limit' P' expression i j t v
  unfolding expression tails
  carried_right os (node' (seq' {u = u} x (iter' d))) n y =
      let z = carried_head x u os (next_tail s rank limit P rank' os n d) (right_in s rank' y) in
      node' (seq' z.0 (iter' (carried_tail os n d z.1)))

module _ (s : List ℕ) (rank rank' : Ranks) (none_too : (k : ℕ) → rank.left k ≡ 0 → rank'.left k ≡ 0) where
  -- a whole expression is an operand after which no operator comes
  as_right : {P : Phrases} {i j v : ℕ} {t : Forest} → Alone s rank 0 P expression i j t v → Fits s rank' t → Next s rank' [] j × Right s rank' 0 t []
  unfolding expression tails
  as_right {P} (node' (seq' x (iter' {j = j} d))) y = (none_too (kind s j) (omega (arith, tail_ends s rank 0 P d)), right (whole_in s rank' y))

  across : (g : ℕ) → Across s rank rank' (phrases s rank g) (phrases s rank' g)
  across zero = record { right_to = λ os d n y. absurd d; whole_to = λ d y. absurd d; stat_to = λ d y. absurd d }
  across (suc g) =
      let P = phrases s rank g in
      let P' = phrases s rank' g in
      let low = across g in
      record {
        right_to = λ {l} {l'} os d n y. carried_right s rank rank' l l' P P' low os d n y;
        whole_to = λ d y. let z = as_right d y in carried_right s rank rank' 0 0 P P' low [] d z.0 z.1;
        stat_to = λ d y. carried s rank rank' 0 0 P P' low statement_fitting statement_fitting d y;
      }

  -- a chunk whose tree fits the other ranking is one under it
  pub carry : {g : ℕ} {t : Forest} → Chunk s rank g t → Fits s rank' t → Chunk s rank' g t
  carry {g} c x =
      record { end = c.end; all = c.all; value = c.value; derived = carried s rank rank' 0 0 (phrases s rank g) (phrases s rank' g) (across g) block_fitting block_fitting c.derived x }
