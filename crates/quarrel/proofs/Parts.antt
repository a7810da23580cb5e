-- The terms whose trees fit a ranking piece by piece: they have to do with no ranks, and an expression's record in them holds no operators. Assumes nothing.
use mathlib.Core.Path.{◌≡◌, refl, sym, subst}
use mathlib.Core.Bool.{Bool, true, false, ◌&&◌, ◌||◌, not}
use mathlib.Core.List.{List, []}
use Prim.Native.Nat.{ℕ}
use lib.Dec.{eqb}
use borrow.Author.Tests.{not-true, eqb-true}
use Rattle.operators.specs.Ranks.{Ranks}
use Rattle.tree.specs.Forest.{Forest, none, tree, join}
use Rattle.tree.proofs.Lay.{join_none}
use Rattle.grammar.specs.Term.{Term}
use Rattle.grammar.specs.Term.{empty, expect, any, leaf, weigh, coded, plus, exp, operand, stat, ◌⨾◌, on, operator, refuse, node, lead, held, kept, iter, again}
use Rattle.grammar.specs.Reading.{Held}
use Rattle.grammar.specs.Productions.{explist, retstat, block, parlist, funcbody, field, table, args, suffix, primary, suffixed, simple}
use Rattle.grammar.specs.Productions.{ifstat, whilestat, dostat, forstat, repeatstat, functionstat, localfunction, localstat, label, breakstat, gotostat, exprstat, statement}
use Rattle.grammar.proofs.Derives.{Phrases, Derives}
use Rattle.grammar.proofs.Derives.{empty', expect', any', leaf', weigh', coded', plus', exp', operand', stat', seq', this', that', above', below', node', lead', held', kept', iter', again'}
use Rattle.grammar.proofs.Form.{closed}
use Rattle.grammar.proofs.Tests.{wrong, and_left, and_right, or_elim}
use Rattle.quarrel.specs.Chains.{Op, expression, unary, tail}
use Rattle.quarrel.proofs.Fit.{apart, Fit, Fits, ends, tailed, signed, atom, nothing, whole, part}

-- a tag that is apart, by its three tests
pub apart_tags : (tag : ℕ) → apart tag ≡ true → (expression tag ≡ false) × (tail tag ≡ false) × (unary tag ≡ false)
apart_tags tag h =
    let a = and_right (not (expression tag)) _ h in
    (not-true _ (and_left (not (expression tag)) _ h), not-true _ (and_left (not (tail tag)) _ a), not-true _ (and_right (not (tail tag)) _ a))

-- derives only records that are apart
abbrev pub top : Term → Bool
top empty = true
top (expect k c o) = true
top any = true
top (leaf tag) = apart tag
top weigh = true
top coded = true
top (plus w) = true
top (exp l) = false
top operand = false
top stat = false
top (a ⨾ b) = top a && top b
top (on l ks a b) = top a && top b
top (operator a b) = top a && top b
top (refuse c) = true
top (node tag f l e) = apart tag
top (lead a b) = false
top (held h n) = false
top (kept h n e) = top e
top (iter e) = false
top again = false

-- has the held trees among its own
abbrev pub uses : Term → Bool
uses empty = false
uses (expect k c o) = false
uses any = false
uses (leaf tag) = false
uses weigh = false
uses coded = false
uses (plus w) = false
uses (exp l) = false
uses operand = false
uses stat = false
uses (a ⨾ b) = uses a || uses b
uses (on l ks a b) = uses a && uses b
uses (operator a b) = uses a && uses b
uses (refuse c) = false
uses (node tag f l e) = uses e && apart tag
uses (lead a b) = false
uses (held h n) = true
uses (kept h n e) = uses e
uses (iter e) = false
uses again = false

-- tokens alone
abbrev pub bare : Term → Bool
bare empty = false
bare (expect k c o) = true
bare any = false
bare (leaf tag) = false
bare weigh = false
bare coded = false
bare (plus w) = false
bare (exp l) = false
bare operand = false
bare stat = false
bare (a ⨾ b) = bare a && bare b
bare (on l ks a b) = false
bare (operator a b) = false
bare (refuse c) = false
bare (node tag f l e) = false
bare (lead a b) = false
bare (held h n) = false
bare (kept h n e) = false
bare (iter e) = false
bare again = false

-- fits piece by piece
abbrev pub fitting : Term → Bool
fitting empty = true
fitting (expect k c o) = true
fitting any = true
fitting (leaf tag) = apart tag
fitting weigh = true
fitting coded = true
fitting (plus w) = true
fitting (exp l) = eqb l 0
fitting operand = false
fitting stat = true
fitting (a ⨾ b) = fitting a && fitting b
fitting (on l ks a b) = fitting a && fitting b
fitting (operator a b) = false
fitting (refuse c) = true
fitting (node tag f l e) = fitting e && (apart tag || (expression tag && top e))
fitting (lead a b) = fitting a && (fitting b && (uses b || bare a))
fitting (held h n) = true
fitting (kept h n e) = fitting e
fitting (iter e) = fitting e
fitting again = true

pub statement_fitting : fitting statement ≡ true
unfolding explist retstat block parlist funcbody field table args suffix primary suffixed ifstat whilestat dostat forstat repeatstat functionstat localfunction localstat label breakstat gotostat exprstat statement
statement_fitting = refl

pub block_fitting : fitting block ≡ true
unfolding explist retstat block
block_fitting = refl

pub simple_fitting : (fitting simple && top simple) ≡ true
unfolding explist retstat block parlist funcbody field table args suffix primary suffixed simple
simple_fitting = refl

-- trees that are apart
pub data Tops : Forest → Type 0 where
  no_tops : Tops none
  tops : {tag v n p : ℕ} {k r : Forest} → apart tag ≡ true → Tops r → Tops (tree tag v n p k r)

tops_join : {t u : Forest} → Tops t → Tops u → Tops (join t u)
tops_join no_tops y = y
tops_join (tops h x) y = tops h (tops_join x y)

module _ (s : List ℕ) (rank : Ranks) where
  pub fits_join : {t u : Forest} → Fits s rank t → Fits s rank u → Fits s rank (join t u)
  fits_join nothing y = y
  fits_join (whole x r) y = whole x (fits_join r y)
  fits_join (part h x r) y = part h x (fits_join r y)

  first : {tag v n p : ℕ} {k r u : Forest} → Fits s rank (tree tag v n p k (join r u)) → (Fits s rank (join r u) → Fits s rank r × Fits s rank u) → Fits s rank (tree tag v n p k r) × Fits s rank u
  first (whole x y) f = (whole x (f y).0, (f y).1)
  first (part h x y) f = (part h x (f y).0, (f y).1)

  pub fits_parts : (t u : Forest) → Fits s rank (join t u) → Fits s rank t × Fits s rank u
  fits_parts none u x = (nothing, x)
  fits_parts (tree tag v n p k r) u x = first x (fits_parts r u)

  -- the children of a record that is apart
  fits_kids : {tag v n p : ℕ} {k r : Forest} → apart tag ≡ true → Fits s rank (tree tag v n p k r) → Fits s rank k
  fits_kids h (whole x y) = wrong h
  fits_kids h (part h' x y) = x

  -- such trees before the parts of an expression
  pub fit_tops : {l : ℕ} {t u : Forest} {os : List Op} → Tops t → Fits s rank t → Fit s rank l u os → Fit s rank l (join t u) os
  fit_tops no_tops x y = y
  fit_tops (tops h z) (whole x r) y = wrong h
  fit_tops (tops h z) (part g x r) y = atom h x (fit_tops z r y)

  tops_first : {l tag v n p : ℕ} {k r : Forest} {os : List Op} → apart tag ≡ true → Fit s rank l (tree tag v n p k r) os → Fits s rank k × Fit s rank l r os
  tops_first h (tailed a e x) = wrong h
  tops_first h (signed e x) = wrong h
  tops_first h (atom g e x) = (e, x)

  pub tops_fit : {l : ℕ} {t : Forest} (u : Forest) {os : List Op} → Tops t → Fit s rank l (join t u) os → Fits s rank t × Fit s rank l u os
  tops_fit u no_tops x = (nothing, x)
  tops_fit u (tops h z) x =
      let y = tops_first h x in
      let w = tops_fit u z y.1 in
      (part h y.0 w.0, w.1)

  -- a record over trees that fit
  pub wrapped : (tag v n p : ℕ) (t : Forest) (c : Bool) → (apart tag || (expression tag && c)) ≡ true → (c ≡ true → Tops t) → Fits s rank t → Fits s rank (tree tag v n p t none)
  wrapped tag v n p t c h f x =
      or_elim (apart tag) (expression tag && c) h (λ a. part a x nothing)
      (λ a. subst (λ z. Fits s rank (tree z v n p t none)) (sym (eqb-true tag 17 (and_left (expression tag) c a)))
      (whole (subst (λ u. Fit s rank 0 u []) (join_none t) (fit_tops (f (and_right (expression tag) c a)) x (ends tt))) nothing))

  pub unwrapped : {tag v n p : ℕ} {t : Forest} (c : Bool) → (apart tag || (expression tag && c)) ≡ true → (c ≡ true → Tops t) → Fits s rank (tree tag v n p t none) → Fits s rank t
  unwrapped {t = t} c h f (whole x y) = (tops_fit none (f h) (subst (λ u. Fit s rank 0 u []) (sym (join_none t)) x)).0
  unwrapped c h f (part g x y) = x

module _ (s : List ℕ) (rank : Ranks) (limit : ℕ) (P : Phrases) where
  pub tops_of : {h : Held} {b e : Term} {i j v : ℕ} {t : Forest} → top e ≡ true → Derives s rank limit P h b e i j t v → Tops t
  tops_of w empty' = no_tops
  tops_of w (expect' y) = no_tops
  tops_of w (any' y) = no_tops
  tops_of w leaf' = tops w no_tops
  tops_of w weigh' = no_tops
  tops_of w coded' = no_tops
  tops_of w plus' = no_tops
  tops_of w (exp' d) = wrong w
  tops_of w (operand' d) = wrong w
  tops_of w (stat' d) = wrong w
  tops_of w (seq' {e = a} {f = c} d d') = tops_join (tops_of (and_left (top a) (top c) w) d) (tops_of (and_right (top a) (top c) w) d')
  tops_of w (this' {e = a} {f = c} y d) = tops_of (and_left (top a) (top c) w) d
  tops_of w (that' {e = a} {f = c} y d) = tops_of (and_right (top a) (top c) w) d
  tops_of w (above' {e = a} {f = c} y d) = tops_of (and_left (top a) (top c) w) d
  tops_of w (below' {e = a} {f = c} y d) = tops_of (and_right (top a) (top c) w) d
  tops_of w (node' d) = tops w no_tops
  tops_of w (lead' d d') = wrong w
  tops_of w (held' y) = wrong w
  tops_of w (kept' y d) = tops_of w d
  tops_of w (iter' d) = wrong w
  tops_of w (again' d) = wrong w

  -- what it derives fits, so the held trees do; under any ranking
  pub used : (rank' : Ranks) {h : Held} {b e : Term} {i j v : ℕ} {t : Forest} → uses e ≡ true → Derives s rank limit P h b e i j t v → Fits s rank' t → Fits s rank' h.trees
  used r w empty' x = wrong w
  used r w (expect' y) x = wrong w
  used r w (any' y) x = wrong w
  used r w leaf' x = wrong w
  used r w weigh' x = wrong w
  used r w coded' x = wrong w
  used r w plus' x = wrong w
  used r w (exp' d) x = wrong w
  used r w (operand' d) x = wrong w
  used r w (stat' d) x = wrong w
  used r w (seq' {e = a} {f = c} {t = t} {u = u} d d') x =
      let y = fits_parts s r t u x in
      or_elim (uses a) (uses c) w (λ z. used r z d y.0) (λ z. used r z d' y.1)
  used r w (this' {e = a} {f = c} y d) x = used r (and_left (uses a) (uses c) w) d x
  used r w (that' {e = a} {f = c} y d) x = used r (and_right (uses a) (uses c) w) d x
  used r w (above' {e = a} {f = c} y d) x = used r (and_left (uses a) (uses c) w) d x
  used r w (below' {e = a} {f = c} y d) x = used r (and_right (uses a) (uses c) w) d x
  used r w (node' {e = a} {tag = tag} d) x = used r (and_left (uses a) (apart tag) w) d (fits_kids s r (and_right (uses a) (apart tag) w) x)
  used r w (lead' d d') x = wrong w
  used r w (held' y) x = x
  used r w (kept' y d) x = used r w d x
  used r w (iter' d) x = wrong w
  used r w (again' d) x = wrong w

  pub bare_fits : (rank' : Ranks) {h : Held} {b e : Term} {i j v : ℕ} {t : Forest} → bare e ≡ true → Derives s rank limit P h b e i j t v → Fits s rank' t
  bare_fits r w empty' = wrong w
  bare_fits r w (expect' y) = nothing
  bare_fits r w (any' y) = wrong w
  bare_fits r w leaf' = wrong w
  bare_fits r w weigh' = wrong w
  bare_fits r w coded' = wrong w
  bare_fits r w plus' = wrong w
  bare_fits r w (exp' d) = wrong w
  bare_fits r w (operand' d) = wrong w
  bare_fits r w (stat' d) = wrong w
  bare_fits r w (seq' {e = a} {f = c} d d') = fits_join s r (bare_fits r (and_left (bare a) (bare c) w) d) (bare_fits r (and_right (bare a) (bare c) w) d')
  bare_fits r w (this' y d) = wrong w
  bare_fits r w (that' y d) = wrong w
  bare_fits r w (above' y d) = wrong w
  bare_fits r w (below' y d) = wrong w
  bare_fits r w (node' d) = wrong w
  bare_fits r w (lead' d d') = wrong w
  bare_fits r w (held' y) = wrong w
  bare_fits r w (kept' y d) = wrong w
  bare_fits r w (iter' d) = wrong w
  bare_fits r w (again' d) = wrong w

  -- where no `again` stands for more than itself it may stand for anything
  pub rebased : (b' : Term) {h : Held} {b e : Term} {i j v : ℕ} {t : Forest} → closed e ≡ true → Derives s rank limit P h b e i j t v → Derives s rank limit P h b' e i j t v
  rebased b' w empty' = empty'
  rebased b' w (expect' y) = expect' y
  rebased b' w (any' y) = any' y
  rebased b' w leaf' = leaf'
  rebased b' w weigh' = weigh'
  rebased b' w coded' = coded'
  rebased b' w plus' = plus'
  rebased b' w (exp' d) = exp' d
  rebased b' w (operand' d) = operand' d
  rebased b' w (stat' d) = stat' d
  rebased b' w (seq' {e = a} {f = c} d d') = seq' (rebased b' (and_left (closed a) (closed c) w) d) (rebased b' (and_right (closed a) (closed c) w) d')
  rebased b' w (this' {e = a} {f = c} y d) = this' y (rebased b' (and_left (closed a) (closed c) w) d)
  rebased b' w (that' {e = a} {f = c} y d) = that' y (rebased b' (and_right (closed a) (closed c) w) d)
  rebased b' w (above' {e = a} {f = c} y d) = above' y (rebased b' (and_left (closed a) (closed c) w) d)
  rebased b' w (below' {e = a} {f = c} y d) = below' y (rebased b' (and_right (closed a) (closed c) w) d)
  rebased b' w (node' d) = node' (rebased b' w d)
  rebased b' w (lead' d d') = lead' (rebased b' w d) d'
  rebased b' w (held' y) = held' y
  rebased b' w (kept' y d) = kept' y (rebased b' w d)
  rebased b' w (iter' d) = iter' d
  rebased b' w (again' d) = wrong w
