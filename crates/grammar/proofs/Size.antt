-- A forest derived from n tokens has at most 4 n + 1 records. Assumes nothing.
use mathlib.Core.Path.{◌≡◌, refl}
use mathlib.Core.List.{List}
use mathlib.Core.Bool.{Bool, true, false, ◌&&◌, ◌||◌, not}
use Prim.Native.Nat.{ℕ, zero, suc, ◌+◌, ◌*◌, ◌≤◌}
use native.Mathlib.Omega.{arith}
use lib.Dec.{leb}
use borrow.Author.Tests.{leb-true, leb-false}
use Rattle.operators.specs.Ranks.{Ranks}
use Rattle.tree.specs.Forest.{Forest, size}
use Rattle.tree.proofs.Lay.{size_join}
use Rattle.grammar.specs.Term.{Term}
use Rattle.grammar.specs.Term.{empty, expect, any, leaf, weigh, coded, plus, exp, operand, stat, ◌⨾◌, on, operator, refuse, node, lead, held, kept, iter, again}
use Rattle.grammar.specs.Reading.{Held}
use Rattle.grammar.specs.Productions.{explist, retstat, block, parlist, funcbody, field, table, args, suffix, primary, suffixed, simple, head, tail, tails, expression}
use Rattle.grammar.specs.Productions.{ifstat, whilestat, dostat, forstat, repeatstat, functionstat, localfunction, localstat, label, breakstat, gotostat, exprstat, statement}
use Rattle.grammar.proofs.Derives.{Phrase, Phrases, Derives, Alone}
use Rattle.grammar.proofs.Derives.{empty', expect', any', leaf', weigh', coded', plus', exp', operand', stat', seq', this', that', above', below', node', lead', held', kept', iter', again'}
use Rattle.grammar.proofs.Derives.{phrases, Chunk}
use Rattle.grammar.proofs.Tests.{wrong, and_left, and_right}

-- so many records more than four a token: `more` less `less`
record Cost : Type 0 where
  more : ℕ
  less : ℕ

abbrev bill : ℕ → ℕ → Cost
bill a b = record { more = a; less = b }

abbrev leq : Cost → Cost → Bool
leq a b = leb (a.more + b.less) (b.more + a.less)

abbrev worse : Cost → Cost → Cost
worse a b = elim (leq a b) [ true ↦ b | false ↦ a ]

-- `cost x e`, where x is what `again` costs
abbrev cost : Cost → Term → Cost
cost x empty = bill 0 0
cost x (expect k c o) = bill 0 4
cost x any = bill 0 4
cost x (leaf t) = bill 1 0
cost x weigh = bill 0 0
cost x coded = bill 0 0
cost x (plus w) = bill 0 0
cost x (exp l) = bill 0 1
cost x operand = bill 0 1
cost x stat = bill 0 1
cost x (a ⨾ b) = bill ((cost x a).more + (cost x b).more) ((cost x a).less + (cost x b).less)
cost x (on l ks a b) = worse (cost x a) (cost x b)
cost x (operator a b) = worse (cost x a) (cost x b)
cost x (refuse c) = bill 0 4
cost x (node t f l e) = bill ((cost x e).more + 1) (cost x e).less
cost x (lead a b) = bill ((cost x a).more + (cost (bill 0 99) b).more) ((cost x a).less + (cost (bill 0 99) b).less)
cost x (held h n) = bill 0 0
cost x (kept h n e) = cost x e
cost x (iter e) = cost (bill 0 99) e
cost x again = x

-- whether it has the held trees among its own, where u tells it of `again`
abbrev uses : Bool → Term → Bool
uses u empty = false
uses u (expect k c o) = false
uses u any = false
uses u (leaf t) = false
uses u weigh = false
uses u coded = false
uses u (plus w) = false
uses u (exp l) = false
uses u operand = false
uses u stat = false
uses u (a ⨾ b) = uses u a || uses u b
uses u (on l ks a b) = uses u a || uses u b
uses u (operator a b) = uses u a || uses u b
uses u (refuse c) = false
uses u (node t f l e) = uses u e
uses u (lead a b) = uses u a
uses u (held h n) = true
uses u (kept h n e) = uses u e
uses u (iter e) = uses false e
uses u again = u

abbrev settled : Term → Bool
settled e = leq (cost (cost (bill 0 99) e) e) (cost (bill 0 99) e)

-- the held trees stand once at most, and a repetition costs no more the next time
abbrev frugal : Bool → Term → Bool
frugal u empty = true
frugal u (expect k c o) = true
frugal u any = true
frugal u (leaf t) = true
frugal u weigh = true
frugal u coded = true
frugal u (plus w) = true
frugal u (exp l) = true
frugal u operand = true
frugal u stat = true
frugal u (a ⨾ b) = frugal u a && frugal u b && not (uses u a && uses u b)
frugal u (on l ks a b) = frugal u a && frugal u b
frugal u (operator a b) = frugal u a && frugal u b
frugal u (refuse c) = true
frugal u (node t f l e) = frugal u e
frugal u (lead a b) = frugal u a && (frugal true b && settled b)
frugal u (held h n) = true
frugal u (kept h n e) = frugal u e
frugal u (iter e) = frugal false e && settled e && not (uses false e)
frugal u again = true

abbrev share : Bool → ℕ → ℕ
share true n = n
share false n = 0

share_left : (a b : Bool) (n : ℕ) → share a n ≤ share (a || b) n
share_left true b n = omega arith
share_left false b n = omega arith

share_right : (a b : Bool) (n : ℕ) → share b n ≤ share (a || b) n
share_right true true n = omega arith
share_right true false n = omega arith
share_right false b n = omega arith

share_both : (a b : Bool) (n : ℕ) → not (a && b) ≡ true → share a n + share b n ≤ share (a || b) n
share_both true true n h = wrong h
share_both true false n h = omega arith
share_both false b n h = omega arith

share_most : (a : Bool) (n : ℕ) → share a n ≤ n
share_most true n = omega arith
share_most false n = omega arith

share_none : (a : Bool) (n : ℕ) → not a ≡ true → share a n ≡ 0
share_none true n h = wrong h
share_none false n h = refl

record Leq (a b : Cost) : Type 0 where
  leq : a.more + b.less ≤ b.more + a.less

leq_is : (a b : Cost) → leq a b ≡ true → Leq a b
leq_is a b h = record { leq = leb-true _ _ h }

worse_left : (a b : Cost) → Leq a (worse a b)
worse_left a b = go (leq a b) refl
  where
    go : (c : Bool) → leq a b ≡ c → Leq a (elim c [ true ↦ b | false ↦ a ])
    go true h = leq_is a b h
    go false h = record { leq = omega arith }

worse_right : (a b : Cost) → Leq b (worse a b)
worse_right a b = go (leq a b) refl
  where
    go : (c : Bool) → leq a b ≡ c → Leq b (elim c [ true ↦ b | false ↦ a ])
    go true h = record { leq = omega arith }
    go false h = record { leq = omega (arith, leb-false (a.more + b.less) (b.more + a.less) h) }

record Fit (n i j : ℕ) (c : Cost) (extra : ℕ) : Type 0 where
  fit : n + c.less + 4 * i ≤ 4 * j + c.more + extra

looser : (n i j : ℕ) (a b : Cost) (x y : ℕ) → Leq a b → x ≤ y → Fit n i j a x → Fit n i j b y
looser n i j a b x y l h f = record { fit = omega (arith, l.leq, f.fit) }

-- what is asked of the phrases one level down
abbrev pub Small : Phrase → Type 0
Small P = (i j v : ℕ) (t : Forest) → P i j t v → size t + 1 + 4 * i ≤ 4 * j

record Body (x : Cost) (u : Bool) (b : Term) : Type 0 where
  settles : Leq (cost x b) x
  spares : frugal u b ≡ true
  shares : (n : ℕ) → share (uses u b) n ≤ share u n

module _ (s : List ℕ) (rank : Ranks) (limit : ℕ) (P : Phrases) (small-exp : (l : ℕ) → Small (P.exps l)) (small-stat : Small P.stats) where
  lower : (i j z n : ℕ) → z + 1 + 4 * i ≤ 4 * j → Fit z i j (bill 0 1) n
  lower i j z n h = record { fit = omega arith }

  sized : {h : Held} {b e : Term} {i j v : ℕ} {t : Forest} (x : Cost) (u : Bool) → Body x u b → frugal u e ≡ true → Derives s rank limit P h b e i j t v
      → Fit (size t) i j (cost x e) (share (uses u e) (size h.trees))
  sized x u w f empty' = record { fit = omega arith }
  sized x u w f (expect' y) = record { fit = omega arith }
  sized x u w f (any' y) = record { fit = omega arith }
  sized x u w f leaf' = record { fit = omega arith }
  sized x u w f weigh' = record { fit = omega arith }
  sized x u w f coded' = record { fit = omega arith }
  sized x u w f plus' = record { fit = omega arith }
  sized x u w f (exp' {t = t} d) = lower _ _ (size t) _ (small-exp _ _ _ _ t d)
  sized x u w f (operand' {t = t} d) = lower _ _ (size t) _ (small-exp _ _ _ _ t d)
  sized x u w f (stat' {t = t} d) = lower _ _ (size t) _ (small-stat _ _ _ t d)
  sized {h} x u w f (seq' {e = a} {f = c} {t = t} {u = t'} d d') =
      let g = and_left (frugal u a && frugal u c) _ f in
      let p = sized x u w (and_left (frugal u a) (frugal u c) g) d in
      let q = sized x u w (and_right (frugal u a) (frugal u c) g) d' in
      record { fit = omega (arith, size_join t t', p.fit, q.fit, share_both (uses u a) (uses u c) (size h.trees) (and_right (frugal u a && frugal u c) _ f)) }
  sized {h} x u w f (this' {e = a} {f = c} y d) =
      looser _ _ _ _ _ _ _ (worse_left (cost x a) (cost x c)) (share_left (uses u a) (uses u c) (size h.trees)) (sized x u w (and_left (frugal u a) (frugal u c) f) d)
  sized {h} x u w f (that' {e = a} {f = c} y d) =
      looser _ _ _ _ _ _ _ (worse_right (cost x a) (cost x c)) (share_right (uses u a) (uses u c) (size h.trees)) (sized x u w (and_right (frugal u a) (frugal u c) f) d)
  sized {h} x u w f (above' {e = a} {f = c} y d) =
      looser _ _ _ _ _ _ _ (worse_left (cost x a) (cost x c)) (share_left (uses u a) (uses u c) (size h.trees)) (sized x u w (and_left (frugal u a) (frugal u c) f) d)
  sized {h} x u w f (below' {e = a} {f = c} y d) =
      looser _ _ _ _ _ _ _ (worse_right (cost x a) (cost x c)) (share_right (uses u a) (uses u c) (size h.trees)) (sized x u w (and_right (frugal u a) (frugal u c) f) d)
  sized x u w f (node' d) = record { fit = omega (arith, (sized x u w f d).fit) }
  sized x u w f (lead' {e = a} {f = c} {t = t} d d') =
      let g = and_right (frugal u a) (frugal true c && settled c) f in
      let z = cost (bill 0 99) c in
      let body : Body z true c = record { settles = leq_is (cost z c) z (and_right (frugal true c) (settled c) g); spares = and_left (frugal true c) (settled c) g; shares = share_most (uses true c) } in
      let p = sized x u w (and_left (frugal u a) _ f) d in
      let q = sized z true body body.spares d' in
      record { fit = omega (arith, p.fit, q.fit, body.settles.leq, share_most (uses true c) (size t)) }
  sized x u w f (held' y) = record { fit = omega arith }
  sized x u w f (kept' y d) = sized x u w f d
  sized {h} x u w f (iter' {e = a} d) =
      let g = and_left (frugal false a && settled a) _ f in
      let z = cost (bill 0 99) a in
      let n = share_none (uses false a) (size h.trees) (and_right (frugal false a && settled a) _ f) in
      let body : Body z false a =
      record {
        settles = leq_is (cost z a) z (and_right (frugal false a) (settled a) g);
        spares = and_left (frugal false a) (settled a) g;
        shares = λ k. omega (arith, share_none (uses false a) k (and_right (frugal false a && settled a) _ f));
      } in
      looser _ _ _ _ _ _ _ body.settles (omega arith) (sized z false body body.spares d)
  sized {h} x u w f (again' d) = looser _ _ _ _ _ _ _ w.settles (w.shares (size h.trees)) (sized x u w w.spares d)

  plainly : Body (bill 0 0) false empty
  plainly = record { settles = record { leq = omega arith }; spares = refl; shares = λ n. omega arith }

  sized_alone : (e : Term) (c n : ℕ) → (frugal true (iter e) && leq (cost (bill 0 99) e) (bill c n)) ≡ true
      → (i j v : ℕ) (t : Forest) → Alone s rank limit P e i j t v → size t + n + 4 * i ≤ 4 * j + c
  sized_alone e c n k i j v t d =
      let p = sized (bill 0 0) false plainly (and_left (frugal true (iter e)) _ k) (iter' {b = empty} d) in
      let q = leq_is (cost (bill 0 99) e) (bill c n) (and_right (frugal true (iter e)) _ k) in
      omega (arith, p.fit, q.leq, share_most (uses false e) 0)

expression_frugal : (frugal true (iter expression) && leq (cost (bill 0 99) expression) (bill 0 1)) ≡ true
unfolding explist retstat block parlist funcbody field table args suffix primary suffixed simple head tail tails expression
expression_frugal = refl

statement_frugal : (frugal true (iter statement) && leq (cost (bill 0 99) statement) (bill 0 1)) ≡ true
unfolding explist retstat block parlist funcbody field table args suffix primary suffixed ifstat whilestat dostat forstat repeatstat functionstat localfunction localstat label breakstat gotostat exprstat statement
statement_frugal = refl

block_frugal : (frugal true (iter block) && leq (cost (bill 0 99) block) (bill 1 0)) ≡ true
unfolding explist retstat block
block_frugal = refl

module _ (s : List ℕ) (rank : Ranks) where
  smalls : (g : ℕ) → ((l : ℕ) → Small ((phrases s rank g).exps l)) × Small (phrases s rank g).stats
  smalls zero = (λ l i j v t d. absurd d, λ i j v t d. absurd d)
  smalls (suc g) =
      let h = smalls g in (
        λ l i j v t d. omega (arith, sized_alone s rank l (phrases s rank g) h.0 h.1 expression 0 1 expression_frugal i j v t d),
        λ i j v t d. omega (arith, sized_alone s rank 0 (phrases s rank g) h.0 h.1 statement 0 1 statement_frugal i j v t d),
      )

  -- four records a token, and one more
  pub small : (g : ℕ) (t : Forest) (c : Chunk s rank g t) → size t ≤ 4 * c.end + 1
  small g t c = let h = smalls g in omega (arith, sized_alone s rank 0 (phrases s rank g) h.0 h.1 block 1 0 block_frugal 0 c.end c.value t c.derived)
