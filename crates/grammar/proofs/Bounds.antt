-- A reading of a well-formed stream stays within it, and its refusals are numbered 1 to 5. Assumes nothing.
use mathlib.Core.Path.{◌≡◌, refl, sym, ◌∙◌}
use mathlib.Core.List.{List}
use mathlib.Core.Bool.{Bool, true, ◌&&◌, not}
use Prim.Native.Nat.{ℕ, zero, suc, ◌-◌, ◌≤◌, ◌<◌}
use native.Mathlib.Omega.{arith}
use lib.ListN.{length}
use lib.Dec.{eqb, ltb}
use borrow.Author.Tests.{ltb-true, eqb-true, eqb-false, not-true}
use Rattle.stream.specs.Words.{records, kind}
use Rattle.stream.specs.Formed.{Formed}
use Rattle.stream.specs.Reader.{reached}
use Rattle.stream.specs.declared.reader.Refusal.{Refusal}
use Rattle.stream.proofs.Words.{some, token_next}
use Rattle.operators.specs.Ranks.{Ranks}
use Rattle.tree.specs.Forest.{Forest, none}
use Rattle.grammar.specs.Member.{member}
use Rattle.grammar.specs.Term.{Term, far, must, Line, Shape}
use Rattle.grammar.specs.Term.{empty, expect, any, leaf, weigh, coded, plus, exp, operand, stat, ◌⨾◌, on, operator, refuse, node, lead, held, kept, iter, again}
use Rattle.grammar.specs.Reading.{Out, fine, fail, Reader, Readers, Held, hold, start_of, shaped, unexpected, add, then, leads, keep, misfit, wrap, loop, read, alone, reach}
use Rattle.grammar.specs.Productions.{explist, retstat, block, parlist, funcbody, field, table, args, suffix, primary, suffixed, simple, head, tail, tails, expression}
use Rattle.grammar.specs.Productions.{ifstat, whilestat, dostat, forstat, repeatstat, functionstat, localfunction, localstat, label, breakstat, gotostat, exprstat, statement}
use Rattle.grammar.specs.Levels.{readers, finish, chunk}
use Rattle.grammar.proofs.Tests.{and_left, and_right}
use Rattle.grammar.proofs.Sound.{either}

-- a refusal's number; a place at a record, or such a refusal
abbrev pub Numbered : ℕ → Type 0
Numbered n = (0 < n) × (n ≤ 5)

abbrev pub Bounded : List ℕ → Out → Type 0
Bounded s (fine q m t v) = q < records s
Bounded s (fail e) = Numbered e.number

abbrev numbered : ℕ → Bool
numbered n = ltb 0 n && ltb n 6

-- no end of the stream is expected, and what has another shape is refused by such a number
abbrev pub sane : Term → Bool
sane empty = true
sane (expect k c o) = not (eqb k 59)
sane any = true
sane (leaf tag) = true
sane weigh = true
sane coded = true
sane (plus w) = true
sane (exp l) = true
sane operand = true
sane stat = true
sane (a ⨾ b) = sane a && sane b
sane (on l ks a b) = sane a && sane b
sane (operator a b) = sane a && sane b
sane (refuse c) = true
sane (node tag f l e) = sane e
sane (lead a b) = sane a && sane b
sane (held x n) = numbered n
sane (kept x n e) = numbered n && sane e
sane (iter e) = sane e
sane again = true

is_numbered : (n : ℕ) → numbered n ≡ true → Numbered n
is_numbered n h = let a = ltb-true 0 n (and_left (ltb 0 n) (ltb n 6) h) in let b = ltb-true n 6 (and_right (ltb 0 n) (ltb n 6) h) in omega arith

-- what is made of bounded answers
module _ (s : List ℕ) where
  abbrev pub Within : Reader → Type 0
  Within A = (p m : ℕ) → p < records s → Bounded s (A p m)

  bounded_add : (t : Forest) (v : ℕ) (o : Out) → Bounded s o → Bounded s (add t v o)
  bounded_add t v (fine q m u w) h = h
  bounded_add t v (fail e) h = h

  bounded_then : (o : Out) (f : Reader) → Bounded s o → Within f → Bounded s (then o f)
  bounded_then (fine q m t v) f h g = bounded_add t v (f q m) (g q m h)
  bounded_then (fail e) f h g = h

  bounded_leads : (o : Out) (f : Forest → Reader) → Bounded s o → ((t : Forest) → Within (f t)) → Bounded s (leads o f)
  bounded_leads (fine q m t v) f h g = bounded_add none v (f t q m) (g t q m h)
  bounded_leads (fail e) f h g = h

  bounded_keep : (x : Shape) (e : Refusal) → Numbered e.number → (o : Out) → Bounded s o → Bounded s (keep x e o)
  bounded_keep x e n (fine q m t v) h = either (Bounded s) (shaped x t) _ _ (λ y. h) (λ y. n)
  bounded_keep x e n (fail e') h = h

  bounded_wrap : (tag : ℕ) (l : Line) (i : ℕ) (o : Out) → Bounded s o → Bounded s (wrap s tag l i o)
  bounded_wrap tag l i (fine q m t v) h = h
  bounded_wrap tag l i (fail e) h = h

  bounded_unexpected : (p m c : ℕ) (own : Bool) → Bounded s (unexpected s p m c own)
  bounded_unexpected p m c own = either (Bounded s) (eqb (kind s p) 59) _ _ (λ x. omega arith) (λ x. omega arith)

  bounded_finish : (o : Out) → Bounded s o → Bounded s (finish s o)
  bounded_finish (fine q m t v) h = either (Bounded s) (eqb (kind s q) 59) _ _ (λ x. h) (λ x. omega arith)
  bounded_finish (fail e) h = h

  bounded_loop : (f : Reader → Reader) → ((A : Reader) → Within A → Within (f A)) → (n : ℕ) → Within (loop s n f)
  bounded_loop f h zero p m l = omega arith
  bounded_loop f h (suc n) p m l = h (loop s n f) (bounded_loop f h n) p m l

-- a term, over bounded readers one level down
module _ (s : List ℕ) (formed : Formed s) (rank : Ranks) (limit : ℕ) (R : Readers) (exps : (l : ℕ) → Within s (R.exps l)) (stats : Within s R.stats) where
  bound : (h : Held) (e : Term) → sane e ≡ true → (A : Reader) → Within s A → Within s (read s rank limit R h e A)
  unfolding read
  bound h empty x A r p m l = l
  bound h (expect k c o) x A r p m l =
      either (Bounded s) (eqb (kind s p) k) _ _
      (λ y. token_next s formed p (λ z. eqb-false k 59 (not-true _ x) (sym (eqb-true (kind s p) k y) ∙ z))) (λ y. bounded_unexpected s p (reached s m p 2) c o)
  bound h any x A r p m l = either (Bounded s) (eqb (kind s p) 59) _ _ (λ y. omega arith) (λ y. token_next s formed p (eqb-false _ _ y))
  bound h (leaf tag) x A r p m l = l
  bound h weigh x A r p m l = l
  bound h coded x A r p m l = l
  bound h (plus w) x A r p m l = l
  bound h (exp k) x A r p m l = exps k p m l
  bound h operand x A r p m l = exps (rank.right (kind s (p - 1))) p m l
  bound h stat x A r p m l = stats p m l
  bound h (a ⨾ b) x A r p m l =
      bounded_then s (read s rank limit R h a A p m) (read s rank limit R h b A) (bound h a (and_left (sane a) (sane b) x) A r p m l) (λ q n k. bound h b (and_right (sane a) (sane b) x) A r q n k)
  bound h (on look ks a b) x A r p m l =
      either (Bounded s) (must look && eqb (kind s p) 59) _ _ (λ y. omega arith)
      (λ y. either (Bounded s) (member (kind s (far look p)) ks) _ _
      (λ z. bound h a (and_left (sane a) (sane b) x) A r p (reached s m p (reach look)) l) (λ z. bound h b (and_right (sane a) (sane b) x) A r p (reached s m p (reach look)) l))
  bound h (operator a b) x A r p m l =
      either (Bounded s) (ltb limit (rank.left (kind s p))) _ _
      (λ z. bound h a (and_left (sane a) (sane b) x) A r p (reached s m p 2) l) (λ z. bound h b (and_right (sane a) (sane b) x) A r p (reached s m p 2) l)
  bound h (refuse c) x A r p m l = bounded_unexpected s p m c true
  bound h (node tag f line e) x A r p m l = bounded_wrap s tag line (start_of h f p) (read s rank limit R h e A p m) (bound h e x A r p m l)
  bound h (lead a b) x A r p m l =
      bounded_leads s (read s rank limit R h a A p m) (λ t q. loop s (suc (length s)) (read s rank limit R (hold p q t) b) q) (bound h a (and_left (sane a) (sane b) x) A r p m l)
      (λ t q n k. bounded_loop s (read s rank limit R (hold p q t) b) (λ A' r'. bound (hold p q t) b (and_right (sane a) (sane b) x) A' r') (suc (length s)) q n k)
  bound h (held y n) x A r p m l = bounded_keep s y (misfit s h n) (is_numbered n x) (fine p m h.trees 0) l
  bound h (kept y n e) x A r p m l =
      bounded_keep s y (misfit s h n) (is_numbered n (and_left (numbered n) (sane e) x)) (read s rank limit R h e A p m) (bound h e (and_right (numbered n) (sane e) x) A r p m l)
  bound h (iter e) x A r p m l = bounded_loop s (read s rank limit R h e) (λ A' r'. bound h e x A' r') (suc (length s)) p m l
  bound h again x A r p m l = r p m l

  bound_alone : (e : Term) → sane e ≡ true → Within s (alone s rank limit R e)
  bound_alone e x = bounded_loop s (read s rank limit R (hold 0 0 none) e) (λ A r. bound (hold 0 0 none) e x A r) (suc (length s))

-- the productions are sane: computed
expression_sane : sane expression ≡ true
unfolding explist retstat block parlist funcbody field table args suffix primary suffixed simple head tail tails expression
expression_sane = refl

statement_sane : sane statement ≡ true
unfolding explist retstat block parlist funcbody field table args suffix primary suffixed ifstat whilestat dostat forstat repeatstat functionstat localfunction localstat label breakstat gotostat exprstat statement
statement_sane = refl

block_sane : sane block ≡ true
unfolding explist retstat block
block_sane = refl

-- at every level, and of the whole stream
module _ (s : List ℕ) (formed : Formed s) (rank : Ranks) where
  bounds : (g : ℕ) → ((l : ℕ) → Within s ((readers s rank g).exps l)) × Within s (readers s rank g).stats
  bounds zero = (λ l p m h. omega arith, λ p m h. omega arith)
  bounds (suc g) =
      let b = bounds g in (
        λ l. bound_alone s formed rank l (readers s rank g) b.0 b.1 expression expression_sane,
        bound_alone s formed rank 0 (readers s rank g) b.0 b.1 statement statement_sane,
      )

  pub bounded : (levels : ℕ) → Bounded s (chunk s rank levels)
  bounded levels =
      let b = bounds levels in
      bounded_finish s (alone s rank 0 (readers s rank levels) block 0 0) (bound_alone s formed rank 0 (readers s rank levels) b.0 b.1 block block_sane 0 0 (some s formed))
