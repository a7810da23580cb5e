-- Two readings of a term over two pairs of readers one level down. Assumes nothing.
use mathlib.Core.Path.{◌≡◌, refl, sym, ap, ◌∙◌, subst}
use mathlib.Core.List.{List}
use mathlib.Core.Bool.{Bool, true, false, ◌&&◌}
use mathlib.Core.Logic.{◌⊎◌, inl, inr}
use Prim.Native.Nat.{ℕ, zero, suc, ◌-◌}
use lib.ListN.{length}
use lib.Dec.{eqb, ltb}
use borrow.Author.Tests.{eqb-true}
use Rattle.stream.specs.Reader.{reached}
use Rattle.stream.specs.Words.{kind}
use Rattle.stream.specs.declared.reader.Refusal.{Refusal}
use Rattle.operators.specs.Ranks.{Ranks}
use Rattle.tree.specs.Forest.{Forest, none, tree, join}
use Rattle.grammar.specs.Term.{Term, far, must, Line, here, back, Shape}
use Rattle.grammar.specs.Member.{member}
use Rattle.grammar.specs.Term.{empty, expect, any, leaf, weigh, coded, plus, exp, operand, stat, ◌⨾◌, on, operator, refuse, node, lead, held, kept, iter, again}
use Rattle.grammar.specs.Compare.{Rises, stays, deeper, Like, nones, trees, expressions}
use Rattle.grammar.specs.Reading.{hold, shaped, last, ends}
use Rattle.grammar.specs.Reading.{Out, fine, fail, Reader, Readers, add, then, leads, keep, misfit, wrap, loop, read, alone, reach}
use Rattle.grammar.proofs.Form.{plain, closed}
use Rattle.grammar.proofs.Tests.{wrong, and_left, and_right}

-- a relation of answers, over one of trees, that what is made of answers keeps
pub record Kin (K : Out → Out → Type 0) (L : Forest → Forest → Type 0) : Type 0 where
  pub same : (o : Out) → K o o
  pub sames : (t : Forest) → L t t
  pub fines : (p m v : ℕ) (t u : Forest) → L t u → K (fine p m t v) (fine p m u v)
  pub thens : (a b : Out) (f g : Reader) → K a b → ((q m : ℕ) → K (f q m) (g q m)) → K (then a f) (then b g)
  pub leadss : (a b : Out) (f g : Forest → Reader) → K a b → ((t u : Forest) (q m : ℕ) → L t u → K (f t q m) (g u q m)) → K (leads a f) (leads b g)
  pub keeps : (x : Shape) (e : Refusal) (a b : Out) → K a b → K (keep x e a) (keep x e b)
  pub wraps : (s : List ℕ) (tag : ℕ) (l : Line) (i : ℕ) (a b : Out) → K a b → K (wrap s tag l i a) (wrap s tag l i b)

-- two rankings under two limits that are the same, over readers that are kin under every limit
pub record Same (K : Out → Out → Type 0) (rank rank' : Ranks) (limit limit' : ℕ) (R R' : Readers) : Type 0 where
  pub lefts : (k : ℕ) → ltb limit (rank.left k) ≡ ltb limit' (rank'.left k)
  pub rights : (k : ℕ) → rank.right k ≡ rank'.right k
  pub kins : (l p m : ℕ) → K (R.exps l p m) (R'.exps l p m)

pub either2 : (K : Out → Out → Type 0) (c d : Bool) (x y z w : Out) → c ≡ d → K x z → K y w → K (elim c [ true ↦ x | false ↦ y ]) (elim d [ true ↦ z | false ↦ w ])
either2 K true true x y z w e a b = a
either2 K false false x y z w e a b = b
either2 K true false x y z w e a b = wrong (sym e)
either2 K false true x y z w e a b = wrong e

part_left : {S : Type 0} (a b : Bool) → ((a && b) ≡ true) ⊎ S → (a ≡ true) ⊎ S
part_left a b (inl h) = inl (and_left a b h)
part_left a b (inr h) = inr h

part_right : {S : Type 0} (a b : Bool) → ((a && b) ≡ true) ⊎ S → (b ≡ true) ⊎ S
part_right a b (inl h) = inl (and_right a b h)
part_right a b (inr h) = inr h

ranked : {S A : Type 0} → (false ≡ true) ⊎ S → (S → A) → A
ranked (inl h) f = wrong h
ranked (inr h) f = f h

limited : {S A : Type 0} {a : Bool} → (a ≡ true) ⊎ S → (a ≡ true → A) → (S → A) → A
limited (inl h) f g = f h
limited (inr h) f g = g h

module _ (K : Out → Out → Type 0) (L : Forest → Forest → Type 0) (kin : Kin K L) (s : List ℕ) (rank rank' : Ranks) (limit limit' : ℕ) (R R' : Readers)
    (kin-exp : (p m : ℕ) → K (R.exps 0 p m) (R'.exps 0 p m)) (kin-stat : (p m : ℕ) → K (R.stats p m) (R'.stats p m)) where
  abbrev Both : Reader → Reader → Type 0
  Both A B = (p m : ℕ) → K (A p m) (B p m)

  kin_loop : (i j : ℕ) (t u : Forest) (e : Term) → ((A B : Reader) → Both A B → Both (read s rank limit R (hold i j t) e A) (read s rank' limit' R' (hold i j u) e B))
      → (f : ℕ) → Both (loop s f (read s rank limit R (hold i j t) e)) (loop s f (read s rank' limit' R' (hold i j u) e))
  kin_loop i j t u e h zero p m = kin.same _
  kin_loop i j t u e h (suc f) p m = h (loop s f (read s rank limit R (hold i j t) e)) (loop s f (read s rank' limit' R' (hold i j u) e)) (kin_loop i j t u e h f) p m

  -- what is held on both sides starts and ends alike
  pub kindred : (i j : ℕ) (t u : Forest) → L t u → (e : Term) → (plain e ≡ true) ⊎ Same K rank rank' limit limit' R R' → (A B : Reader) → (closed e ≡ true) ⊎ Both A B
      → Both (read s rank limit R (hold i j t) e A) (read s rank' limit' R' (hold i j u) e B)
  unfolding read
  kindred i j t u g empty h A B r p m = kin.same _
  kindred i j t u g (expect k c o) h A B r p m = kin.same _
  kindred i j t u g any h A B r p m = kin.same _
  kindred i j t u g (leaf tag) h A B r p m = kin.same _
  kindred i j t u g weigh h A B r p m = kin.same _
  kindred i j t u g coded h A B r p m = kin.same _
  kindred i j t u g (plus w) h A B r p m = kin.same _
  kindred i j t u g (exp l) h A B r p m = limited h (λ x. subst (λ (c : ℕ). K (R.exps c p m) (R'.exps c p m)) (sym (eqb-true l 0 x)) (kin-exp p m)) (λ x. x.kins l p m)
  kindred i j t u g operand h A B r p m = ranked h (λ x. subst (λ (c : ℕ). K (R.exps (rank.right (kind s (p - 1))) p m) (R'.exps c p m)) (x.rights _) (x.kins _ p m))
  kindred i j t u g stat h A B r p m = kin-stat p m
  kindred i j t u g (a ⨾ c) h A B r p m =
      kin.thens (read s rank limit R (hold i j t) a A p m) (read s rank' limit' R' (hold i j u) a B p m) (read s rank limit R (hold i j t) c A) (read s rank' limit' R' (hold i j u) c B)
      (kindred i j t u g a (part_left (plain a) (plain c) h) A B (part_left (closed a) (closed c) r) p m) (λ q n. kindred i j t u g c (part_right (plain a) (plain c) h) A B (part_right (closed a) (closed c) r) q n)
  kindred i j t u g (on l ks a c) h A B r p m =
      either2 K (must l && eqb (kind s p) 59) (must l && eqb (kind s p) 59) _ _ _ _ refl (kin.same _)
      (either2 K (member (kind s (far l p)) ks) (member (kind s (far l p)) ks) _ _ _ _ refl
      (kindred i j t u g a (part_left (plain a) (plain c) h) A B (part_left (closed a) (closed c) r) p (reached s m p (reach l))) (kindred i j t u g c (part_right (plain a) (plain c) h) A B (part_right (closed a) (closed c) r) p (reached s m p (reach l))))
  kindred i j t u g (operator a c) h A B r p m =
      ranked h (λ x. either2 K (ltb limit (rank.left (kind s p))) (ltb limit' (rank'.left (kind s p))) _ _ _ _ (x.lefts _)
      (kindred i j t u g a (inr x) A B (part_left (closed a) (closed c) r) p (reached s m p 2)) (kindred i j t u g c (inr x) A B (part_right (closed a) (closed c) r) p (reached s m p 2)))
  kindred i j t u g (refuse c) h A B r p m = kin.same _
  kindred i j t u g (node tag here l e) h A B r p m = kin.wraps s tag l p _ _ (kindred i j t u g e h A B r p m)
  kindred i j t u g (node tag back l e) h A B r p m = kin.wraps s tag l i _ _ (kindred i j t u g e h A B r p m)
  kindred i j t u g (lead a c) h A B r p m =
      kin.leadss (read s rank limit R (hold i j t) a A p m) (read s rank' limit' R' (hold i j u) a B p m)
      (λ x q. loop s (suc (length s)) (read s rank limit R (hold p q x) c) q) (λ x q. loop s (suc (length s)) (read s rank' limit' R' (hold p q x) c) q)
      (kindred i j t u g a (part_left (plain a) (plain c) h) A B r p m)
      (λ x y q n z. kin_loop p q x y c (λ A' B' r'. kindred p q x y z c (part_right (plain a) (plain c) h) A' B' (inr r')) (suc (length s)) q n)
  kindred i j t u g (held x n) h A B r p m = kin.keeps x (misfit s (hold i j t) n) (fine p m t 0) (fine p m u 0) (kin.fines p m 0 t u g)
  kindred i j t u g (kept x n e) h A B r p m = kin.keeps x (misfit s (hold i j t) n) _ _ (kindred i j t u g e h A B r p m)
  kindred i j t u g (iter e) h A B r p m = kin_loop i j t u e (λ A' B' r'. kindred i j t u g e h A' B' (inr r')) (suc (length s)) p m
  kindred i j t u g again h A B r p m = ranked r (λ x. x p m)

  -- a production on its own
  pub kindred_alone : (e : Term) → (plain e ≡ true) ⊎ Same K rank rank' limit limit' R R' → Both (alone s rank limit R e) (alone s rank' limit' R' e)
  kindred_alone e h = kin_loop 0 0 none none e (λ A' B' r'. kindred 0 0 none none (kin.sames none) e h A' B' (inr r')) (suc (length s))

rises_add : (t : Forest) (v : ℕ) (a b : Out) → Rises a b → Rises (add t v a) (add t v b)
rises_add t v a b stays = stays
rises_add t v a b (deeper h) = deeper h

rises_then : (a b : Out) (f g : Reader) → Rises a b → ((q m : ℕ) → Rises (f q m) (g q m)) → Rises (then a f) (then b g)
rises_then a b f g (stays {o = fine q m t v}) h = rises_add t v (f q m) (g q m) (h q m)
rises_then a b f g (stays {o = fail e}) h = stays
rises_then a b f g (deeper x) h = deeper x

rises_leads : (a b : Out) (f g : Forest → Reader) → Rises a b → ((t u : Forest) (q m : ℕ) → t ≡ u → Rises (f t q m) (g u q m)) → Rises (leads a f) (leads b g)
rises_leads a b f g (stays {o = fine q m t v}) h = rises_add none v (f t q m) (g t q m) (h t t q m refl)
rises_leads a b f g (stays {o = fail e}) h = stays
rises_leads a b f g (deeper x) h = deeper x

rises_keep : (x : Shape) (e : Refusal) (a b : Out) → Rises a b → Rises (keep x e a) (keep x e b)
rises_keep x e a b stays = stays
rises_keep x e a b (deeper y) = deeper y

rises_wrap : (s : List ℕ) (tag : ℕ) (l : Line) (i : ℕ) (a b : Out) → Rises a b → Rises (wrap s tag l i a) (wrap s tag l i b)
rises_wrap s tag l i a b stays = stays
rises_wrap s tag l i a b (deeper x) = deeper x

pub rises_kin : Kin Rises (λ t u. t ≡ u)
rises_kin =
    record {
      same = λ o. stays;
      sames = λ t. refl;
      fines = λ p m v t u h. subst (λ (z : Forest). Rises (fine p m t v) (fine p m z v)) h stays;
      thens = rises_then;
      leadss = rises_leads;
      keeps = rises_keep;
      wraps = rises_wrap;
    }

pub like_same : (t : Forest) → Like t t
like_same none = nones
like_same (tree tag v l p k r) = trees (like_same k) (like_same r)

pub like_join : {a b c d : Forest} → Like a b → Like c d → Like (join a c) (join b d)
like_join nones y = y
like_join (trees k r) y = trees k (like_join r y)
like_join (expressions h r) y = expressions h (like_join r y)

pub like_sym : {a b : Forest} → Like a b → Like b a
like_sym nones = nones
like_sym (trees k r) = trees (like_sym k) (like_sym r)
like_sym (expressions h r) = expressions h (like_sym r)

pub like_trans : {a b c : Forest} → Like a b → Like b c → Like a c
like_trans nones nones = nones
like_trans (trees k r) (trees k' r') = trees (like_trans k k') (like_trans r r')
like_trans (trees k r) (expressions h r') = expressions h (like_trans r r')
like_trans (expressions h r) (trees k' r') = expressions h (like_trans r r')
like_trans (expressions h r) (expressions h' r') = expressions h (like_trans r r')

like_last : {a b : Forest} (tag : ℕ) → Like a b → last tag a ≡ last tag b
like_last tag nones = refl
like_last tag (trees {tag = n} k r) = like_last n r
like_last tag (expressions {tag = n} h r) = like_last n r

pub like_shaped : (x : Shape) {a b : Forest} → Like a b → shaped x a ≡ shaped x b
like_shaped x nones = refl
like_shaped x (trees {tag = n} k r) = ap (λ (z : ℕ). eqb n 29 && ends x z) (like_last 0 k)
like_shaped x (expressions {k = k} {k' = k'} h r) = ap (λ (z : ℕ). eqb z 29 && ends x (last 0 k)) h ∙ sym (ap (λ (z : ℕ). eqb z 29 && ends x (last 0 k')) h)
