-- What a reading accepts is derived. Assumes nothing.
use mathlib.Core.Path.{◌≡◌, refl}
use mathlib.Core.List.{List}
use mathlib.Core.Bool.{Bool, true, false, ◌&&◌}
use Prim.Native.Nat.{ℕ, zero, suc, ◌+◌, ◌-◌}
use lib.ListN.{length}
use lib.Dec.{eqb, ltb}
use borrow.Author.Tests.{ltb-true, ltb-false, eqb-true, eqb-false}
use Rattle.stream.specs.Reader.{reached}
use Rattle.stream.specs.Words.{kind}
use Rattle.stream.specs.declared.reader.Refusal.{Refusal}
use Rattle.operators.specs.Ranks.{Ranks}
use Rattle.tree.specs.Forest.{Forest, none, tree, join}
use Rattle.grammar.specs.Term.{Term, far, must, Line, Shape}
use Rattle.grammar.specs.Member.{member}
use Rattle.grammar.specs.Term.{empty, expect, any, leaf, weigh, coded, plus, exp, operand, stat, ◌⨾◌, on, operator, refuse, node, lead, held, kept, iter, again}
use Rattle.grammar.specs.Reading.{line_of, Held, hold, start_of, shaped}
use Rattle.grammar.specs.Reading.{Out, fine, fail, Reader, Readers, unexpected, add, then, leads, keep, misfit, wrap, loop, read, alone, reach}
use Rattle.grammar.proofs.Derives.{Phrase, Phrases, Derives, Alone}
use Rattle.grammar.proofs.Derives.{empty', expect', any', leaf', weigh', coded', plus', exp', operand', stat', seq', this', that', above', below', node', lead', held', kept', iter', again'}

-- what holds of what is accepted
abbrev pub Fits : (ℕ → Forest → ℕ → Type 0) → Out → Type 0
Fits P (fine j m t v) = P j t v
Fits P (fail e) = Unit

abbrev pub Sound : Reader → Phrase → Type 0
Sound R P = (i m : ℕ) → Fits (P i) (R i m)

fits_add : (Q : ℕ → Forest → ℕ → Type 0) (t : Forest) (v : ℕ) (o : Out) → Fits (λ j u w. Q j (join t u) (v + w)) o → Fits Q (add t v o)
fits_add Q t v (fine j m u w) h = h
fits_add Q t v (fail e) h = tt

pub fits_map : (P Q : ℕ → Forest → ℕ → Type 0) (o : Out) → ((j : ℕ) (t : Forest) (v : ℕ) → P j t v → Q j t v) → Fits P o → Fits Q o
fits_map P Q (fine j m t v) f h = f j t v h
fits_map P Q (fail e) f h = tt

fits_then : (P Q : ℕ → Forest → ℕ → Type 0) (o : Out) (f : Reader) → Fits P o
    → ((j m : ℕ) (t : Forest) (v : ℕ) → P j t v → Fits (λ k u w. Q k (join t u) (v + w)) (f j m)) → Fits Q (then o f)
fits_then P Q (fine j m t v) f h g = fits_add Q t v (f j m) (g j m t v h)
fits_then P Q (fail e) f h g = tt

fits_wrap : (s : List ℕ) (tag : ℕ) (l : Line) (i : ℕ) (Q : ℕ → Forest → ℕ → Type 0) (o : Out) → Fits (λ j t v. Q j (tree tag v (line_of s l i j) i t none) 0) o → Fits Q (wrap s tag l i o)
fits_wrap s tag l i Q (fine j m t v) h = h
fits_wrap s tag l i Q (fail e) h = tt

pub either : (P : Out → Type 0) (c : Bool) (x y : Out) → (c ≡ true → P x) → (c ≡ false → P y) → P (elim c [ true ↦ x | false ↦ y ])
either P true x y f g = f refl
either P false x y f g = g refl

fits_unexpected : (s : List ℕ) (p m c : ℕ) (own : Bool) (Q : ℕ → Forest → ℕ → Type 0) → Fits Q (unexpected s p m c own)
fits_unexpected s p m c own Q = either (Fits Q) (eqb (kind s p) 59) _ _ (λ h. tt) (λ h. tt)

fits_leads : (P Q : ℕ → Forest → ℕ → Type 0) (o : Out) (f : Forest → Reader) → Fits P o
    → ((j m : ℕ) (t : Forest) (v : ℕ) → P j t v → Fits (λ k u w. Q k u (v + w)) (f t j m)) → Fits Q (leads o f)
fits_leads P Q (fine j m t v) f h g = fits_add Q none v (f t j m) (g j m t v h)
fits_leads P Q (fail e) f h g = tt

fits_keep : (x : Shape) (e : Refusal) (P Q : ℕ → Forest → ℕ → Type 0) (o : Out) → ((j : ℕ) (t : Forest) (v : ℕ) → shaped x t ≡ true → P j t v → Q j t v) → Fits P o → Fits Q (keep x e o)
fits_keep x e P Q (fine j m t v) f h = either (Fits Q) (shaped x t) _ _ (λ y. f j t v y h) (λ y. tt)
fits_keep x e P Q (fail e') f h = tt

module _ (s : List ℕ) (rank : Ranks) (limit : ℕ) (P : Phrases) (R : Readers)
    (sound-exp : (l : ℕ) → Sound (R.exps l) (P.exps l)) (sound-stat : Sound R.stats P.stats) where
  pub sound_loop : (g : Held) (e : Term) → ((A : Reader) → Sound A (Derives s rank limit P g e e) → Sound (read s rank limit R g e A) (Derives s rank limit P g e e))
      → (f : ℕ) → Sound (loop s f (read s rank limit R g e)) (Derives s rank limit P g e e)
  sound_loop g e h zero i m = tt
  sound_loop g e h (suc f) i m = h (loop s f (read s rank limit R g e)) (sound_loop g e h f) i m

  pub sound : (g : Held) (e b : Term) (A : Reader) → Sound A (Derives s rank limit P g b b) → Sound (read s rank limit R g e A) (Derives s rank limit P g b e)
  unfolding read
  sound g empty b A r i m = empty'
  sound g (expect k c o) b A r i m =
      either (Fits (Derives s rank limit P g b (expect k c o) i)) (eqb (kind s i) k) _ _ (λ x. expect' (eqb-true _ _ x)) (λ x. fits_unexpected s i (reached s m i 2) c o (Derives s rank limit P g b (expect k c o) i))
  sound g any b A r i m = either (Fits (Derives s rank limit P g b any i)) (eqb (kind s i) 59) _ _ (λ x. tt) (λ x. any' (eqb-false _ _ x))
  sound g (leaf tag) b A r i m = leaf'
  sound g weigh b A r i m = weigh'
  sound g coded b A r i m = coded'
  sound g (plus w) b A r i m = plus'
  sound g (exp l) b A r i m = fits_map _ _ (R.exps l i m) (λ j t v d. exp' d) (sound-exp l i m)
  sound g operand b A r i m = fits_map _ _ (R.exps (rank.right (kind s (i - 1))) i m) (λ j t v d. operand' d) (sound-exp _ i m)
  sound g stat b A r i m = fits_map _ _ (R.stats i m) (λ j t v d. stat' d) (sound-stat i m)
  sound g (a ⨾ c) b A r i m =
      fits_then (Derives s rank limit P g b a i) (Derives s rank limit P g b (a ⨾ c) i) (read s rank limit R g a A i m) (read s rank limit R g c A) (sound g a b A r i m)
      (λ j n t v d. fits_map _ _ (read s rank limit R g c A j n) (λ k u w d'. seq' d d') (sound g c b A r j n))
  sound g (on l ks a c) b A r i m =
      either (Fits (Derives s rank limit P g b (on l ks a c) i)) (must l && eqb (kind s i) 59) _ _ (λ x. tt)
      (λ x. either (Fits (Derives s rank limit P g b (on l ks a c) i)) (member (kind s (far l i)) ks) _ _
      (λ y. fits_map _ _ (read s rank limit R g a A i (reached s m i (reach l))) (λ j t v d. this' y d) (sound g a b A r i (reached s m i (reach l))))
      (λ y. fits_map _ _ (read s rank limit R g c A i (reached s m i (reach l))) (λ j t v d. that' y d) (sound g c b A r i (reached s m i (reach l)))))
  sound g (operator a c) b A r i m =
      either (Fits (Derives s rank limit P g b (operator a c) i)) (ltb limit (rank.left (kind s i))) _ _
      (λ y. fits_map _ _ (read s rank limit R g a A i (reached s m i 2)) (λ j t v d. above' (ltb-true _ _ y) d) (sound g a b A r i (reached s m i 2)))
      (λ y. fits_map _ _ (read s rank limit R g c A i (reached s m i 2)) (λ j t v d. below' (ltb-false _ _ y) d) (sound g c b A r i (reached s m i 2)))
  sound g (refuse c) b A r i m = fits_unexpected s i m c true (Derives s rank limit P g b (refuse c) i)
  sound g (node tag f l e) b A r i m =
      fits_wrap s tag l (start_of g f i) (Derives s rank limit P g b (node tag f l e) i) (read s rank limit R g e A i m) (fits_map _ _ (read s rank limit R g e A i m) (λ j t v d. node' d) (sound g e b A r i m))
  sound g (lead a c) b A r i m =
      fits_leads (Derives s rank limit P g b a i) (Derives s rank limit P g b (lead a c) i) (read s rank limit R g a A i m)
      (λ t q. loop s (suc (length s)) (read s rank limit R (hold i q t) c) q) (sound g a b A r i m)
      (λ j n t v d. fits_map _ _ (loop s (suc (length s)) (read s rank limit R (hold i j t) c) j n) (λ k u w d'. lead' d d')
      (sound_loop (hold i j t) c (λ A' r'. sound (hold i j t) c c A' r') (suc (length s)) j n))
  sound g (held x n) b A r i m = either (Fits (Derives s rank limit P g b (held x n) i)) (shaped x g.trees) _ _ (λ y. held' y) (λ y. tt)
  sound g (kept x n e) b A r i m =
      fits_keep x (misfit s g n) (Derives s rank limit P g b e i) (Derives s rank limit P g b (kept x n e) i) (read s rank limit R g e A i m) (λ j t v y d. kept' y d) (sound g e b A r i m)
  sound g (iter e) b A r i m =
      fits_map _ _ (loop s (suc (length s)) (read s rank limit R g e) i m) (λ j t v d. iter' d) (sound_loop g e (λ A' r'. sound g e e A' r') (suc (length s)) i m)
  sound g again b A r i m = fits_map _ _ (A i m) (λ j t v d. again' d) (r i m)

  pub sound_alone : (e : Term) → Sound (alone s rank limit R e) (Alone s rank limit P e)
  sound_alone e = sound_loop (hold 0 0 none) e (λ A r. sound (hold 0 0 none) e e A r) (suc (length s))
