-- A term that asks for nothing around it reads the same wherever it stands: whatever is held, whatever `again` stands for, whatever
-- the limit is. Assumes nothing.
use mathlib.Core.Path.{◌≡◌, refl, ap, ◌∙◌}
use mathlib.Core.List.{List}
use mathlib.Core.Bool.{Bool, true, false, ◌&&◌}
use Prim.Native.Nat.{ℕ, zero, suc}
use lib.ListN.{length}
use lib.Dec.{eqb}
use Rattle.stream.specs.Words.{kind}
use Rattle.stream.specs.Reader.{reached}
use Rattle.operators.specs.Ranks.{Ranks}
use Rattle.tree.specs.Forest.{Forest, none}
use Rattle.grammar.specs.Member.{member}
use Rattle.grammar.specs.Term.{Term, far, must, here, back}
use Rattle.grammar.specs.Term.{empty, expect, any, leaf, weigh, coded, plus, exp, operand, stat, ◌⨾◌, on, operator, refuse, node, lead, held, kept, iter, again}
use Rattle.grammar.specs.Reading.{Out, fine, fail, Reader, Readers, Held, hold, add, then, leads, keep, misfit, wrap, loop, read, reach}
use Rattle.grammar.proofs.Tests.{wrong, and_left, and_right}
use Rattle.grammar.proofs.Unroll.{pick_eq}

-- what it may ask for: what `again` stands for, where what is held ends, and what is held
abbrev pub stable : (loops ends holds : Bool) → Term → Bool
stable a k h empty = true
stable a k h (expect x c o) = true
stable a k h any = true
stable a k h (leaf t) = true
stable a k h weigh = true
stable a k h coded = true
stable a k h (plus w) = true
stable a k h (exp l) = true
stable a k h operand = true
stable a k h stat = true
stable a k h (x ⨾ y) = stable a k h x && stable a k h y
stable a k h (on l ks x y) = stable a k h x && stable a k h y
stable a k h (operator x y) = false
stable a k h (refuse c) = true
stable a k h (node t here l x) = stable a k h x
stable a k h (node t back l x) = h && stable a k h x
stable a k h (lead x y) = stable a k h x && stable true true true y
stable a k h (held x n) = k && h
stable a k h (kept x n y) = k && stable a k h y
stable a k h (iter x) = stable true k h x
stable a k h again = a

then_same : {a b : Out} {f g : Reader} → a ≡ b → ((q n : ℕ) → f q n ≡ g q n) → then a f ≡ then b g
then_same {a} {b} {f} {g} e h = ap (λ (o : Out). then o f) e ∙ go b
  where
    go : (o : Out) → then o f ≡ then o g
    go (fine q m t v) = ap (add t v) (h q m)
    go (fail x) = refl

leads_same : {a b : Out} {f g : Forest → Reader} → a ≡ b → ((t : Forest) (q n : ℕ) → f t q n ≡ g t q n) → leads a f ≡ leads b g
leads_same {a} {b} {f} {g} e h = ap (λ (o : Out). leads o f) e ∙ go b
  where
    go : (o : Out) → leads o f ≡ leads o g
    go (fine q m t v) = ap (add none v) (h t q m)
    go (fail x) = refl

module _ (s : List ℕ) (rank : Ranks) (limit limit' : ℕ) (R : Readers) where
  abbrev Same : Reader → Reader → Type 0
  Same A B = (p m : ℕ) → A p m ≡ B p m

  loop_same : (f g : Reader → Reader) → ((A B : Reader) → Same A B → Same (f A) (g B)) → (n : ℕ) → Same (loop s n f) (loop s n g)
  loop_same f g h zero p m = refl
  loop_same f g h (suc n) p m = h (loop s n f) (loop s n g) (loop_same f g h n) p m

  pub settle : (a k h : Bool) (H H' : Held) → (k ≡ true → H.end ≡ H'.end) → (h ≡ true → H ≡ H') → (e : Term) → stable a k h e ≡ true → (A B : Reader) → (a ≡ true → Same A B)
      → Same (read s rank limit R H e A) (read s rank limit' R H' e B)
  unfolding read
  settle a k h H H' ke he empty x A B r p m = refl
  settle a k h H H' ke he (expect y c o) x A B r p m = refl
  settle a k h H H' ke he any x A B r p m = refl
  settle a k h H H' ke he (leaf t) x A B r p m = refl
  settle a k h H H' ke he weigh x A B r p m = refl
  settle a k h H H' ke he coded x A B r p m = refl
  settle a k h H H' ke he (plus w) x A B r p m = refl
  settle a k h H H' ke he (exp l) x A B r p m = refl
  settle a k h H H' ke he operand x A B r p m = refl
  settle a k h H H' ke he stat x A B r p m = refl
  settle a k h H H' ke he (y ⨾ z) x A B r p m =
      then_same (settle a k h H H' ke he y (and_left (stable a k h y) (stable a k h z) x) A B r p m) (λ q n. settle a k h H H' ke he z (and_right (stable a k h y) (stable a k h z) x) A B r q n)
  settle a k h H H' ke he (on l ks y z) x A B r p m =
      pick_eq (must l && eqb (kind s p) 59) _ _ _ _ refl
      (pick_eq (member (kind s (far l p)) ks) _ _ _ _
      (settle a k h H H' ke he y (and_left (stable a k h y) (stable a k h z) x) A B r p (reached s m p (reach l))) (settle a k h H H' ke he z (and_right (stable a k h y) (stable a k h z) x) A B r p (reached s m p (reach l))))
  settle a k h H H' ke he (operator y z) x A B r p m = wrong x
  settle a k h H H' ke he (refuse c) x A B r p m = refl
  settle a k h H H' ke he (node t here l y) x A B r p m = ap (wrap s t l p) (settle a k h H H' ke he y x A B r p m)
  settle a k h H H' ke he (node t back l y) x A B r p m =
      ap (wrap s t l H.start) (settle a k h H H' ke he y (and_right h (stable a k h y) x) A B r p m)
      ∙ ap (λ (z : Held). wrap s t l z.start (read s rank limit' R H' y B p m)) (he (and_left h (stable a k h y) x))
  settle a k h H H' ke he (lead y z) x A B r p m =
      leads_same (settle a k h H H' ke he y (and_left (stable a k h y) (stable true true true z) x) A B r p m)
      (λ t q n. loop_same (read s rank limit R (hold p q t) z) (read s rank limit' R (hold p q t) z)
      (λ A' B' r'. settle true true true (hold p q t) (hold p q t) (λ e. refl) (λ e. refl) z (and_right (stable a k h y) (stable true true true z) x) A' B' (λ e. r')) (suc (length s)) q n)
  settle a k h H H' ke he (held y n) x A B r p m = ap (λ (z : Held). keep y (misfit s z n) (fine p m z.trees 0)) (he (and_right k h x))
  settle a k h H H' ke he (kept y n z) x A B r p m =
      ap (keep y (misfit s H n)) (settle a k h H H' ke he z (and_right k (stable a k h z) x) A B r p m)
      ∙ ap (λ (j : ℕ). keep y (misfit s (hold 0 j none) n) (read s rank limit' R H' z B p m)) (ke (and_left k (stable a k h z) x))
  settle a k h H H' ke he (iter y) x A B r p m =
      loop_same (read s rank limit R H y) (read s rank limit' R H' y) (λ A' B' r'. settle true k h H H' ke he y x A' B' (λ e. r')) (suc (length s)) p m
  settle a k h H H' ke he again x A B r p m = r x p m
