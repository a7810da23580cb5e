-- What is derived is read. Assumes nothing.
use mathlib.Core.Path.{◌≡◌, refl, sym, ap, ◌∙◌, subst}
use mathlib.Core.List.{List}
use mathlib.Core.Bool.{Bool, true, false, ◌&&◌, ◌||◌, not}
use Prim.Native.Nat.{ℕ, zero, suc, ◌+◌, ◌≤◌, ◌<◌}
use native.Mathlib.Omega.{arith}
use lib.ListN.{length}
use lib.Dec.{eqb}
use borrow.Author.Tests.{lt-ltb, le-ltb, eq-eqb, ne_eqb}
use Rattle.stream.specs.Reader.{reached}
use Rattle.stream.specs.Words.{kind}
use Rattle.operators.specs.Ranks.{Ranks}
use Rattle.tree.specs.Forest.{Forest, none}
use Rattle.grammar.specs.Term.{Term, Look, ahead, next, check, second, far, must}
use Rattle.grammar.specs.Member.{member}
use Rattle.grammar.specs.Reading.{Held, hold, start_of}
use Rattle.grammar.specs.Reading.{Out, fine, Reader, Readers, add, then, leads, keep, misfit, wrap, loop, read, alone, reach}
use Rattle.grammar.proofs.Form.{consumes, guarded, wellmade}
use Rattle.grammar.proofs.Derives.{Phrase, Phrases, Derives, Alone}
use Rattle.grammar.proofs.Derives.{empty', expect', any', leaf', weigh', coded', plus', exp', operand', stat', seq', this', that', above', below', node', lead', held', kept', iter', again'}
use Rattle.grammar.proofs.Tests.{and_left, and_right, yes_case, no_case}
use Rattle.grammar.proofs.Forward.{Moves, Steps, moves, steps_alone}

abbrev pub Accepts : Out → ℕ → Forest → ℕ → Type 0
Accepts o j t v = (m : ℕ) × (o ≡ fine j m t v)

abbrev pub Complete : Reader → Phrase → Type 0
Complete R P = (i j v : ℕ) (t : Forest) → P i j t v → (m : ℕ) → Accepts (R i m) j t v

accepts : {o x : Out} {j v : ℕ} {t : Forest} → o ≡ x → Accepts x j t v → Accepts o j t v
accepts e a = (a.0, e ∙ a.1)

abbrev bit : Bool → ℕ
bit true = 1
bit false = 0

-- the fuel f is more than there can be turns from i on
abbrev Enough : List ℕ → Bool → ℕ → ℕ → Type 0
Enough s g i f = length s < i + bit g + f

enough_and : (s : List ℕ) (a c : Bool) (i f : ℕ) → Enough s (a && c) i f → Enough s a i f × Enough s c i f
enough_and s true true i f h = (h, h)
enough_and s true false i f h = (omega arith, h)
enough_and s false true i f h = (h, omega arith)
enough_and s false false i f h = (h, h)

enough_then : (s : List ℕ) (ga ca gc : Bool) (i j f : ℕ) → i ≤ j → (ca ≡ true → i < j) → Enough s (ga && (ca || gc)) i f → Enough s gc j f
enough_then s ga true true i j f l h e = omega (arith, h refl, (enough_and s ga true i f e).1)
enough_then s ga true false i j f l h e = omega (arith, h refl, (enough_and s ga true i f e).1)
enough_then s ga false gc i j f l h e = omega (arith, (enough_and s ga gc i f e).1)

-- a look that refuses the end of the stream doesn't stand there
open_end : (s : List ℕ) (l : Look) (ks : List ℕ) (ca cb r : Bool) (i : ℕ) → (not (must l) || elim (member 59 ks) [ true ↦ ca | false ↦ cb ]) ≡ true
    → member (kind s (far l i)) ks ≡ r → (elim r as (λ z. Bool) [ true ↦ ca | false ↦ cb ] ≡ true → kind s i ≡ 59 → ⊥) → (must l && eqb (kind s i) 59) ≡ false
open_end s ahead ks ca cb r i w y f = refl
open_end s check ks ca cb r i w y f = refl
open_end s second ks ca cb r i w y f = refl
open_end s next ks ca cb r i w y f = ne_eqb _ _ (λ h. f (subst (λ (z : Bool). elim z as (λ z. Bool) [ true ↦ ca | false ↦ cb ] ≡ true) (sym (same h) ∙ y) w) h)
  where
    same : kind s i ≡ 59 → member (kind s i) ks ≡ member 59 ks
    same h = ap (λ (k : ℕ). member k ks) h

module _ (s : List ℕ) (rank : Ranks) (limit : ℕ) (P : Phrases) (R : Readers)
    (steps-exp : (l : ℕ) → Steps s (P.exps l)) (steps-stat : Steps s P.stats)
    (complete-exp : (l : ℕ) → Complete (R.exps l) (P.exps l)) (complete-stat : Complete R.stats P.stats) where
  abbrev move : {h : Held} {b e : Term} {i j v : ℕ} {t : Forest} → wellmade b ≡ true → wellmade e ≡ true → Derives s rank limit P h b e i j t v → Moves s e i j
  move = moves s rank limit P steps-exp steps-stat

  pub complete : {h : Held} {b e : Term} {i j v : ℕ} {t : Forest} → wellmade b ≡ true → guarded b ≡ true → wellmade e ≡ true → Derives s rank limit P h b e i j t v
      → (f m : ℕ) → i ≤ length s → Enough s (guarded e) i f → Accepts (read s rank limit R h e (loop s f (read s rank limit R h b)) i m) j t v
  unfolding read
  complete wb gb we empty' f m l n = (m, refl)
  complete wb gb we (expect' h) f m l n = (_, yes_case _ _ _ (eq-eqb _ _ h))
  complete wb gb we (any' h) f m l n = (_, no_case _ _ _ (ne_eqb _ _ h))
  complete wb gb we leaf' f m l n = (m, refl)
  complete wb gb we weigh' f m l n = (m, refl)
  complete wb gb we coded' f m l n = (m, refl)
  complete wb gb we plus' f m l n = (m, refl)
  complete wb gb we (exp' d) f m l n = complete-exp _ _ _ _ _ d m
  complete wb gb we (operand' d) f m l n = complete-exp _ _ _ _ _ d m
  complete wb gb we (stat' d) f m l n = complete-stat _ _ _ _ d m
  complete {h} {b} wb gb we (seq' {e = a} {f = c} {i = i} {j = j} {v = v} {t = t} d d') f m l n =
      let wa = and_left (wellmade a) (wellmade c) we in
      let wc = and_right (wellmade a) (wellmade c) we in
      let g = move wb wa d in
      let x = complete wb gb wa d f m l (enough_and s (guarded a) _ i f n).0 in
      let y = complete wb gb wc d' f x.0 (g.within l) (enough_then s (guarded a) (consumes a) (guarded c) i j f g.along g.takes n) in
      (y.0, ap (λ (o : Out). then o (read s rank limit R h c (loop s f (read s rank limit R h b)))) x.1 ∙ ap (add t v) y.1)
  complete wb gb we (this' {e = a} {f = c} {l = k} {ks = ks} {i = i} y d) f m l n =
      let w = and_left (wellmade a && wellmade c) _ we in
      let wa = and_left (wellmade a) (wellmade c) w in
      let g = move wb wa d in
      accepts (no_case _ _ _ (open_end s k ks (consumes a) (consumes c) true i (and_right (wellmade a && wellmade c) _ we) y (λ z. g.real (g.takes z))))
      (accepts (yes_case _ _ _ y) (complete wb gb wa d f (reached s m i (reach k)) l (enough_and s (guarded a) (guarded c) i f n).0))
  complete wb gb we (that' {e = a} {f = c} {l = k} {ks = ks} {i = i} y d) f m l n =
      let w = and_left (wellmade a && wellmade c) _ we in
      let wc = and_right (wellmade a) (wellmade c) w in
      let g = move wb wc d in
      accepts (no_case _ _ _ (open_end s k ks (consumes a) (consumes c) false i (and_right (wellmade a && wellmade c) _ we) y (λ z. g.real (g.takes z))))
      (accepts (no_case _ _ _ y) (complete wb gb wc d f (reached s m i (reach k)) l (enough_and s (guarded a) (guarded c) i f n).1))
  complete wb gb we (above' {e = a} {f = c} {i = i} y d) f m l n =
      accepts (yes_case _ _ _ (lt-ltb _ _ y)) (complete wb gb (and_left (wellmade a) (wellmade c) we) d f (reached s m i 2) l (enough_and s (guarded a) (guarded c) i f n).0)
  complete wb gb we (below' {e = a} {f = c} {i = i} y d) f m l n =
      accepts (no_case _ _ _ (le-ltb _ _ y)) (complete wb gb (and_right (wellmade a) (wellmade c) we) d f (reached s m i 2) l (enough_and s (guarded a) (guarded c) i f n).1)
  complete {h} wb gb we (node' {f = g} {l = k} {tag = tag} {i = i} d) f m l n =
      let x = complete wb gb we d f m l n in
      (x.0, ap (wrap s tag k (start_of h g i)) x.1)
  complete {h} {b} wb gb we (lead' {e = a} {f = c} {i = i} {j = j} {v = v} {t = t} d d') f m l n =
      let wa = and_left (wellmade a) (wellmade c && guarded c) we in
      let w = and_right (wellmade a) (wellmade c && guarded c) we in
      let wc = and_left (wellmade c) (guarded c) w in
      let gc = and_right (wellmade c) (guarded c) w in
      let g = move wb wa d in
      let x = complete wb gb wa d f m l n in
      let y = complete wc gc wc d' (length s) x.0 (g.within l) (rw gc (omega arith)) in
      (y.0, ap (λ (o : Out). leads o (λ t q. loop s (suc (length s)) (read s rank limit R (hold i q t) c) q)) x.1 ∙ ap (add none v) y.1)
  complete wb gb we (held' y) f m l n = (m, yes_case _ _ _ y)
  complete {h} wb gb we (kept' {x = x} {n = num} y d) f m l n =
      let a = complete wb gb we d f m l n in
      (a.0, ap (keep x (misfit s h num)) a.1 ∙ yes_case _ _ _ y)
  complete wb gb we (iter' {e = a} {i = i} d) f m l n =
      let w = and_left (wellmade a) (guarded a) we in
      let g = and_right (wellmade a) (guarded a) we in
      complete w g w d (length s) m l (rw g (omega arith))
  complete wb gb we (again' d) zero m l n = absurd (omega arith)
  complete wb gb we (again' {i = i} d) (suc f) m l n = complete wb gb wb d f m l (rw gb (omega arith))

  pub complete_whole : (e : Term) → wellmade e ≡ true → guarded e ≡ true → (i j v : ℕ) (t : Forest) → Alone s rank limit P e i j t v → i ≤ length s → (m : ℕ) → Accepts (alone s rank limit R e i m) j t v
  complete_whole e w g i j v t d l m = complete w g w d (length s) m l (rw g (omega arith))

  pub complete_alone : (e : Term) → wellmade e ≡ true → guarded e ≡ true → consumes e ≡ true → Complete (alone s rank limit R e) (Alone s rank limit P e)
  complete_alone e w g c i j v t d m =
      let h = steps_alone s rank limit P steps-exp steps-stat e w c i j v t d in
      complete_whole e w g i j v t d (omega (arith, h.rises, h.within)) m
