-- Fuel makes no difference: a repetition reads as its body, in which `again` reads as the repetition. Assumes nothing.
use mathlib.Core.Path.{◌≡◌, refl, ap, ◌∙◌}
use mathlib.Core.List.{List}
use mathlib.Core.Bool.{Bool, true, false, ◌&&◌, ◌||◌}
use Prim.Native.Nat.{ℕ, zero, suc, ◌+◌, ◌≤◌, ◌<◌}
use native.Mathlib.Omega.{arith}
use lib.ListN.{length}
use lib.Dec.{eqb, ltb}
use Rattle.stream.specs.Reader.{reached}
use Rattle.stream.specs.Words.{kind}
use Rattle.operators.specs.Ranks.{Ranks}
use Rattle.grammar.specs.Term.{Term, far, must}
use Rattle.grammar.specs.Member.{member}
use Rattle.grammar.specs.Term.{empty, expect, any, leaf, weigh, coded, plus, exp, operand, stat, ◌⨾◌, on, operator, refuse, node, lead, held, kept, iter, again}
use Rattle.grammar.specs.Reading.{Held, hold, start_of}
use Rattle.grammar.specs.Reading.{Out, fine, fail, Reader, Readers, add, then, leads, keep, misfit, wrap, loop, read, reach}
use Rattle.grammar.proofs.Form.{consumes, guarded, wellmade}
use Rattle.grammar.proofs.Derives.{Phrases, Derives}
use Rattle.grammar.proofs.Sound.{Fits, Sound, fits_map, sound, sound_loop}
use Rattle.grammar.proofs.Tests.{and_left, and_right}
use Rattle.grammar.proofs.Forward.{Moves, Steps, moves}

abbrev pub bit : Bool → ℕ
bit true = 1
bit false = 0

then_eq : (P : ℕ → Type 0) (o : Out) (f g : Reader) → Fits (λ j t v. P j) o → ((j n : ℕ) → P j → f j n ≡ g j n) → then o f ≡ then o g
then_eq P (fine j n t v) f g h k = ap (add t v) (k j n h)
then_eq P (fail e) f g h k = refl

pub pick_eq : (c : Bool) (x y z w : Out) → x ≡ z → y ≡ w → ◌≡◌ {A = Out} (elim c [ true ↦ x | false ↦ y ]) (elim c [ true ↦ z | false ↦ w ])
pick_eq true x y z w a b = a
pick_eq false x y z w a b = b

-- from p on, past a token if the term takes one first
abbrev Agree : List ℕ → Bool → ℕ → Reader → Reader → Type 0
Agree s c p A B = (q n : ℕ) → p + bit c ≤ q → q ≤ length s → A q n ≡ B q n

agree_left : (s : List ℕ) (a c : Bool) (p : ℕ) (A B : Reader) → Agree s (a && c) p A B → Agree s a p A B
agree_left s true true p A B h q n l b = h q n l b
agree_left s true false p A B h q n l b = h q n (omega arith) b
agree_left s false c p A B h q n l b = h q n l b

agree_right : (s : List ℕ) (a c : Bool) (p : ℕ) (A B : Reader) → Agree s (a && c) p A B → Agree s c p A B
agree_right s true c p A B h q n l b = h q n l b
agree_right s false true p A B h q n l b = h q n (omega arith) b
agree_right s false false p A B h q n l b = h q n l b

agree_then : (s : List ℕ) (ga ca gc : Bool) (p j : ℕ) (A B : Reader) → p ≤ j → (ca ≡ true → p < j) → Agree s (ga && (ca || gc)) p A B → Agree s gc j A B
agree_then s true true gc p j A B l t h q n m b = h q n (omega (arith, t refl)) b
agree_then s false true gc p j A B l t h q n m b = h q n (omega arith) b
agree_then s true false gc p j A B l t h q n m b = h q n (omega arith) b
agree_then s false false gc p j A B l t h q n m b = h q n (omega arith) b

module _ (s : List ℕ) (rank : Ranks) (limit : ℕ) (P : Phrases) (R : Readers)
    (sound-exp : (l : ℕ) → Sound (R.exps l) (P.exps l)) (sound-stat : Sound R.stats P.stats)
    (steps-exp : (l : ℕ) → Steps s (P.exps l)) (steps-stat : Steps s P.stats) where
  reads_on : (g : Held) (e b : Term) (A : Reader) → wellmade b ≡ true → wellmade e ≡ true → Sound A (Derives s rank limit P g b b) → (p m : ℕ) → Fits (λ j t v. Moves s e p j) (read s rank limit R g e A p m)
  reads_on g e b A wb we r p m =
      fits_map _ _ (read s rank limit R g e A p m) (λ j t v d. moves s rank limit P steps-exp steps-stat wb we d) (sound s rank limit P R sound-exp sound-stat g e b A r p m)

  same_again : (g : Held) (e b : Term) (A B : Reader) → wellmade b ≡ true → wellmade e ≡ true → Sound A (Derives s rank limit P g b b) → (p m : ℕ) → p ≤ length s → Agree s (guarded e) p A B
      → read s rank limit R g e A p m ≡ read s rank limit R g e B p m
  unfolding read
  same_again g empty b A B wb we r p m l h = refl
  same_again g (expect k c o) b A B wb we r p m l h = refl
  same_again g any b A B wb we r p m l h = refl
  same_again g (leaf t) b A B wb we r p m l h = refl
  same_again g weigh b A B wb we r p m l h = refl
  same_again g coded b A B wb we r p m l h = refl
  same_again g (plus w) b A B wb we r p m l h = refl
  same_again g (exp k) b A B wb we r p m l h = refl
  same_again g operand b A B wb we r p m l h = refl
  same_again g stat b A B wb we r p m l h = refl
  same_again g (a ⨾ c) b A B wb we r p m l h =
      let wa = and_left (wellmade a) (wellmade c) we in
      let wc = and_right (wellmade a) (wellmade c) we in
      then_eq (Moves s a p) (read s rank limit R g a A p m) (read s rank limit R g c A) (read s rank limit R g c B) (reads_on g a b A wb wa r p m)
      (λ j n v. same_again g c b A B wb wc r j n (v.within l) (agree_then s (guarded a) (consumes a) (guarded c) p j A B v.along v.takes h))
      ∙ ap (λ (o : Out). then o (read s rank limit R g c B)) (same_again g a b A B wb wa r p m l (agree_left s (guarded a) _ p A B h))
  same_again g (on k ks a c) b A B wb we r p m l h =
      let w = and_left (wellmade a && wellmade c) _ we in
      pick_eq (must k && eqb (kind s p) 59) _ _ _ _ refl
      (pick_eq (member (kind s (far k p)) ks) _ _ _ _
      (same_again g a b A B wb (and_left (wellmade a) (wellmade c) w) r p (reached s m p (reach k)) l (agree_left s (guarded a) (guarded c) p A B h))
      (same_again g c b A B wb (and_right (wellmade a) (wellmade c) w) r p (reached s m p (reach k)) l (agree_right s (guarded a) (guarded c) p A B h)))
  same_again g (operator a c) b A B wb we r p m l h =
      pick_eq (ltb limit (rank.left (kind s p))) _ _ _ _
      (same_again g a b A B wb (and_left (wellmade a) (wellmade c) we) r p (reached s m p 2) l (agree_left s (guarded a) (guarded c) p A B h))
      (same_again g c b A B wb (and_right (wellmade a) (wellmade c) we) r p (reached s m p 2) l (agree_right s (guarded a) (guarded c) p A B h))
  same_again g (refuse c) b A B wb we r p m l h = refl
  same_again g (node tag f k e) b A B wb we r p m l h = ap (wrap s tag k (start_of g f p)) (same_again g e b A B wb we r p m l h)
  same_again g (lead a c) b A B wb we r p m l h =
      ap (λ (o : Out). leads o (λ t q. loop s (suc (length s)) (read s rank limit R (hold p q t) c) q)) (same_again g a b A B wb (and_left (wellmade a) (wellmade c && guarded c) we) r p m l h)
  same_again g (held x n) b A B wb we r p m l h = refl
  same_again g (kept x n e) b A B wb we r p m l h = ap (keep x (misfit s g n)) (same_again g e b A B wb we r p m l h)
  same_again g (iter e) b A B wb we r p m l h = refl
  same_again g again b A B wb we r p m l h = h p m (omega arith) l

  module _ (g : Held) (e : Term) (we : wellmade e ≡ true) (ge : guarded e ≡ true) where
    loop_sound : (f : ℕ) → Sound (loop s f (read s rank limit R g e)) (Derives s rank limit P g e e)
    loop_sound = sound_loop s rank limit P R sound-exp sound-stat g e (λ A r. sound s rank limit P R sound-exp sound-stat g e e A r)

    later : (p : ℕ) (A B : Reader) → ((q n : ℕ) → p < q → q ≤ length s → A q n ≡ B q n) → Agree s (guarded e) p A B
    later p A B h = rw ge (λ q n l b. h q n (omega arith) b)

    pub fuels : (f f' p m : ℕ) → p ≤ length s → length s < p + f → length s < p + f' → loop s f (read s rank limit R g e) p m ≡ loop s f' (read s rank limit R g e) p m
    fuels zero f' p m b x x' = absurd (omega arith)
    fuels (suc f) zero p m b x x' = absurd (omega arith)
    fuels (suc f) (suc f') p m b x x' =
        same_again g e e (loop s f (read s rank limit R g e)) (loop s f' (read s rank limit R g e)) we we (loop_sound f) p m b
        (later p (loop s f (read s rank limit R g e)) (loop s f' (read s rank limit R g e)) (λ q n l c. fuels f f' q n c (omega arith) (omega arith)))

    -- the repetition is its body, in which `again` is the repetition
    pub unroll : (A B : Reader) (p m : ℕ) → p ≤ length s → read s rank limit R g (iter e) A p m ≡ read s rank limit R g e (read s rank limit R g (iter e) B) p m
    unfolding read
    unroll A B p m b =
        same_again g e e (loop s (length s) (read s rank limit R g e)) (loop s (suc (length s)) (read s rank limit R g e)) we we (loop_sound (length s)) p m b
        (later p (loop s (length s) (read s rank limit R g e)) (loop s (suc (length s)) (read s rank limit R g e)) (λ q n l c. fuels (length s) (suc (length s)) q n c (omega arith) (omega arith)))
