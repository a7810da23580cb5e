-- Two rankings of the same operators: both accept, or both refuse alike, unless one of them ends in a refusal 5. Assumes nothing.
use mathlib.Core.Path.{◌≡◌, refl, sym, ap, ◌∙◌, subst}
use mathlib.Core.List.{List}
use mathlib.Core.Bool.{Bool, true, false}
use mathlib.Core.Logic.{◌⊎◌, inl, inr}
use Prim.Native.Nat.{ℕ, zero, suc, ◌+◌, ◌-◌, ◌≤◌, ◌<◌}
use native.Mathlib.Omega.{arith}
use lib.ListN.{length}
use lib.Dec.{eqb, ltb}
use borrow.Author.Tests.{ltb-true, lt-ltb, le-ltb}
use Rattle.stream.specs.Reader.{reached}
use Rattle.stream.specs.Words.{kind}
use Rattle.stream.specs.declared.reader.Refusal.{Refusal}
use Rattle.stream.proofs.Reading.{reached_twice}
use Rattle.operators.specs.Ranks.{Ranks}
use Rattle.tree.specs.Forest.{Forest, none}
use Rattle.grammar.specs.Term.{Term, next, Line, unlined, here, Shape}
use Rattle.grammar.specs.Member.{member}
use Rattle.grammar.specs.Term.{any, plus, exp, ◌⨾◌, on, node}
use Rattle.grammar.specs.Reading.{hold, shaped}
use Rattle.grammar.specs.Reading.{Out, fine, fail, Reader, Readers, add, then, leads, keep, wrap, loop, read}
use Rattle.grammar.specs.Productions.{simple, head, tail, tails, expression, statement, block}
use Rattle.grammar.specs.Levels.{readers, finish, chunk}
use Rattle.grammar.specs.Compare.{Like, nones, trees, expressions}
use Rattle.grammar.specs.Compare.{Alike, fines, fails, deep_left, deep_right}
use Rattle.grammar.proofs.Form.{wellmade, guarded, consumes}
use Rattle.grammar.proofs.Derives.{Derives}
use Rattle.grammar.proofs.Derives.{phrases}
use Rattle.grammar.proofs.Sound.{fits_map, sound, sound_loop}
use Rattle.grammar.proofs.Tests.{wrong, and_left, and_right}
use Rattle.grammar.proofs.Forward.{Step, stepped, moves}
use Rattle.grammar.proofs.Kin.{Kin, kindred, kindred_alone, either2, like_same, like_join, like_sym, like_trans, like_shaped}
use Rattle.grammar.proofs.Made.{expression_made, head_made, tail_made, statement_plain, simple_plain, simple_closed, block_plain}
use Rattle.grammar.proofs.Levels.{forward, sounds}
use Rattle.grammar.proofs.Bare.{Bare, at, stop, bare, bind, bind_assoc, bind_cong, bare_add, bare_then, bare_wrap, Lower, alike, deep, lower_eq, lower_trans, lower_bind, Ahead, ahead_fits, bind_lower, bind_eq, take, take_ahead}
use Rattle.grammar.proofs.Bare.{turns, turn_above, turn_below, turn_mark}
use Rattle.grammar.proofs.Unroll.{bit, fuels}

-- the first is a refusal 5, or they are alike
pub data Under : Out → Out → Type 0 where
  under : {p m v : ℕ} {t u : Forest} → Like t u → Under (fine p m t v) (fine p m u v)
  equal : {e : Refusal} → Under (fail e) (fail e)
  five : {e : Refusal} {o : Out} → e.number ≡ 5 → Under (fail e) o

under_add : {t u : Forest} → Like t u → (v : ℕ) (a b : Out) → Under a b → Under (add t v a) (add u v b)
under_add x v a b (under y) = under (like_join x y)
under_add x v a b equal = equal
under_add x v a b (five y) = five y

under_then : (a b : Out) (f g : Reader) → Under a b → ((q m : ℕ) → Under (f q m) (g q m)) → Under (then a f) (then b g)
under_then a b f g (under {p = q} {m = m} {v = v} x) h = under_add x v (f q m) (g q m) (h q m)
under_then a b f g equal h = equal
under_then a b f g (five x) h = five x

under_leads : (a b : Out) (f g : Forest → Reader) → Under a b → ((t u : Forest) (q m : ℕ) → Like t u → Under (f t q m) (g u q m)) → Under (leads a f) (leads b g)
under_leads a b f g (under {p = q} {m = m} {v = v} {t = t} {u = u} x) h = under_add nones v (f t q m) (g u q m) (h t u q m x)
under_leads a b f g equal h = equal
under_leads a b f g (five x) h = five x

under_keep : (x : Shape) (e : Refusal) (a b : Out) → Under a b → Under (keep x e a) (keep x e b)
under_keep x e a b (under {p = p} {m = m} {v = v} {t = t} {u = u} y) = either2 Under (shaped x t) (shaped x u) (fine p m t v) (fail e) (fine p m u v) (fail e) (like_shaped x y) (under y) equal
under_keep x e a b equal = equal
under_keep x e a b (five y) = five y

under_wrap : (s : List ℕ) (tag : ℕ) (l : Line) (i : ℕ) (a b : Out) → Under a b → Under (wrap s tag l i a) (wrap s tag l i b)
under_wrap s tag l i a b (under x) = under (trees x nones)
under_wrap s tag l i a b equal = equal
under_wrap s tag l i a b (five x) = five x

under_same : (o : Out) → Under o o
under_same (fine p m t v) = under (like_same t)
under_same (fail e) = equal

under_kin : Kin Under Like
under_kin = record { same = under_same; sames = like_same; fines = λ p m v t u h. under h; thens = under_then; leadss = under_leads; keeps = under_keep; wraps = under_wrap }

lower_of : {a b : Out} → Under a b → Lower (bare a) (bare b)
lower_of (under x) = alike
lower_of equal = alike
lower_of (five h) = deep h

abbrev Five : Bare → Type 0
Five (at p m) = ⊥
Five (stop e) = e.number ≡ 5

lower_cases : {a b : Bare} → Lower a b → (a ≡ b) ⊎ Five a
lower_cases alike = inl refl
lower_cases (deep h) = inr h

-- expressions with the same end are alike
wrap_fine : (s : List ℕ) (i q m : ℕ) (t : Forest) (v q' m' : ℕ) (t' : Forest) (v' : ℕ) → (at q m ≡ at q' m') ⊎ Five (at q m) → Under (wrap s 17 unlined i (fine q m t v)) (wrap s 17 unlined i (fine q' m' t' v'))
wrap_fine s i q m t v q' m' t' v' (inl e) =
    let a : q ≡ q' = cc in
    let b : m ≡ m' = cc in
    subst (λ (z : ℕ). Under (wrap s 17 unlined i (fine q m t v)) (wrap s 17 unlined i (fine z m' t' v'))) a
    (subst (λ (z : ℕ). Under (wrap s 17 unlined i (fine q m t v)) (wrap s 17 unlined i (fine q z t' v'))) b (under (expressions refl nones)))
wrap_fine s i q m t v q' m' t' v' (inr e) = absurd e

wrap_under : (s : List ℕ) (i : ℕ) (a b : Out) → (bare a ≡ bare b) ⊎ Five (bare a) → Under (wrap s 17 unlined i a) (wrap s 17 unlined i b)
wrap_under s i (fine q m t v) (fine q' m' t' v') h = wrap_fine s i q m t v q' m' t' v' h
wrap_under s i (fine q m t v) (fail e) (inl h) = absurd (let z : ◌≡◌ {A = ℕ} 0 1 = cc in omega arith)
wrap_under s i (fine q m t v) (fail e) (inr h) = absurd h
wrap_under s i (fail e) (fine q m t v) (inl h) = absurd (let z : ◌≡◌ {A = ℕ} 0 1 = cc in omega arith)
wrap_under s i (fail e) (fine q m t v) (inr h) = five h
wrap_under s i (fail e) (fail e') (inl h) = let z : e ≡ e' = cc in subst (λ (x : Refusal). Under (fail e) (fail x)) z equal
wrap_under s i (fail e) (fail e') (inr h) = five h

-- all operators alike, taken one by one
abbrev pub flat : (ℕ → Bool) → Ranks
flat ops = record { left = λ k. bit (ops k); right = λ k. 1 }

module _ (s : List ℕ) where
  ahead_exp : (rank : Ranks) (g l p m : ℕ) → Ahead s p (bare ((readers s rank g).exps l p m))
  ahead_exp rank g l p m = ahead_fits s p ((readers s rank g).exps l p m) (fits_map _ _ ((readers s rank g).exps l p m) (λ j t v d. (forward s rank g).0 l p j v t d) ((sounds s rank g).0 l p m))

  abbrev heads : Ranks → ℕ → ℕ → Reader
  heads rank l g = read s rank l (readers s rank g) (hold 0 0 none) head (loop s (length s) (read s rank l (readers s rank g) (hold 0 0 none) expression))

  head_step : (rank : Ranks) (g l p j v : ℕ) (t : Forest) → Derives s rank l (phrases s rank g) (hold 0 0 none) expression head p j t v → Step s p j
  head_step rank g l p j v t d =
      let f = forward s rank g in
      let e : wellmade expression ≡ true = and_left (wellmade expression) _ (and_left _ (consumes expression) expression_made) in
      stepped s head p j (and_right (wellmade head) (consumes head) head_made) (moves s rank l (phrases s rank g) f.0 f.1 e (and_left (wellmade head) (consumes head) head_made) d)

  head_ahead : (rank : Ranks) (g l p m : ℕ) → Ahead s p (bare (heads rank l g p m))
  head_ahead rank g l p m =
      let h = sounds s rank g in
      ahead_fits s p (heads rank l g p m) (fits_map _ _ (heads rank l g p m) (λ j t v d. head_step rank g l p j v t d)
      (sound s rank l (phrases s rank g) (readers s rank g) h.0 h.1 (hold 0 0 none) head expression (loop s (length s) (read s rank l (readers s rank g) (hold 0 0 none) expression))
      (sound_loop s rank l (phrases s rank g) (readers s rank g) h.0 h.1 (hold 0 0 none) expression
      (λ A r. sound s rank l (phrases s rank g) (readers s rank g) h.0 h.1 (hold 0 0 none) expression expression A r) (length s)) p m))

  abbrev tailed : Ranks → ℕ → ℕ → Reader
  tailed rank l g = turns s rank l (readers s rank g) (suc (length s))

  exp_wraps : (rank : Ranks) (g l p m : ℕ) → (readers s rank (suc g)).exps l p m ≡ wrap s 17 unlined p (then (heads rank l g p m) (tailed rank l g))
  unfolding read expression tails
  exp_wraps rank g l p m = refl

  exp_is : (rank : Ranks) (g l p m : ℕ) → bare ((readers s rank (suc g)).exps l p m) ≡ bind (bare (heads rank l g p m)) (λ q n. bare (tailed rank l g q n))
  exp_is rank g l p m = ap bare (exp_wraps rank g l p m) ∙ bare_wrap s 17 unlined p (then (heads rank l g p m) (tailed rank l g)) ∙ bare_then (heads rank l g p m) (tailed rank l g)

  unary_is : (rank : Ranks) (l : ℕ) (R : Readers) (A : Reader) (w p m : ℕ)
      → bare (read s rank l R (hold 0 0 none) (node 18 here unlined (any ⨾ plus w ⨾ exp 12)) A p m) ≡ bind (bare (take s p m)) (λ q n. bare (R.exps 12 q n))
  unfolding read
  unary_is rank l R A w p m =
      bare_wrap s 18 unlined p (then (take s p m) (λ q n. add none w (R.exps 12 q n))) ∙ bare_then (take s p m) (λ q n. add none w (R.exps 12 q n))
      ∙ bind_cong (bare (take s p m)) (λ q n. bare (add none w (R.exps 12 q n))) (λ q n. bare (R.exps 12 q n)) (λ q n. bare_add none w (R.exps 12 q n))

flat_above : (c : Bool) → c ≡ true → ltb 0 (bit c) ≡ true
flat_above true h = refl
flat_above false h = wrong h

flat_below : (c : Bool) → c ≡ false → ltb 0 (bit c) ≡ false
flat_below true h = wrong (sym h)
flat_below false h = refl

flat_limit : (c : Bool) (l : ℕ) → 1 ≤ l → ltb l (bit c) ≡ false
flat_limit true l h = le-ltb _ _ h
flat_limit false l h = le-ltb l 0 (omega arith)

module _ (s : List ℕ) (ops : ℕ → Bool) (rank : Ranks) (same-ops : (k : ℕ) → ltb 0 (rank.left k) ≡ ops k) where
  is_op : (l k : ℕ) → ltb l (rank.left k) ≡ true → ops k ≡ true
  is_op l k h = sym (same-ops k) ∙ lt-ltb 0 (rank.left k) (omega (arith, ltb-true l (rank.left k) h))

  -- what is left of a chain, read flat
  abbrev Rest : ℕ → ℕ → ℕ → Bare
  Rest M p m = bare (tailed s (flat ops) 0 M p m)

  rest_mark : (M p m : ℕ) → Rest M p (reached s m p 2) ≡ Rest M p m
  rest_mark M p m = turn_mark s (flat ops) 0 (readers s (flat ops) M) (length s) p m

  rest_fuel : (M q n : ℕ) → 0 < q → q ≤ length s → Rest M q n ≡ bare (turns s (flat ops) 0 (readers s (flat ops) M) (length s) q n)
  rest_fuel M q n l b =
      let f = forward s (flat ops) M in
      let h = sounds s (flat ops) M in
      ap bare (fuels s (flat ops) 0 (phrases s (flat ops) M) (readers s (flat ops) M) h.0 h.1 f.0 f.1 (hold 0 0 none) tail
      (and_left (wellmade tail) (guarded tail) tail_made) (and_right (wellmade tail) (guarded tail) tail_made) (suc (length s)) (length s) q n b (omega arith) (omega arith))

  -- an expression, and what is left of the chain after it, are one operand, and what is left of the chain after it
  abbrev Chains : ℕ → ℕ → ℕ → Type 0
  Chains g M M' = (l l' p m : ℕ) → 1 ≤ l' → Lower (bind (bare ((readers s rank g).exps l p m)) (Rest M)) (bind (bare ((readers s (flat ops) M').exps l' p m)) (Rest M))

  module _ (g M : ℕ) (chains : Chains g M M) where
    abbrev Right : ℕ → ℕ → Bare
    Right q n = bare ((readers s rank g).exps (rank.right (kind s (q - 1))) q n)

    tails_step : (l f p m : ℕ) → length s < p + suc f
        → ((q n : ℕ) → q ≤ length s → length s < q + f → Lower (bind (bare (turns s rank l (readers s rank g) f q n)) (Rest M)) (Rest M q n))
        → (c : Bool) → ltb l (rank.left (kind s p)) ≡ c → Lower (bind (bare (turns s rank l (readers s rank g) (suc f) p m)) (Rest M)) (Rest M p m)
    tails_step l f p m e ih true h =
        lower_trans (lower_eq (ap (λ (z : Bare). bind z (Rest M)) (turn_above s rank l (readers s rank g) f p m h)
        ∙ bind_assoc (bare (take s p (reached s m p 2))) (λ q n. bind (Right q n) (λ q n. bare (turns s rank l (readers s rank g) f q n))) (Rest M)))
        (lower_trans
        (bind_lower s p (bare (take s p (reached s m p 2))) (λ q n. bind (bind (Right q n) (λ q n. bare (turns s rank l (readers s rank g) f q n))) (Rest M))
        (λ q n. bind (bare ((readers s (flat ops) M).exps 1 q n)) (λ q n. bare (turns s (flat ops) 0 (readers s (flat ops) M) (length s) q n)))
        (take_ahead s p (reached s m p 2))
        (λ q n a b.
        lower_trans (lower_eq (bind_assoc (Right q n) (λ q n. bare (turns s rank l (readers s rank g) f q n)) (Rest M)))
        (lower_trans (bind_lower s q (Right q n) (λ q n. bind (bare (turns s rank l (readers s rank g) f q n)) (Rest M)) (Rest M) (ahead_exp s rank g _ q n) (λ q' n' a' b'. ih q' n' b' (omega arith)))
        (lower_trans (chains _ 1 q n (omega arith))
        (lower_eq (bind_eq s q (bare ((readers s (flat ops) M).exps 1 q n)) (Rest M) (λ q n. bare (turns s (flat ops) 0 (readers s (flat ops) M) (length s) q n)) (ahead_exp s (flat ops) M 1 q n)
        (λ q' n' a' b'. rest_fuel M q' n' (omega arith) b')))))))
        (lower_eq (sym (turn_above s (flat ops) 0 (readers s (flat ops) M) (length s) p m (flat_above _ (is_op l (kind s p) h))))))
    tails_step l f p m e ih false h = lower_eq (ap (λ (z : Bare). bind z (Rest M)) (turn_below s rank l (readers s rank g) f p m h) ∙ rest_mark M p m)

    tails_lower : (l f p m : ℕ) → p ≤ length s → length s < p + f → Lower (bind (bare (turns s rank l (readers s rank g) f p m)) (Rest M)) (Rest M p m)
    tails_lower l zero p m b e = absurd (omega arith)
    tails_lower l (suc f) p m b e = tails_step l f p m e (λ q n b' e'. tails_lower l f q n b' e') (ltb l (rank.left (kind s p))) refl

  -- under the limit 0 nothing of the chain is left
  module _ (g M : ℕ) where
    spent_step : (f p m : ℕ) → ((q n : ℕ) → bind (bare (turns s rank 0 (readers s rank g) f q n)) (Rest M) ≡ bare (turns s rank 0 (readers s rank g) f q n))
        → (c : Bool) → ltb 0 (rank.left (kind s p)) ≡ c → bind (bare (turns s rank 0 (readers s rank g) (suc f) p m)) (Rest M) ≡ bare (turns s rank 0 (readers s rank g) (suc f) p m)
    spent_step f p m ih true h =
        let x = turn_above s rank 0 (readers s rank g) f p m h in
        ap (λ (z : Bare). bind z (Rest M)) x
        ∙ bind_assoc (bare (take s p (reached s m p 2))) (λ q n. bind (bare ((readers s rank g).exps (rank.right (kind s (q - 1))) q n)) (λ q n. bare (turns s rank 0 (readers s rank g) f q n))) (Rest M)
        ∙ bind_cong (bare (take s p (reached s m p 2)))
        (λ q n. bind (bind (bare ((readers s rank g).exps (rank.right (kind s (q - 1))) q n)) (λ q n. bare (turns s rank 0 (readers s rank g) f q n))) (Rest M))
        (λ q n. bind (bare ((readers s rank g).exps (rank.right (kind s (q - 1))) q n)) (λ q n. bare (turns s rank 0 (readers s rank g) f q n)))
        (λ q n. bind_assoc (bare ((readers s rank g).exps (rank.right (kind s (q - 1))) q n)) (λ q n. bare (turns s rank 0 (readers s rank g) f q n)) (Rest M)
        ∙ bind_cong (bare ((readers s rank g).exps (rank.right (kind s (q - 1))) q n)) (λ q n. bind (bare (turns s rank 0 (readers s rank g) f q n)) (Rest M)) (λ q n. bare (turns s rank 0 (readers s rank g) f q n)) ih)
        ∙ sym x
    spent_step f p m ih false h =
        let x = turn_below s rank 0 (readers s rank g) f p m h in
        ap (λ (z : Bare). bind z (Rest M)) x
        ∙ turn_below s (flat ops) 0 (readers s (flat ops) M) (length s) p (reached s m p 2) (flat_below _ (sym (same-ops (kind s p)) ∙ h))
        ∙ ap (at p) (reached_twice s m p 2) ∙ sym x

    spent : (f p m : ℕ) → bind (bare (turns s rank 0 (readers s rank g) f p m)) (Rest M) ≡ bare (turns s rank 0 (readers s rank g) f p m)
    spent zero p m = refl
    spent (suc f) p m = spent_step f p m (spent f) (ltb 0 (rank.left (kind s p))) refl

  module _ (g M M' : ℕ) (chains : Chains g M M')
      (kin-exp : (p m : ℕ) → Under ((readers s rank g).exps 0 p m) ((readers s (flat ops) M').exps 0 p m)) (kin-stat : (p m : ℕ) → Under ((readers s rank g).stats p m) ((readers s (flat ops) M').stats p m))
      (l l' : ℕ) (A B : Reader) (p : ℕ) where
    abbrev K : Out → Out → Type 0
    K a b = Lower (bind (bare a) (Rest M)) (bind (bare b) (Rest M))

    abbrev Reads : Term → Type 0
    Reads e = (m : ℕ) → K (read s rank l (readers s rank g) (hold 0 0 none) e A p m) (read s (flat ops) l' (readers s (flat ops) M') (hold 0 0 none) e B p m)

    on_lower : (ks : List ℕ) (a c : Term) → Reads a → Reads c → Reads (on next ks a c)
    unfolding read
    on_lower ks a c x y m =
        either2 K (eqb (kind s p) 59) (eqb (kind s p) 59) _ _ _ _ refl alike (either2 K (member (kind s p) ks) (member (kind s p) ks) _ _ _ _ refl (x (reached s m p 2)) (y (reached s m p 2)))

    unary_lower : (w : ℕ) → Reads (node 18 here unlined (any ⨾ plus w ⨾ exp 12))
    unary_lower w m =
        lower_trans (lower_eq (ap (λ (z : Bare). bind z (Rest M)) (unary_is s rank l (readers s rank g) A w p m) ∙ bind_assoc (bare (take s p m)) (λ q n. bare ((readers s rank g).exps 12 q n)) (Rest M)))
        (lower_trans (bind_lower s p (bare (take s p m)) (λ q n. bind (bare ((readers s rank g).exps 12 q n)) (Rest M)) (λ q n. bind (bare ((readers s (flat ops) M').exps 12 q n)) (Rest M)) (take_ahead s p m) (λ q n a b. chains 12 12 q n (omega arith)))
        (lower_eq (sym (ap (λ (z : Bare). bind z (Rest M)) (unary_is s (flat ops) l' (readers s (flat ops) M') B w p m) ∙ bind_assoc (bare (take s p m)) (λ q n. bare ((readers s (flat ops) M').exps 12 q n)) (Rest M)))))

    simple_lower : Reads simple
    simple_lower m =
        lower_bind (Rest M) (lower_of (kindred Under Like under_kin s rank (flat ops) l l' (readers s rank g) (readers s (flat ops) M') kin-exp kin-stat 0 0 none none nones simple (inl simple_plain) A B (inl simple_closed) p m))

    head_lower : Reads head
    unfolding head
    head_lower = on_lower _ _ _ (unary_lower 0) (on_lower _ _ _ (unary_lower 1) (on_lower _ _ _ (unary_lower 2) (on_lower _ _ _ (unary_lower 3) simple_lower)))

  record Level (g : ℕ) : Type 0 where
    expressed : (M p m : ℕ) → g ≤ M → Under ((readers s rank g).exps 0 p m) ((readers s (flat ops) M).exps 0 p m)
    stated : (M p m : ℕ) → g ≤ M → Under ((readers s rank g).stats p m) ((readers s (flat ops) M).stats p m)
    chained : (M M' : ℕ) → g ≤ M → g ≤ M' → Chains g M M'

  -- the head, and what is left of the chain
  module _ (g M M' : ℕ) (h : Level g) (b : g ≤ M) (b' : g ≤ M') where
    begun : (l l' p m : ℕ) → Lower (bind (bare (heads s rank l g p m)) (Rest M)) (bind (bare (heads s (flat ops) l' M' p m)) (Rest M))
    begun l l' p m =
        head_lower g M M' (h.chained M M' b b') (λ p m. h.expressed M' p m b') (λ p m. h.stated M' p m b') l l'
        (loop s (length s) (read s rank l (readers s rank g) (hold 0 0 none) expression)) (loop s (length s) (read s (flat ops) l' (readers s (flat ops) M') (hold 0 0 none) expression)) p m

    ended_by : (l l' p m : ℕ) → Lower (bind (bare (heads s rank l g p m)) (λ q n. bind (bare (tailed s rank l g q n)) (Rest M))) (bind (bare (heads s (flat ops) l' M' p m)) (Rest M))
    ended_by l l' p m =
        lower_trans (bind_lower s p (bare (heads s rank l g p m)) (λ q n. bind (bare (tailed s rank l g q n)) (Rest M)) (Rest M) (head_ahead s rank g l p m)
        (λ q n a c. tails_lower g M (h.chained M M b b) l (suc (length s)) q n c (omega arith))) (begun l l' p m)

  chained_next : (g M M' : ℕ) → Level g → g ≤ M → g ≤ M' → Chains (suc g) M (suc M')
  chained_next g M M' h b b' l l' p m c =
      lower_trans (lower_eq (ap (λ (z : Bare). bind z (Rest M)) (exp_is s rank g l p m) ∙ bind_assoc (bare (heads s rank l g p m)) (λ q n. bare (tailed s rank l g q n)) (Rest M)))
      (lower_trans (ended_by g M M' h b b' l l' p m)
      (lower_eq (sym (ap (λ (z : Bare). bind z (Rest M)) (exp_is s (flat ops) M' l' p m)
      ∙ bind_assoc (bare (heads s (flat ops) l' M' p m)) (λ q n. bare (tailed s (flat ops) l' M' q n)) (Rest M)
      ∙ bind_cong (bare (heads s (flat ops) l' M' p m)) (λ q n. bind (bare (tailed s (flat ops) l' M' q n)) (Rest M)) (Rest M)
      (λ q n. ap (λ (z : Bare). bind z (Rest M)) (turn_below s (flat ops) l' (readers s (flat ops) M') (length s) q n (flat_limit (ops (kind s q)) l' c)) ∙ rest_mark M q n)))))

  expressed_next : (g M : ℕ) → Level g → g ≤ M → (p m : ℕ) → Under ((readers s rank (suc g)).exps 0 p m) ((readers s (flat ops) (suc M)).exps 0 p m)
  expressed_next g M h b p m =
      rw (exp_wraps s rank g 0 p m, exp_wraps s (flat ops) M 0 p m)
      (wrap_under s p (then (heads s rank 0 g p m) (tailed s rank 0 g)) (then (heads s (flat ops) 0 M p m) (tailed s (flat ops) 0 M)) (lower_cases chain))
    where
      chain : Lower (bare (then (heads s rank 0 g p m) (tailed s rank 0 g))) (bare (then (heads s (flat ops) 0 M p m) (tailed s (flat ops) 0 M)))
      chain =
          lower_trans (lower_eq (bare_then (heads s rank 0 g p m) (tailed s rank 0 g)
          ∙ sym (bind_cong (bare (heads s rank 0 g p m)) (λ q n. bind (bare (tailed s rank 0 g q n)) (Rest M)) (λ q n. bare (tailed s rank 0 g q n)) (λ q n. spent g M (suc (length s)) q n))))
          (lower_trans (ended_by g M M h b b 0 0 p m) (lower_eq (sym (bare_then (heads s (flat ops) 0 M p m) (tailed s (flat ops) 0 M)))))

  stated_next : (g M : ℕ) → Level g → g ≤ M → (p m : ℕ) → Under ((readers s rank (suc g)).stats p m) ((readers s (flat ops) (suc M)).stats p m)
  stated_next g M h b =
      kindred_alone Under Like under_kin s rank (flat ops) 0 0 (readers s rank g) (readers s (flat ops) M) (λ p m. h.expressed M p m b) (λ p m. h.stated M p m b) statement (inl statement_plain)

  expressed_any : (g M p m : ℕ) → Level g → suc g ≤ M → Under ((readers s rank (suc g)).exps 0 p m) ((readers s (flat ops) M).exps 0 p m)
  expressed_any g zero p m h b = absurd (omega arith)
  expressed_any g (suc M) p m h b = expressed_next g M h (omega arith) p m

  stated_any : (g M p m : ℕ) → Level g → suc g ≤ M → Under ((readers s rank (suc g)).stats p m) ((readers s (flat ops) M).stats p m)
  stated_any g zero p m h b = absurd (omega arith)
  stated_any g (suc M) p m h b = stated_next g M h (omega arith) p m

  chained_any : (g M M' : ℕ) → Level g → suc g ≤ M → suc g ≤ M' → Chains (suc g) M M'
  chained_any g M zero h b b' = absurd (omega arith)
  chained_any g M (suc M') h b b' = chained_next g M M' h (omega arith) (omega arith)

  level : (g : ℕ) → Level g
  level zero = record { expressed = λ M p m b. five refl; stated = λ M p m b. five refl; chained = λ M M' b b' l l' p m c. deep refl }
  level (suc g) =
      let h = level g in
      record { expressed = λ M p m b. expressed_any g M p m h b; stated = λ M p m b. stated_any g M p m h b; chained = λ M M' b b'. chained_any g M M' h b b' }

  finish_under : (a b : Out) → Under a b → Under (finish s a) (finish s b)
  finish_under a b (under {p = q} {m = m} {v = v} {t = t} {u = u} x) = either2 Under (eqb (kind s q) 59) (eqb (kind s q) 59) _ _ _ _ refl (under x) equal
  finish_under a b equal = equal
  finish_under a b (five x) = five x

  -- a ranking reads as the flat one does, if it doesn't end in a refusal 5
  flattened : (g : ℕ) → Under (chunk s rank g) (chunk s (flat ops) g)
  flattened g =
      let h = level g in
      finish_under _ _
      (kindred_alone Under Like under_kin s rank (flat ops) 0 0 (readers s rank g) (readers s (flat ops) g) (λ p m. h.expressed g p m (omega arith)) (λ p m. h.stated g p m (omega arith)) block (inl block_plain) 0 0)

alike_of : {a b c : Out} → Under a c → Under b c → Alike a b
alike_of (under x) (under y) = fines (like_trans x (like_sym y))
alike_of (under x) (five h) = deep_right h
alike_of equal equal = fails
alike_of equal (five h) = deep_right h
alike_of (five h) y = deep_left h

-- two rankings of the same operators
pub rankings : (s : List ℕ) (rank rank' : Ranks) → ((k : ℕ) → ltb 0 (rank.left k) ≡ ltb 0 (rank'.left k)) → (g : ℕ) → Alike (chunk s rank g) (chunk s rank' g)
rankings s rank rank' h g =
    alike_of (flattened s (λ k. ltb 0 (rank'.left k)) rank h g) (flattened s (λ k. ltb 0 (rank'.left k)) rank' (λ k. refl) g)
