-- Two rankings and one tree: a tree that fits the one fits the other if and only if in each chain each operator takes as many operators under both.
-- Assumes nothing.
use mathlib.Core.Path.{◌≡◌, refl, sym, ◌∙◌, subst}
use mathlib.Core.Bool.{Bool, true, false}
use mathlib.Core.List.{List, [], ◌∷◌, ◌++◌, append_assoc, append-nil}
use mathlib.Core.Logic.{◌↔◌}
use Prim.Native.Nat.{ℕ, suc, ◌≤◌, ◌<◌}
use native.Mathlib.Omega.{arith}
use lib.Dec.{ltb}
use borrow.Author.Tests.{lt-ltb, le-ltb, ltb-true, ltb-false}
use Rattle.stream.specs.Words.{kind}
use Rattle.operators.specs.Ranks.{Ranks}
use Rattle.tree.specs.Forest.{Forest, tree}
use Rattle.grammar.proofs.Tests.{wrong, and_left, and_right, and_both, no_case}
use Rattle.quarrel.specs.Chains.{Op, op, unary, tail, operators, operand, chains, within, inner}
use Rattle.quarrel.proofs.Walks.{step, walk, same}
use Rattle.quarrel.proofs.Fit.{apart, Stop, Fit, Right, Fits, ends, tailed, signed, atom, right, nothing, whole, part}
use Rattle.quarrel.proofs.Parts.{apart_tags}

-- what is asked of a ranking
pub record Lawful (rank : Ranks) : Type 0 where
  pub near : (k : ℕ) → rank.left k ≤ suc (rank.right k)
  pub low : (k : ℕ) → rank.right k ≤ 13
  pub high : (k : ℕ) → 12 < rank.left k → 13 < rank.left k

-- the operators above a limit, and whether these all are
abbrev pub pass : Ranks → ℕ → Op → Bool
pass rank l o = ltb l (rank.left o.sort)

abbrev pub Over : Ranks → ℕ → List Op → Type 0
Over rank l [] = Unit {0}
Over rank l (o ∷ os) = (l < rank.left o.sort) × Over rank l os

-- from under two limits the two rankings take as many; each operator takes as many under both
abbrev pub Walk : Ranks → Ranks → ℕ → ℕ → List Op → Type 0
Walk C M l l' os = walk (pass C l) (pass M l') os ≡ true

abbrev pub Same : Ranks → Ranks → List Op → Type 0
Same C M os = same (λ o. pass C (C.right o.sort)) (λ o. pass M (M.right o.sort)) os ≡ true

-- each of some chains
abbrev pub All : (List Op → Type 0) → List (List Op) → Type 0
All G [] = Unit {0}
All G (c ∷ cs) = G c × All G cs

all_join : (G : List Op → Type 0) (cs ds : List (List Op)) → All G cs → All G ds → All G (cs ++ ds)
all_join G [] ds x y = y
all_join G (c ∷ cs) ds x y = (x.0, all_join G cs ds x.1 y)

all_parts : (G : List Op → Type 0) (cs ds : List (List Op)) → All G (cs ++ ds) → All G cs × All G ds
all_parts G [] ds x = (tt, x)
all_parts G (c ∷ cs) ds x = let y = all_parts G cs ds x.1 in ((x.0, y.0), y.1)

over_join : (rank : Ranks) (l : ℕ) (xs ys : List Op) → Over rank l xs → Over rank l ys → Over rank l (xs ++ ys)
over_join rank l [] ys x y = y
over_join rank l (o ∷ os) ys x y = (x.0, over_join rank l os ys x.1 y)

over_less : (rank : Ranks) (l m : ℕ) (xs : List Op) → l ≤ m → Over rank m xs → Over rank l xs
over_less rank l m [] h x = tt
over_less rank l m (o ∷ os) h x = (omega (arith, x.0), over_less rank l m os h x.1)

over_high : (rank : Ranks) → Lawful rank → (l : ℕ) (xs : List Op) → l ≤ 13 → Over rank 12 xs → Over rank l xs
over_high rank laws l [] h x = tt
over_high rank laws l (o ∷ os) h x = (omega (arith, laws.high o.sort x.0), over_high rank laws l os h x.1)

-- the operators and the chains of a first tree that is apart
module _ (s : List ℕ) (tag v n p : ℕ) (k r : Forest) (h : apart tag ≡ true) where
  ops_atom : operators s (tree tag v n p k r) ≡ operators s r
  ops_atom = let e = apart_tags tag h in no_case (tail tag) _ _ e.1 ∙ no_case (unary tag) _ _ e.2

  within_atom : within s (tree tag v n p k r) ≡ chains s k ++ within s r
  within_atom = let e = apart_tags tag h in rw (e.1, e.2) refl

  chains_part : chains s (tree tag v n p k r) ≡ chains s k ++ chains s r
  chains_part = rw (apart_tags tag h).0 refl

-- every operator of a tree that fits stands above the limit
module _ (s : List ℕ) (rank : Ranks) (laws : Lawful rank) where
  mutual
    pub over : {l : ℕ} {t : Forest} {os : List Op} → l ≤ 13 → Fit s rank l t os → Over rank l (operators s t)
    over b (ends h) = tt
    over {l} b (tailed {p = p} {k = k} {r = r} a e x) =
        (a, over_join rank l (operand s k) (operators s r) (over_less rank l (rank.right (kind s p)) (operand s k) (omega (arith, laws.near (kind s p))) (over_right (laws.low (kind s p)) e)) (over b x))
    over {l} b (signed {k = k} {r = r} e x) = over_join rank l (operand s k) (operators s r) (over_high rank laws l (operand s k) b (over_right (omega arith) e)) (over b x)
    over {l} b (atom {tag = tag} {v = v} {n = n} {p = p} {k = k} {r = r} h e x) = subst (Over rank l) (sym (ops_atom s tag v n p k r h)) (over b x)

    pub over_right : {l : ℕ} {t : Forest} {os : List Op} → l ≤ 13 → Right s rank l t os → Over rank l (operand s t)
    over_right b (right x) = over b x

step_same : (b w : Bool) → w ≡ true → step b b w ≡ true
step_same true w h = h
step_same false w h = refl

walk_same : (f g : Op → Bool) → ((o : Op) → f o ≡ g o) → (os : List Op) → walk f g os ≡ true
walk_same f g h [] = refl
walk_same f g h (o ∷ os) = rw (h o) (step_same (g o) (walk f g os) (walk_same f g h os))

skip : (C M : Ranks) (l l' : ℕ) (xs ys : List Op) → Over C l xs → Over M l' xs → walk (pass C l) (pass M l') (xs ++ ys) ≡ walk (pass C l) (pass M l') ys
skip C M l l' [] ys x y = refl
skip C M l l' (o ∷ os) ys x y = rw (lt-ltb _ _ x.0, lt-ltb _ _ y.0) (skip C M l l' os ys x.1 y.1)

same_rest : (C M : Ranks) (xs ys : List Op) → Same C M (xs ++ ys) → Same C M ys
same_rest C M [] ys h = h
same_rest C M (o ∷ os) ys h = same_rest C M os ys (and_right (walk (pass C (C.right o.sort)) (pass M (M.right o.sort)) (os ++ ys)) _ h)

-- the two rankings, and the chains that are good: those in which each operator takes as many operators under both
module _ (s : List ℕ) (C M : Ranks) (laws : Lawful C) (laws' : Lawful M) (zeros : (k : ℕ) → ltb 0 (C.left k) ≡ ltb 0 (M.left k))
    (highs : (k : ℕ) → ltb 12 (C.left k) ≡ ltb 12 (M.left k)) (G : List Op → Type 0) (good : (c : List Op) → Over C 0 c → Same C M c ↔ G c) where
  zero_walk : (os : List Op) → Walk C M 0 0 os
  zero_walk = walk_same (pass C 0) (pass M 0) (λ o. zeros o.sort)

  high_walk : (os : List Op) → Walk C M 12 12 os
  high_walk = walk_same (pass C 12) (pass M 12) (λ o. highs o.sort)

  stops : (l l' : ℕ) (os : List Op) → Stop C l os → Stop M l' os → Walk C M l l' os
  stops l l' [] x y = refl
  stops l l' (o ∷ os) x y = rw (le-ltb _ _ x, le-ltb _ _ y) refl

  -- a tree that fits both
  record Both (l l' : ℕ) (os cs : List Op) (ds : List (List Op)) : Type 0 where
    walks : Walk C M l l' (cs ++ os)
    sames : Same C M (cs ++ os)
    goods : All G ds

  mutual
    both : {l l' : ℕ} {t : Forest} {os : List Op} → l ≤ 13 → l' ≤ 13 → Fit s C l t os → Fit s M l' t os → Same C M os → Both l l' os (operators s t) (within s t)
    both {l} {l'} {os = os} b b' (ends h) (ends h') q = record { walks = stops l l' os h h'; sames = q; goods = tt }
    both {l} {l'} {os = os} b b' (tailed {p = p} {k = k} {r = r} a e x) (tailed a' e' x') q =
        let y = both b b' x x' q in
        let z = both_right (laws.low (kind s p)) (laws'.low (kind s p)) e e' y.sames in
        let c = over_less C l (C.right (kind s p)) (operand s k) (omega (arith, laws.near (kind s p))) (over_right s C laws (laws.low (kind s p)) e) in
        let m = over_less M l' (M.right (kind s p)) (operand s k) (omega (arith, laws'.near (kind s p))) (over_right s M laws' (laws'.low (kind s p)) e') in
        record {
          walks = rw (lt-ltb _ _ a, lt-ltb _ _ a', append_assoc (operand s k) (operators s r) os) (skip C M l l' (operand s k) (operators s r ++ os) c m ∙ y.walks);
          sames = rw (append_assoc (operand s k) (operators s r) os) (and_both _ _ z.walks z.sames);
          goods = all_join G (inner s k) (within s r) z.goods y.goods;
        }
    both b b' (tailed a e x) (atom h' e' x') q = wrong h'
    both {l} {l'} {os = os} b b' (signed {k = k} {r = r} e x) (signed e' x') q =
        let y = both b b' x x' q in
        let z = both_right (omega arith) (omega arith) e e' y.sames in
        let c = over_high C laws l (operand s k) b (over_right s C laws (omega arith) e) in
        let m = over_high M laws' l' (operand s k) b' (over_right s M laws' (omega arith) e') in
        record {
          walks = rw (append_assoc (operand s k) (operators s r) os) (skip C M l l' (operand s k) (operators s r ++ os) c m ∙ y.walks);
          sames = rw (append_assoc (operand s k) (operators s r) os) z.sames;
          goods = all_join G (inner s k) (within s r) z.goods y.goods;
        }
    both b b' (signed e x) (atom h' e' x') q = wrong h'
    both b b' (atom h e x) (tailed a' e' x') q = wrong h
    both b b' (atom h e x) (signed e' x') q = wrong h
    both {l} {l'} {os = os} b b' (atom {tag = tag} {v = v} {n = n} {p = p} {k = k} {r = r} h e x) (atom h' e' x') q =
        let y = both b b' x x' q in
        let o = sym (ops_atom s tag v n p k r h) in
        record {
          walks = subst (λ cs. Walk C M l l' (cs ++ os)) o y.walks;
          sames = subst (λ cs. Same C M (cs ++ os)) o y.sames;
          goods = subst (All G) (sym (within_atom s tag v n p k r h)) (all_join G (chains s k) (within s r) (both_fits e e') y.goods);
        }

    both_right : {l l' : ℕ} {t : Forest} {os : List Op} → l ≤ 13 → l' ≤ 13 → Right s C l t os → Right s M l' t os → Same C M os → Both l l' os (operand s t) (inner s t)
    both_right b b' (right x) (right x') q = both b b' x x' q

    pub both_fits : {t : Forest} → Fits s C t → Fits s M t → All G (chains s t)
    both_fits nothing nothing = tt
    both_fits (whole {k = k} {r = r} x y) (whole x' y') =
        let z = both (omega arith) (omega arith) x x' refl in
        ((good (operators s k) (over s C laws (omega arith) x)).0 (rw append-nil at z.sames), all_join G (within s k) (chains s r) z.goods (both_fits y y'))
    both_fits (whole x y) (part h' x' y') = wrong h'
    both_fits (part h x y) (whole x' y') = wrong h
    both_fits (part {tag = tag} {v = v} {n = n} {p = p} {k = k} {r = r} h x y) (part h' x' y') =
        subst (All G) (sym (chains_part s tag v n p k r h)) (all_join G (chains s k) (chains s r) (both_fits x x') (both_fits y y'))

  -- a tree that fits the one, and whose chains are good, fits the other
  stops_too : (l l' : ℕ) (os : List Op) → Stop C l os → Walk C M l l' os → Stop M l' os
  stops_too l l' [] x w = tt
  stops_too l l' (o ∷ os) x w = go (pass M l' o) refl (rw (le-ltb _ _ x) at w)
    where
      go : (b : Bool) → pass M l' o ≡ b → step false b (walk (pass C l) (pass M l') os) ≡ true → Stop M l' (o ∷ os)
      go true h w = wrong w
      go false h w = ltb-false _ _ h

  takes_too : (l l' : ℕ) (o : Op) (os : List Op) → l < C.left o.sort → Walk C M l l' (o ∷ os) → (l' < M.left o.sort) × Walk C M l l' os
  takes_too l l' o os x w = go (pass M l' o) refl (rw (lt-ltb _ _ x) at w)
    where
      go : (b : Bool) → pass M l' o ≡ b → step true b (walk (pass C l) (pass M l') os) ≡ true → (l' < M.left o.sort) × Walk C M l l' os
      go true h w = (ltb-true _ _ h, w)
      go false h w = wrong w

  mutual
    moved : {l l' : ℕ} {t : Forest} {os : List Op} → l ≤ 13 → l' ≤ 13 → Fit s C l t os → Walk C M l l' (operators s t ++ os) → Same C M (operators s t ++ os) → All G (within s t) → Fit s M l' t os
    moved {l} {l'} {os = os} b b' (ends h) w q g = ends (stops_too l l' os h w)
    moved {l} {l'} {os = os} b b' (tailed {p = p} {k = k} {r = r} a e x) w q g =
        let z = append_assoc (operand s k) (operators s r) os in
        let w' : Walk C M l l' (op s p ∷ (operand s k ++ (operators s r ++ os))) = subst (λ cs. Walk C M l l' (op s p ∷ cs)) z w in
        let q' : Same C M (op s p ∷ (operand s k ++ (operators s r ++ os))) = subst (λ cs. Same C M (op s p ∷ cs)) z q in
        let t = takes_too l l' (op s p) (operand s k ++ (operators s r ++ os)) a w' in
        let g' = all_parts G (inner s k) (within s r) g in
        let q'' = and_right (walk (pass C (C.right (kind s p))) (pass M (M.right (kind s p))) (operand s k ++ (operators s r ++ os))) _ q' in
        let e' = moved_right {os = operators s r ++ os} (laws.low (kind s p)) (laws'.low (kind s p)) e (and_left _ (same (λ o. pass C (C.right o.sort)) (λ o. pass M (M.right o.sort)) (operand s k ++ (operators s r ++ os))) q') q'' g'.0 in
        let c = over_less C l (C.right (kind s p)) (operand s k) (omega (arith, laws.near (kind s p))) (over_right s C laws (laws.low (kind s p)) e) in
        let m = over_less M l' (M.right (kind s p)) (operand s k) (omega (arith, laws'.near (kind s p), t.0)) (over_right s M laws' (laws'.low (kind s p)) e') in
        tailed t.0 e' (moved b b' x (sym (skip C M l l' (operand s k) (operators s r ++ os) c m) ∙ t.1) (same_rest C M (operand s k) (operators s r ++ os) q'') g'.1)
    moved {l} {l'} {os = os} b b' (signed {k = k} {r = r} e x) w q g =
        let z = append_assoc (operand s k) (operators s r) os in
        let w' = subst (Walk C M l l') z w in
        let q' = subst (Same C M) z q in
        let g' = all_parts G (inner s k) (within s r) g in
        let e' = moved_right {l = 12} {l' = 12} {os = operators s r ++ os} (omega arith) (omega arith) e (high_walk (operand s k ++ (operators s r ++ os))) q' g'.0 in
        let c = over_high C laws l (operand s k) b (over_right s C laws (omega arith) e) in
        let m = over_high M laws' l' (operand s k) b' (over_right s M laws' (omega arith) e') in
        signed e' (moved b b' x (sym (skip C M l l' (operand s k) (operators s r ++ os) c m) ∙ w') (same_rest C M (operand s k) (operators s r ++ os) q') g'.1)
    moved {l} {l'} {os = os} b b' (atom {tag = tag} {v = v} {n = n} {p = p} {k = k} {r = r} h e x) w q g =
        let o = ops_atom s tag v n p k r h in
        let g' = all_parts G (chains s k) (within s r) (subst (All G) (within_atom s tag v n p k r h) g) in
        atom h (moved_fits e g'.0) (moved b b' x (subst (λ cs. Walk C M l l' (cs ++ os)) o w) (subst (λ cs. Same C M (cs ++ os)) o q) g'.1)

    moved_right : {l l' : ℕ} {t : Forest} {os : List Op} → l ≤ 13 → l' ≤ 13 → Right s C l t os → Walk C M l l' (operand s t ++ os) → Same C M (operand s t ++ os) → All G (inner s t) → Right s M l' t os
    moved_right b b' (right x) w q g = right (moved b b' x w q g)

    pub moved_fits : {t : Forest} → Fits s C t → All G (chains s t) → Fits s M t
    moved_fits nothing g = nothing
    moved_fits (whole {k = k} {r = r} x y) g =
        let g' = all_parts G (within s k) (chains s r) g.1 in
        whole (moved {l' = 0} (omega arith) (omega arith) x (zero_walk (operators s k ++ [])) (subst (Same C M) (sym (append-nil (operators s k))) ((good (operators s k) (over s C laws (omega arith) x)).1 g.0)) g'.0) (moved_fits y g'.1)
    moved_fits (part {tag = tag} {v = v} {n = n} {p = p} {k = k} {r = r} h x y) g =
        let g' = all_parts G (chains s k) (chains s r) (subst (All G) (chains_part s tag v n p k r h) g) in
        part h (moved_fits x g'.0) (moved_fits y g'.1)
