-- One pass over a chain's operators finds the lowest place whose `~=` quarrels. Assumes nothing.
use mathlib.Core.Path.{◌≡◌, refl, sym, ap, ◌∙◌}
use mathlib.Core.Bool.{Bool, true, false, ◌||◌, cond}
use mathlib.Core.List.{List, [], ◌∷◌, ◌++◌}
use mathlib.Core.Logic.{◌↔◌, ◌⊎◌, inl, inr}
use Prim.Native.Nat.{ℕ, ◌≤◌, min}
use native.Mathlib.Omega.{arith}
use lib.Dec.{ltb}
use borrow.Author.Tests.{ltb-true, ltb-false}
use Rattle.std.specs.Prelude.{Option, Some, None}
use Rattle.stream.specs.declared.reader.Note.{Note}
use Rattle.quarrel.specs.Chains.{Op}
use Rattle.quarrel.specs.Rule.{Quarrels}
use Rattle.quarrel.specs.Notes.{note, earlier, fresh}
use Rattle.quarrel.proofs.Classes.{Role, cut, compare, unequal, bits, sum, rest, hear, next, second, quarrel, part, kinds}
use Rattle.quarrel.proofs.Words.{Loud, words_loud, loud_words, here, later, empty, cases}

-- the machine's state is a note; at the start nothing was heard, no `~=` waits and none is found
abbrev pub start : Note
start = note false None None

-- what an operator at the place i does, by its role
abbrev pub turn : Role → ℕ → Note → Note
turn cut i z = fresh z
turn compare i z = note true None z.found
turn unequal i z = note z.heard (Some i) (earlier z.found (cond z.heard (Some i) None))
turn bits i z = note true None (earlier z.found z.waits)
turn sum i z = note z.heard None (earlier z.found z.waits)
turn rest i z = z

abbrev pub step : Note → Op → Note
step z o = turn (part o) o.place z

abbrev pub run : Note → List Op → Note
run z [] = z
run z (o ∷ os) = run (step z o) os

pub run_append : (z : Note) (a b : List Op) → run z (a ++ b) ≡ run (run z a) b
run_append z [] b = refl
run_append z (o ∷ a) b = run_append (step z o) a b

pub earlier_none : (p : Option ℕ) → earlier p None ≡ p
earlier_none None = refl
earlier_none (Some j) = refl

earlier_swap : (p q : Option ℕ) → earlier p q ≡ earlier q p
earlier_swap None q = sym (earlier_none q)
earlier_swap (Some j) None = refl
earlier_swap (Some j) (Some i) = ap {B = Option ℕ} Some (omega arith)

pub earlier_assoc : (p q r : Option ℕ) → earlier (earlier p q) r ≡ earlier p (earlier q r)
earlier_assoc None q r = refl
earlier_assoc (Some i) None r = refl
earlier_assoc (Some i) (Some j) None = refl
earlier_assoc (Some i) (Some j) (Some k) = ap {B = Option ℕ} Some (omega arith)

earlier_twice : (p r : Option ℕ) → earlier p (earlier p r) ≡ earlier p r
earlier_twice None r = refl
earlier_twice (Some i) None = ap {B = Option ℕ} Some (omega arith)
earlier_twice (Some i) (Some j) = ap {B = Option ℕ} Some (omega arith)

exchange : (p q r : Option ℕ) → earlier (earlier p q) r ≡ earlier (earlier p r) q
exchange p q r = earlier_assoc p q r ∙ ap (earlier p) (earlier_swap q r) ∙ sym (earlier_assoc p r q)

-- something more found
abbrev pub adding : Note → Option ℕ → Note
adding z m = note z.heard z.waits (earlier z.found m)

turn_adding : (k : Role) (i : ℕ) (z : Note) (m : Option ℕ) → turn k i (adding z m) ≡ adding (turn k i z) m
turn_adding cut i z m = refl
turn_adding compare i z m = refl
turn_adding unequal i z m = ap (note z.heard (Some i)) (exchange z.found m (cond z.heard (Some i) None))
turn_adding bits i z m = ap (note true None) (exchange z.found m z.waits)
turn_adding sum i z m = ap (note z.heard None) (exchange z.found m z.waits)
turn_adding rest i z m = refl

pub run_adding : (z : Note) (m : Option ℕ) (os : List Op) → run (adding z m) os ≡ adding (run z os) m
run_adding z m [] = refl
run_adding z m (o ∷ os) = ap (λ z. run z os) (turn_adding (part o) o.place z m) ∙ run_adding (step z o) m os

-- started with something found: the lower of that and what is found from nothing
pub run_found : (b : Bool) (p q : Option ℕ) (os : List Op) → (run (note b p q) os).found ≡ earlier q (run (note b p None) os).found
run_found b p q os =
    ap (λ z. z.found) (run_adding (note b p None) q os) ∙ earlier_swap (run (note b p None) os).found q

-- the same by the rule
low : Bool → List Op → Option ℕ
low b [] = None
low b (o ∷ os) = earlier (cond (quarrel b (part o) (second (kinds os))) (Some o.place) None) (low (hear b (part o)) os)

abbrev wait : Option ℕ → Bool → Option ℕ
wait p false = None
wait p true = p

wait_none : (q : Bool) → wait None q ≡ None
wait_none false = refl
wait_none true = refl

loud_once : (b q : Bool) (i : ℕ) (r : Option ℕ) → earlier (cond b (Some i) None) (earlier (wait (Some i) q) r) ≡ earlier (cond (b || q) (Some i) None) r
loud_once true true i r = earlier_twice (Some i) r
loud_once true false i r = refl
loud_once false true i r = refl
loud_once false false i r = refl

run_low : (b : Bool) (p : Option ℕ) (os : List Op) → (run (note b p None) os).found ≡ earlier (wait p (second (kinds os))) (low b os)
unfolding low
run_low b p [] = refl
run_low b p (o ∷ os) = go (part o) (λ c r. run_low c r os)
  where
    go : (k : Role) → ((c : Bool) (r : Option ℕ) → (run (note c r None) os).found ≡ earlier (wait r (second (kinds os))) (low c os))
        → (run (turn k o.place (note b p None)) os).found
        ≡ earlier (wait p (next k (second (kinds os)))) (earlier (cond (quarrel b k (second (kinds os))) (Some o.place) None) (low (hear b k) os))
    go cut f = f false None ∙ ap (λ x. earlier x (low false os)) (wait_none (second (kinds os)))
    go compare f = f true None ∙ ap (λ x. earlier x (low true os)) (wait_none (second (kinds os)))
    go unequal f = run_found b (Some o.place) (cond b (Some o.place) None) os ∙ ap (earlier (cond b (Some o.place) None)) (f b (Some o.place))
        ∙ loud_once b (second (kinds os)) o.place (low b os)
    go bits f = run_found true None p os ∙ ap (earlier p) (f true None ∙ ap (λ x. earlier x (low true os)) (wait_none (second (kinds os))))
    go sum f = run_found b None p os ∙ ap (earlier p) (f b None ∙ ap (λ x. earlier x (low b os)) (wait_none (second (kinds os))))
    go rest f = f b p

-- the lowest of some places, or none where there is none
pub data Least (P : ℕ → Type 0) : Option ℕ → Type 0 where
  nowhere : ((i : ℕ) → ¬ P i) → Least P None
  lowest : {i : ℕ} → P i → ((j : ℕ) → P j → i ≤ j) → Least P (Some i)

pub least_alike : {P Q : ℕ → Type 0} {p : Option ℕ} → ((i : ℕ) → P i → Q i) → ((i : ℕ) → Q i → P i) → Least P p → Least Q p
least_alike f g (nowhere n) = nowhere (λ i q. n i (g i q))
least_alike f g (lowest {i = i} x l) = lowest (f i x) (λ j q. l j (g j q))

pub least_both : {P Q : ℕ → Type 0} {p q : Option ℕ} → Least P p → Least Q q → Least (λ i. P i ⊎ Q i) (earlier p q)
least_both {P} {Q} (nowhere f) (nowhere g) = nowhere none_of
  where
    none_of : (i : ℕ) → ¬ (P i ⊎ Q i)
    none_of i (inl x) = f i x
    none_of i (inr x) = g i x
least_both {P} {Q} (nowhere f) (lowest {i = i} x l) = lowest (inr x) each
  where
    each : (j : ℕ) → P j ⊎ Q j → i ≤ j
    each j (inl y) = absurd (f j y)
    each j (inr y) = l j y
least_both {P} {Q} (lowest {i = i} x l) (nowhere f) = lowest (inl x) each
  where
    each : (j : ℕ) → P j ⊎ Q j → i ≤ j
    each j (inl y) = l j y
    each j (inr y) = absurd (f j y)
least_both {P} {Q} (lowest {i = i} x l) (lowest {i = k} y m) = lowest (which (ltb i k) refl) each
  where
    which : (b : Bool) → ltb i k ≡ b → P (min i k) ⊎ Q (min i k)
    which true e = let h = ltb-true i k e in let q : min i k ≡ i = omega arith in inl (rw q x)
    which false e = let h = ltb-false i k e in let q : min i k ≡ k = omega arith in inr (rw q y)

    each : (j : ℕ) → P j ⊎ Q j → min i k ≤ j
    each j (inl z) = omega (arith, l j z)
    each j (inr z) = omega (arith, m j z)

pub exactly_none : {P : ℕ → Type 0} {p : Option ℕ} → Least P p → (p ≡ None) ↔ ((i : ℕ) → ¬ P i)
exactly_none (nowhere f) = ((λ e. f), (λ g. refl))
exactly_none {P} (lowest {i = i} x l) = ((λ e. let z : ◌≡◌ {A = ℕ} 0 1 = cc in absurd (omega arith)), (λ g. absurd (g i x)))

pub exactly_some : {P : ℕ → Type 0} {p : Option ℕ} (i : ℕ) → Least P p → (p ≡ Some i) ↔ (P i × ((j : ℕ) → P j → i ≤ j))
exactly_some i (nowhere f) = ((λ e. let z : ◌≡◌ {A = ℕ} 0 1 = cc in absurd (omega arith)), (λ g. absurd (f i g.0)))
exactly_some {P} i (lowest {i = k} x l) = (
  (λ e. let q : k ≡ i = cc in rw (← q) (x, l)),
  (λ g. ap {B = Option ℕ} Some (omega (arith, l i g.0, g.1 k x))),
)

-- at the place i a `~=` quarrels
record Sounds (b : Bool) (os : List Op) (i : ℕ) : Type 0 where
  one : Op
  loud : Loud b os one
  there : one.place ≡ i

low_lowest : (b : Bool) (os : List Op) → Least (Sounds b os) (low b os)
unfolding low
low_lowest b [] = nowhere (λ i x. empty x.loud)
low_lowest b (o ∷ os) = least_alike join split (least_both (first (quarrel b (part o) (second (kinds os))) refl) (low_lowest (hear b (part o)) os))
  where
    First : ℕ → Type 0
    First i = (o.place ≡ i) × (quarrel b (part o) (second (kinds os)) ≡ true)

    first : (a : Bool) → quarrel b (part o) (second (kinds os)) ≡ a → Least First (cond a (Some o.place) None)
    first true e = lowest (refl, e) (λ j x. omega arith)
    first false e = nowhere (λ i x. let z : true ≡ false = cc in let z : ◌≡◌ {A = ℕ} 0 1 = cc in omega arith)

    join : (i : ℕ) → First i ⊎ Sounds (hear b (part o)) os i → Sounds b (o ∷ os) i
    join i (inl x) = record { one = o; loud = here b o os x.1; there = x.0 }
    join i (inr x) = record { one = x.one; loud = later o x.loud; there = x.there }

    split : (i : ℕ) → Sounds b (o ∷ os) i → First i ⊎ Sounds (hear b (part o)) os i
    split i x = go (cases b o os x.one x.loud)
      where
        go : ((o ≡ x.one) × (quarrel b (part o) (second (kinds os)) ≡ true)) ⊎ Loud (hear b (part o)) os x.one → First i ⊎ Sounds (hear b (part o)) os i
        go (inl y) = inl (ap (λ o. o.place) y.0 ∙ x.there, y.1)
        go (inr y) = inr record { one = x.one; loud = y; there = x.there }

-- at the place i a `~=` of the chain quarrels
pub record Placed (os : List Op) (i : ℕ) : Type 0 where
  pub one : Op
  pub quarrels : Quarrels os one
  pub there : one.place ≡ i

-- the machine finds the lowest place that quarrels
pub run_lowest : (os : List Op) → Least (Placed os) (run start os).found
run_lowest os = least_alike {P = Sounds false os} (λ i x. record { one = x.one; quarrels = loud_words x.loud; there = x.there })
    (λ i x. record { one = x.one; loud = words_loud x.quarrels; there = x.there }) (rw (run_low false None os, wait_none (second (kinds os))) (low_lowest false os))

pub run_none : (os : List Op) → ((run start os).found ≡ None) ↔ ((x : Op) → ¬ Quarrels os x)
run_none os = let h = exactly_none (run_lowest os) in (
  (λ e x q. h.0 e x.place record { one = x; quarrels = q; there = refl }),
  (λ f. h.1 (λ i x. f x.one x.quarrels)),
)

pub run_some : (os : List Op) (i : ℕ)
    → ((run start os).found ≡ Some i) ↔ ((x : Op) × Quarrels os x × (x.place ≡ i) × ((y : Op) → Quarrels os y → i ≤ y.place))
run_some os i = let h = exactly_some i (run_lowest os) in (
  (λ e. let x = h.0 e in (x.0.one, x.0.quarrels, x.0.there, λ y q. x.1 y.place record { one = y; quarrels = q; there = refl })),
  (λ x. h.1 (record { one = x.0; quarrels = x.1; there = x.2 }, λ j y. omega (arith, x.3 y.one y.quarrels, y.there))),
)
