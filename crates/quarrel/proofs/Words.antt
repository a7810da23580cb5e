-- The rule in its own words is the rule as a test over the operators' roles. Assumes nothing.
use mathlib.Core.Path.{◌≡◌, refl, sym, ap, ◌∙◌}
use mathlib.Core.Bool.{Bool, true, false, ◌&&◌, ◌||◌, not, beq, false≢true, and-eq-true_iff}
use mathlib.Core.List.{List, [], ◌∷◌, ◌++◌}
use mathlib.Core.Logic.{◌↔◌, ◌⊎◌, inl, inr}
use Prim.Native.Nat.{ℕ, zero, suc, ◌≤◌, ◌<◌}
use native.Mathlib.Omega.{arith}
use lib.Dec.{eqb, ltb}
use borrow.Author.Tests.{eq-eqb, ne_eqb, eqb-true, ltb-true, ltb-false}
use Rattle.stream.specs.Kinds.{NotEqual}
use Rattle.operators.proofs.Laws.{beq_at}
use Rattle.grammar.specs.Member.{member}
use Rattle.quarrel.specs.Chains.{Op}
use Rattle.quarrel.specs.Rule.{cuts, firsts, seconds, halts, None, nothing, other, Stands, Comes, Quarrels}
use Rattle.quarrel.proofs.Classes.{Product, Named, look, table, class, Role, cut, compare, unequal, bits, sum, rest, role, hear, heard, next, second, quarrel, clear, part, kinds}

-- which roles the four lists name
abbrev pub cutting : Role → Bool
cutting cut = true
cutting compare = false
cutting unequal = false
cutting bits = false
cutting sum = false
cutting rest = false

abbrev pub leading : Role → Bool
leading cut = false
leading compare = true
leading unequal = false
leading bits = true
leading sum = false
leading rest = false

abbrev pub following : Role → Bool
following cut = false
following compare = false
following unequal = false
following bits = true
following sum = true
following rest = false

abbrev halting : Role → Bool
halting cut = false
halting compare = true
halting unequal = true
halting bits = false
halting sum = false
halting rest = false

abbrev pub differing : Role → Bool
differing cut = false
differing compare = false
differing unequal = true
differing bits = false
differing sum = false
differing rest = false

-- a test of a kind: below 60 each is tried, and above there is no operator
below : (ℕ → Bool) → ℕ → Bool
below f zero = true
below f (suc n) = f n && below f n

below_at : (f : ℕ → Bool) (n : ℕ) → below f n ≡ true → (k : ℕ) → k < n → f k ≡ true
unfolding below
below_at f zero h k l = absurd (omega arith)
below_at f (suc n) h k l = go (eqb k n) refl ((and-eq-true_iff (f n) (below f n)).0 h) (below_at f n ((and-eq-true_iff (f n) (below f n)).0 h).1 k)
  where
    go : (b : Bool) → eqb k n ≡ b → (f n ≡ true) × (below f n ≡ true) → (k < n → f k ≡ true) → f k ≡ true
    go true e p g = rw (eqb-true k n e) p.0
    go false e p g = g (less (ne e))
      where
        ne : eqb k n ≡ false → k ≡ n → ⊥
        ne e q = false≢true (sym e ∙ eq-eqb k n q)

        less : (k ≡ n → ⊥) → k < n
        less n = omega arith

small : List ℕ → Bool
small [] = true
small (x ∷ xs) = ltb x 60 && small xs

member_high : (k : ℕ) → 60 ≤ k → (ks : List ℕ) → small ks ≡ true → member k ks ≡ false
unfolding small
member_high k h [] s = refl
member_high k h (x ∷ xs) s =
    let a = (and-eq-true_iff (ltb x 60) (small xs)).0 s in
    rw (ne_eqb k x (λ e. omega (arith, ltb-true x 60 a.0))) (member_high k h xs a.1)

low : List Named → Bool
low [] = true
low (x ∷ xs) = ltb x.name 60 && low xs

look_high : (k : ℕ) → 60 ≤ k → (xs : List Named) → low xs ≡ true → look k xs ≡ Product
unfolding low look
look_high k h [] s = refl
look_high k h (x ∷ xs) s =
    let a = (and-eq-true_iff (ltb x.name 60) (low xs)).0 s in
    rw (look, ne_eqb k x.name (λ e. omega (arith, ltb-true x.name 60 a.0))) (look_high k h xs a.1)

told : (Role → Bool) → List ℕ → ℕ → Bool
told f ks k = beq (member k ks) (f (role (class k)))

words : (f : Role → Bool) (ks : List ℕ) → below (told f ks) 60 ≡ true → small ks ≡ true → f rest ≡ false → (k : ℕ) → member k ks ≡ f (role (class k))
unfolding told low look
words f ks h s r k = go (ltb k 60) refl
  where
    go : (b : Bool) → ltb k 60 ≡ b → member k ks ≡ f (role (class k))
    go true e = beq_at _ _ (below_at (told f ks) 60 h k (ltb-true k 60 e))
    go false e = let l = ltb-false k 60 e in rw (member_high k l ks s, look_high k l table refl) (sym r)

pub cut_words : (k : ℕ) → member k cuts ≡ cutting (role (class k))
unfolding told below small look
cut_words = words cutting cuts refl refl refl

pub first_words : (k : ℕ) → member k firsts ≡ leading (role (class k))
unfolding told below small look
first_words = words leading firsts refl refl refl

pub second_words : (k : ℕ) → member k seconds ≡ following (role (class k))
unfolding told below small look
second_words = words following seconds refl refl refl

halt_words : (k : ℕ) → member k halts ≡ halting (role (class k))
unfolding told below small look
halt_words = words halting halts refl refl refl

pub unequal_words : (k : ℕ) → member k (NotEqual ∷ []) ≡ differing (role (class k))
unfolding told below small look
unequal_words = words differing (NotEqual ∷ []) refl refl refl

-- what an operator does to the test, by what it is
next_at : (k : Role) (q : Bool) → following k ≡ true → next k q ≡ true
next_at cut q h = h
next_at compare q h = h
next_at unequal q h = h
next_at bits q h = refl
next_at sum q h = refl
next_at rest q h = absurd (false≢true h)

next_on : (k : Role) (q : Bool) → cutting k ≡ false → halting k ≡ false → q ≡ true → next k q ≡ true
next_on cut q c h e = sym c
next_on compare q c h e = sym h
next_on unequal q c h e = sym h
next_on bits q c h e = refl
next_on sum q c h e = refl
next_on rest q c h e = e

hear_at : (k : Role) (b : Bool) → leading k ≡ true → hear b k ≡ true
hear_at cut b h = h
hear_at compare b h = refl
hear_at unequal b h = absurd (false≢true h)
hear_at bits b h = refl
hear_at sum b h = absurd (false≢true h)
hear_at rest b h = absurd (false≢true h)

hear_on : (k : Role) → cutting k ≡ false → hear true k ≡ true
hear_on cut h = sym h
hear_on compare h = refl
hear_on unequal h = refl
hear_on bits h = refl
hear_on sum h = refl
hear_on rest h = refl

second_at : (es : List Op) (o : Op) (ls : List Op) → None cuts es → None halts es → member o.sort seconds ≡ true → second (kinds (es ++ o ∷ ls)) ≡ true
second_at [] o ls c h m = next_at (part o) (second (kinds ls)) (sym (second_words o.sort) ∙ m)
second_at (e ∷ es) o ls (other c n) (other h l) m =
    next_on (part e) (second (kinds (es ++ o ∷ ls))) (sym (cut_words e.sort) ∙ c) (sym (halt_words e.sort) ∙ h) (second_at es o ls n l m)

second_to : (os : List Op) → second (kinds os) ≡ true → Comes os
second_to [] h = absurd (false≢true h)
second_to (o ∷ os) h = go (part o) refl h (second_to os)
  where
    found : following (part o) ≡ true → Comes (o ∷ os)
    found e = record { early = []; one = o; late = os; split = refl; is = second_words o.sort ∙ e; uncut = nothing; unhalted = nothing }

    go : (k : Role) → part o ≡ k → next k (second (kinds os)) ≡ true → (second (kinds os) ≡ true → Comes os) → Comes (o ∷ os)
    go cut q h f = absurd (false≢true h)
    go compare q h f = absurd (false≢true h)
    go unequal q h f = absurd (false≢true h)
    go bits q h f = found (ap following q)
    go sum q h f = found (ap following q)
    go rest q h f = let x = f h in
        record {
          early = o ∷ x.early;
          one = x.one;
          late = x.late;
          split = ap (λ s. o ∷ s) x.split;
          is = x.is;
          uncut = other (cut_words o.sort ∙ ap cutting q) x.uncut;
          unhalted = other (halt_words o.sort ∙ ap halting q) x.unhalted;
        }

heard_on : (os : List Op) → None cuts os → heard true (kinds os) ≡ true
heard_on [] n = refl
heard_on (o ∷ os) (other c n) = ap (λ b. heard b (kinds os)) (hear_on (part o) (sym (cut_words o.sort) ∙ c)) ∙ heard_on os n

heard_at : (b : Bool) (es : List Op) (o : Op) (ls : List Op) → member o.sort firsts ≡ true → None cuts ls → heard b (kinds (es ++ o ∷ ls)) ≡ true
heard_at b [] o ls m n = ap (λ b. heard b (kinds ls)) (hear_at (part o) b (sym (first_words o.sort) ∙ m)) ∙ heard_on ls n
heard_at b (e ∷ es) o ls m n = heard_at (hear b (part e)) es o ls m n

-- heard: one of the firsts stands among them, or was heard before and no cut is among them
abbrev Heard : Bool → List Op → Type 0
Heard b os = Stands os ⊎ ((b ≡ true) × None cuts os)

further : {os : List Op} (o : Op) → Stands os → Stands (o ∷ os)
further o x = record { early = o ∷ x.early; one = x.one; late = x.late; split = ap (λ s. o ∷ s) x.split; is = x.is; uncut = x.uncut }

heard_to : (b : Bool) (os : List Op) → heard b (kinds os) ≡ true → Heard b os
heard_to b [] h = inr (h, nothing)
heard_to b (o ∷ os) h = go (part o) refl (heard_to (hear b (part o)) os h)
  where
    first : leading (part o) ≡ true → None cuts os → Heard b (o ∷ os)
    first e n = inl record { early = []; one = o; late = os; split = refl; is = first_words o.sort ∙ e; uncut = n }

    pass : cutting (part o) ≡ false → (b ≡ true) × None cuts os → Heard b (o ∷ os)
    pass e x = inr (x.0, other (cut_words o.sort ∙ e) x.1)

    go : (k : Role) → part o ≡ k → Heard (hear b k) os → Heard b (o ∷ os)
    go cut q (inl x) = inl (further o x)
    go cut q (inr x) = absurd (false≢true x.0)
    go compare q (inl x) = inl (further o x)
    go compare q (inr x) = first (ap leading q) x.1
    go unequal q (inl x) = inl (further o x)
    go unequal q (inr x) = pass (ap cutting q) x
    go bits q (inl x) = inl (further o x)
    go bits q (inr x) = first (ap leading q) x.1
    go sum q (inl x) = inl (further o x)
    go sum q (inr x) = pass (ap cutting q) x
    go rest q (inl x) = inl (further o x)
    go rest q (inr x) = pass (ap cutting q) x

-- a `~=` quarrels, by the test; b: one of the firsts was heard before
pub record Loud (b : Bool) (os : List Op) (x : Op) : Type 0 where
  pub before : List Op
  pub after : List Op
  pub split : os ≡ before ++ x ∷ after
  pub is : x.sort ≡ NotEqual
  pub loud : heard b (kinds before) || second (kinds after) ≡ true

or_true : (a : Bool) → a || true ≡ true
or_true true = refl
or_true false = refl

pub words_loud : {os : List Op} {x : Op} → Quarrels os x → Loud false os x
words_loud q = record { before = q.before; after = q.after; split = q.split; is = q.unequal; loud = loud q.before q.after q.why }
  where
    loud : (t u : List Op) → Stands t ⊎ Comes u → heard false (kinds t) || second (kinds u) ≡ true
    loud t u (inl y) = rw y.split (rw (heard_at false y.early y.one y.late y.is y.uncut) refl)
    loud t u (inr y) = rw y.split (rw (second_at y.early y.one y.late y.uncut y.unhalted y.is) (or_true (heard false (kinds t))))

pub loud_words : {os : List Op} {x : Op} → Loud false os x → Quarrels os x
loud_words q = record { before = q.before; after = q.after; split = q.split; unequal = q.is; why = why q.before q.after (heard false (kinds q.before)) refl q.loud }
  where
    sure : {t : List Op} → Heard false t → Stands t
    sure (inl y) = y
    sure (inr y) = absurd (false≢true y.0)

    why : (t u : List Op) (b : Bool) → heard false (kinds t) ≡ b → b || second (kinds u) ≡ true → Stands t ⊎ Comes u
    why t u true e l = inl (sure (heard_to false t e))
    why t u false e l = inr (second_to u l)

-- a `~=` that quarrels is the first operator, or quarrels among the others
unequal_part : (o : Op) → o.sort ≡ NotEqual → part o ≡ unequal
unfolding look
unequal_part o e = rw e refl

alone : (a : Bool) → a || false ≡ true → a ≡ true
alone true h = refl
alone false h = h

pub here : (b : Bool) (o : Op) (os : List Op) → quarrel b (part o) (second (kinds os)) ≡ true → Loud b (o ∷ os) o
here b o os h = go (part o) refl h
  where
    go : (k : Role) → part o ≡ k → quarrel b k (second (kinds os)) ≡ true → Loud b (o ∷ os) o
    go cut q h = absurd (false≢true h)
    go compare q h = absurd (false≢true h)
    go unequal q h = record { before = []; after = os; split = refl; is = eqb-true o.sort NotEqual (alone _ (unequal_words o.sort ∙ ap differing q)); loud = h }
    go bits q h = absurd (false≢true h)
    go sum q h = absurd (false≢true h)
    go rest q h = absurd (false≢true h)

pub later : {b : Bool} (o : Op) {os : List Op} {x : Op} → Loud (hear b (part o)) os x → Loud b (o ∷ os) x
later o q = record { before = o ∷ q.before; after = q.after; split = ap (λ s. o ∷ s) q.split; is = q.is; loud = q.loud }

pub empty : {b : Bool} {x : Op} → ¬ Loud b [] x
empty {b} {x} q = go q.before q.split
  where
    go : (t : List Op) → [] ≡ t ++ x ∷ q.after → ⊥
    go [] e = let z : ◌≡◌ {A = ℕ} 0 1 = cc in omega arith
    go (y ∷ t) e = let z : ◌≡◌ {A = ℕ} 0 1 = cc in omega arith

pub cases : (b : Bool) (o : Op) (os : List Op) (x : Op) → Loud b (o ∷ os) x → ((o ≡ x) × (quarrel b (part o) (second (kinds os)) ≡ true)) ⊎ Loud (hear b (part o)) os x
cases b o os x q = go q.before q.after q.split q.loud
  where
    go : (t u : List Op) → o ∷ os ≡ t ++ x ∷ u → heard b (kinds t) || second (kinds u) ≡ true → ((o ≡ x) × (quarrel b (part o) (second (kinds os)) ≡ true)) ⊎ Loud (hear b (part o)) os x
    go [] u e l =
        let d : o ≡ x = cc in
        let f : os ≡ u = cc in
        inl (d, rw (unequal_part o (ap (λ o. o.sort) d ∙ q.is), f) l)
    go (y ∷ t) u e l =
        let d : o ≡ y = cc in
        inr (record { before = t; after = u; split = cc; is = q.is; loud = rw d l })

not_false : (a : Bool) → not a ≡ true → a ≡ false
not_false true h = sym h
not_false false h = refl

clear_loud : (b : Bool) (os : List Op) → clear b (kinds os) ≡ true → (x : Op) → ¬ Loud b os x
clear_loud b [] h x q = empty q
clear_loud b (o ∷ os) h x q = go ((and-eq-true_iff (not (quarrel b (part o) (second (kinds os)))) (clear (hear b (part o)) (kinds os))).0 h).0
    (clear_loud (hear b (part o)) os ((and-eq-true_iff (not (quarrel b (part o) (second (kinds os)))) (clear (hear b (part o)) (kinds os))).0 h).1 x) (cases b o os x q)
  where
    go : not (quarrel b (part o) (second (kinds os))) ≡ true → ¬ Loud (hear b (part o)) os x → ((o ≡ x) × (quarrel b (part o) (second (kinds os)) ≡ true)) ⊎ Loud (hear b (part o)) os x → ⊥
    go n f (inl y) = false≢true (sym (not_false _ n) ∙ y.1)
    go n f (inr y) = f y

loud_clear : (b : Bool) (os : List Op) → ((x : Op) → ¬ Loud b os x) → clear b (kinds os) ≡ true
loud_clear b [] f = refl
loud_clear b (o ∷ os) f = go (quarrel b (part o) (second (kinds os))) refl (loud_clear (hear b (part o)) os (λ x q. f x (later o q)))
  where
    go : (a : Bool) → quarrel b (part o) (second (kinds os)) ≡ a → clear (hear b (part o)) (kinds os) ≡ true → not a && clear (hear b (part o)) (kinds os) ≡ true
    go true q h = absurd (f o (here b o os q))
    go false q h = h

-- the test passes if and only if no `~=` quarrels
pub clear_words : (os : List Op) → (clear false (kinds os) ≡ true) ↔ ((x : Op) → ¬ Quarrels os x)
clear_words os = ((λ h x q. clear_loud false os h x (words_loud q)), (λ f. loud_clear false os (λ x q. f x (loud_words q))))
