-- Lua's operators by class; their two rankings; the rule by which a `~=` quarrels, as a test; and: it passes if and only if each operator
-- takes as many operators under both rankings. Assumes nothing.
use mathlib.Core.Bool.{Bool, true, false, ◌&&◌, ◌||◌, not, cond, beq, false≢true, and-eq-true_iff}
use mathlib.Core.List.{List, [], ◌∷◌}
use mathlib.Core.Path.{◌≡◌, refl, ap, ◌∙◌, subst}
use Prim.Native.Nat.{ℕ, ◌<◌}
use lib.Dec.{eqb, ltb}
use borrow.Author.Tests.{lt-ltb, eqb-true}
use Rattle.stream.specs.Kinds as K
use Rattle.operators.specs.Ranks.{Row, row, binary, find, ranks}
use Rattle.operators.specs.declared.Ranking.TheVariants.{Crate, Manual}
use Rattle.operators.proofs.Laws.{each, rule, beq_at, find_kind}
use Rattle.grammar.proofs.Tests.{imp, imp_at}
use Rattle.quarrel.specs.Chains.{Op}
use Rattle.quarrel.proofs.Walks.{Ranking, step, walk, same, takes}

-- the classes of operators; what is no operator counts as a product
pub data Class : Type 0 where
  Or And Compare NotEqual BitOr BitXor BitAnd Shift Concat Sum Product Power : Class

pub record Named : Type 0 where
  pub name : ℕ
  pub its : Class

abbrev named : ℕ → Class → Named
named k c = record { name = k; its = c }

abbrev pub table : List Named
table =
    named K.Or Or
    ∷ named K.And And
    ∷ named K.Equal Compare
    ∷ named K.LessThan Compare
    ∷ named K.LessEqual Compare
    ∷ named K.GreaterThan Compare
    ∷ named K.GreaterEqual Compare
    ∷ named K.NotEqual NotEqual
    ∷ named K.BitOr BitOr
    ∷ named K.BitNotXor BitXor
    ∷ named K.BitAnd BitAnd
    ∷ named K.ShiftLeft Shift
    ∷ named K.ShiftRight Shift
    ∷ named K.Concat Concat
    ∷ named K.Add Sum
    ∷ named K.Minus Sum
    ∷ named K.Pow Power
    ∷ []

unfoldable pub look : ℕ → List Named → Class
look k [] = Product
look k (x ∷ xs) = elim (eqb k x.name) [ true ↦ x.its | false ↦ look k xs ]

-- the class of a token's kind
abbrev pub class : ℕ → Class
class k = look k table

-- the ranks, with that of NotEqual left open
abbrev pub left_of : ℕ → Class → ℕ
left_of n Or = 1
left_of n And = 2
left_of n Compare = 3
left_of n NotEqual = n
left_of n BitOr = 4
left_of n BitXor = 5
left_of n BitAnd = 6
left_of n Shift = 7
left_of n Concat = 9
left_of n Sum = 10
left_of n Product = 11
left_of n Power = 14

abbrev pub right_of : ℕ → Class → ℕ
right_of n Or = 1
right_of n And = 2
right_of n Compare = 3
right_of n NotEqual = n
right_of n BitOr = 4
right_of n BitXor = 5
right_of n BitAnd = 6
right_of n Shift = 7
right_of n Concat = 8
right_of n Sum = 10
right_of n Product = 11
right_of n Power = 13

-- the ranking of things that have a class, with n for NotEqual
abbrev pub ranking : {B : Type 0} → ℕ → (B → Class) → Ranking B
ranking n c = record { left = λ o. left_of n (c o); right = λ o. right_of n (c o) }

abbrev pub crate : Ranking Op
crate = ranking 10 (λ o. class o.sort)

abbrev pub manual : Ranking Op
manual = ranking 3 (λ o. class o.sort)

-- what the rule tells apart: And and Or, which cut; the other comparisons; NotEqual; the bit operators, shifts and Concat; Add and Minus; the rest
pub data Role : Type 0 where
  cut compare unequal bits sum rest : Role

abbrev pub role : Class → Role
role Or = cut
role And = cut
role Compare = compare
role NotEqual = unequal
role BitOr = bits
role BitXor = bits
role BitAnd = bits
role Shift = bits
role Concat = bits
role Sum = sum
role Product = rest
role Power = rest

-- whether one of the firsts (compare, bits) has been heard in the piece, after one more operator; after some
abbrev pub hear : Bool → Role → Bool
hear b cut = false
hear b compare = true
hear b unequal = b
hear b bits = true
hear b sum = b
hear b rest = b

abbrev pub heard : Bool → List Role → Bool
heard b [] = b
heard b (k ∷ s) = heard (hear b k) s

-- whether one of the seconds (bits, sum) comes before the next comparison and before the piece's end
abbrev pub next : Role → Bool → Bool
next cut q = false
next compare q = false
next unequal q = false
next bits q = true
next sum q = true
next rest q = q

abbrev pub second : List Role → Bool
second [] = false
second (k ∷ s) = next k (second s)

-- no NotEqual quarrels, as a test
abbrev pub quarrel : Bool → Role → Bool → Bool
quarrel b cut q = false
quarrel b compare q = false
quarrel b unequal q = b || q
quarrel b bits q = false
quarrel b sum q = false
quarrel b rest q = false

abbrev pub clear : Bool → List Role → Bool
clear b [] = true
clear b (k ∷ s) = not (quarrel b k (second s)) && clear (hear b k) s

-- tests of finitely many cases
beq_refl : (a : Bool) → beq a a ≡ true
beq_refl true = refl
beq_refl false = refl

every : (Class → Bool) → Bool
every f = f Or && (f And && (f Compare && (f NotEqual && (f BitOr && (f BitXor && (f BitAnd && (f Shift && (f Concat && (f Sum && (f Product && f Power))))))))))

at : (f : Class → Bool) → every f ≡ true → (o : Class) → f o ≡ true
unfolding every
at f h o =
    let a = (and-eq-true_iff (f Or) _).0 h in
    let b = (and-eq-true_iff (f And) _).0 a.1 in
    let c = (and-eq-true_iff (f Compare) _).0 b.1 in
    let d = (and-eq-true_iff (f NotEqual) _).0 c.1 in
    let e = (and-eq-true_iff (f BitOr) _).0 d.1 in
    let g = (and-eq-true_iff (f BitXor) _).0 e.1 in
    let i = (and-eq-true_iff (f BitAnd) _).0 g.1 in
    let j = (and-eq-true_iff (f Shift) _).0 i.1 in
    let k = (and-eq-true_iff (f Concat) _).0 j.1 in
    let l = (and-eq-true_iff (f Sum) _).0 k.1 in
    let m = (and-eq-true_iff (f Product) _).0 l.1 in
    elim o as (λ x. f x ≡ true) [ Or ↦ a.0 | And ↦ b.0 | Compare ↦ c.0 | NotEqual ↦ d.0 | BitOr ↦ e.0 | BitXor ↦ g.0 | BitAnd ↦ i.0 | Shift ↦ j.0 | Concat ↦ k.0 | Sum ↦ l.0 | Product ↦ m.0 | Power ↦ m.1 ]

both : (Bool → Bool) → Bool
both f = f true && f false

both_at : (f : Bool → Bool) → both f ≡ true → (b : Bool) → f b ≡ true
unfolding both
both_at f h true = ((and-eq-true_iff (f true) (f false)).0 h).0
both_at f h false = ((and-eq-true_iff (f true) (f false)).0 h).1

-- the two rankings of classes
abbrev C : Ranking Class
C = ranking 10 (λ o. o)

abbrev M : Ranking Class
M = ranking 3 (λ o. o)

-- one step of the comparison with the rule, for operators o and x and what is known of those after x: whether o's two right operands agree on them (w),
-- `second` (q), and `clear` with nothing heard and with something (c and d)
abbrev clears : Bool → Role → Bool → Bool → Bool → Bool
clears b k q c d = not (quarrel b k q) && cond (hear b k) d c

Step : Class → Class → Bool → Bool → Bool → Bool → Bool
Step o x w q c d = imp (imp d c && beq (w && c) (clears false (role o) q c d))
    (beq (step (takes C o x) (takes M o x) w && clears false (role x) q c d)
    (not (quarrel false (role o) (next (role x) q)) && clears (hear false (role o)) (role x) q c d))

steps : (o x : Class) (w q c d : Bool) → Step o x w q c d ≡ true
unfolding every both Step imp
steps o x w q c d =
    both_at (Step o x w q c) (both_at (λ c. both (Step o x w q c)) (both_at (λ q. both (λ c. both (Step o x w q c))) (both_at (λ w. both (λ q. both (λ c. both (Step o x w q c))))
    (at (λ x. both (λ w. both (λ q. both (λ c. both (Step o x w q c))))) (at (λ o. every (λ x. both (λ w. both (λ q. both (λ c. both (Step o x w q c)))))) refl o) x) w) q) c) d

-- what quarrels with nothing heard quarrels with something heard
clear_less : (s : List Role) → clear true s ≡ true → clear false s ≡ true
clear_less [] h = refl
clear_less (cut ∷ s) h = h
clear_less (compare ∷ s) h = h
clear_less (unequal ∷ s) h = absurd (false≢true h)
clear_less (bits ∷ s) h = h
clear_less (sum ∷ s) h = clear_less s h
clear_less (rest ∷ s) h = clear_less s h

imp_of : (a b : Bool) → (a ≡ true → b ≡ true) → imp a b ≡ true
unfolding imp
imp_of true b f = f refl
imp_of false b f = refl

clear_cond : (b : Bool) (s : List Role) → clear b s ≡ cond b (clear true s) (clear false s)
clear_cond true s = refl
clear_cond false s = refl

alone : (k : Role) → true ≡ clear false (k ∷ [])
alone = elim [ cut ↦ refl | compare ↦ refl | unequal ↦ refl | bits ↦ refl | sum ↦ refl | rest ↦ refl ]

step_law : (o x : Class) (w q c d : Bool) → imp d c ≡ true → w && c ≡ clears false (role o) q c d
    → step (takes C o x) (takes M o x) w && clears false (role x) q c d ≡ not (quarrel false (role o) (next (role x) q)) && clears (hear false (role o)) (role x) q c d
unfolding Step
step_law o x w q c d h k = beq_at _ _ (imp_at _ _ (steps o x w q c d) (rw (h, k) (beq_refl (clears false (role o) q c d))))

-- the operator's role, and those of some
abbrev pub part : Op → Role
part o = role (class o.sort)

abbrev pub kinds : List Op → List Role
kinds [] = []
kinds (o ∷ s) = part o ∷ kinds s

walk_clear : (o : Op) (s : List Op) → walk (takes crate o) (takes manual o) s && clear false (kinds s) ≡ clear false (part o ∷ kinds s)
walk_clear o [] = alone (part o)
walk_clear o (x ∷ s) =
    let t = kinds s in
    let k = hear false (part o) in
    rw (clear_cond (hear false (part x)) t, clear_cond (hear k (part x)) t)
    (step_law (class o.sort) (class x.sort) (walk (takes crate o) (takes manual o) s) (second t) (clear false t) (clear true t)
    (imp_of (clear true t) (clear false t) (clear_less t))
    (walk_clear o s ∙ ap (λ z. not (quarrel false (part o) (second t)) && z) (clear_cond k t)))

pub same_clear : (s : List Op) → same (takes crate) (takes manual) s ≡ clear false (kinds s)
same_clear [] = refl
same_clear (o ∷ s) = rw (same_clear s) (walk_clear o s)

-- the classes' ranks are the table's, each row tested
tested : (Row → ℕ) → (Class → ℕ) → Row → Row → Bool
tested f g x y = imp (ltb 0 x.left) (eqb (f x) (g (class x.kind)))

rank_at : (f : Row → ℕ) (g : Class → ℕ) (k : ℕ) (rows : List Row) → each (tested f g) rows rows ≡ true → tested f g (row k 0 0 0) (row k 0 0 0) ≡ true → 0 < (find k rows).left → f (find k rows) ≡ g (class k)
unfolding tested
rank_at f g k rows h d l =
    eqb-true _ _ (subst (λ z. eqb (f (find k rows)) (g (class z)) ≡ true) (find_kind k rows) (imp_at _ _ (rule (tested f g) k rows rows h d) (lt-ltb _ _ l)))

pub left_class : (k : ℕ) → 0 < (ranks Crate).left k → (ranks Crate).left k ≡ left_of 10 (class k)
unfolding imp tested look
left_class k l = rank_at (λ x. x.left) (left_of 10) k (binary 10) refl refl l

pub right_class : (k : ℕ) → 0 < (ranks Crate).left k → (ranks Crate).right k ≡ right_of 10 (class k)
unfolding imp tested look
right_class k l = rank_at (λ x. x.right) (right_of 10) k (binary 10) refl refl l

pub left_manual : (k : ℕ) → 0 < (ranks Manual).left k → (ranks Manual).left k ≡ left_of 3 (class k)
unfolding imp tested look
left_manual k l = rank_at (λ x. x.left) (left_of 3) k (binary 3) refl refl l

pub right_manual : (k : ℕ) → 0 < (ranks Manual).left k → (ranks Manual).right k ≡ right_of 3 (class k)
unfolding imp tested look
right_manual k l = rank_at (λ x. x.right) (right_of 3) k (binary 3) refl refl l
