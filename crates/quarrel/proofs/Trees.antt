-- The crate's ranking and the manual's give a stream one tree if and only if no `~=` of it quarrels. Assumes nothing.
use mathlib.Core.Path.{◌≡◌, refl, sym, ap, ap₂, ◌∙◌, subst}
use mathlib.Core.Bool.{Bool, true, ◌&&◌, beq}
use mathlib.Core.List.{List, [], ◌∷◌}
use mathlib.Core.Logic.{◌↔◌}
use Prim.Native.Nat.{ℕ, suc, ◌<◌}
use native.Mathlib.Omega.{arith}
use lib.Dec.{leb, ltb}
use borrow.Author.Tests.{lt-ltb, le-ltb, ltb-true, ltb-false, leb-true}
use Rattle.operators.specs.Ranks.{Row, binary, ranked, ranks}
use Rattle.operators.specs.declared.Ranking.TheVariants.{Crate, Manual}
use Rattle.operators.proofs.Laws.{each, rule, beq_at, same_operators}
use Rattle.tree.specs.Forest.{Forest}
use Rattle.grammar.specs.Grammar.{Chunk}
use Rattle.grammar.proofs.Tests.{imp, imp_at}
use Rattle.grammar.proofs.Same.{to_terms, from_terms}
use Rattle.grammar.proofs.Theorems.{unique, is_ranked}
use Rattle.quarrel.specs.Chains.{Op, chains}
use Rattle.quarrel.specs.Rule.{Quarrels, Quarrelling, In, here, there}
use Rattle.quarrel.proofs.Walks.{step, walk, same, takes}
use Rattle.quarrel.proofs.Classes.{crate, manual, same_clear, left_class, right_class, left_manual, right_manual}
use Rattle.quarrel.proofs.Words.{clear_words}
use Rattle.quarrel.proofs.Fit.{Fits}
use Rattle.quarrel.proofs.Agree.{Lawful, pass, Over, Same, All, both_fits, moved_fits}
use Rattle.quarrel.proofs.Marks.{fits}
use Rattle.quarrel.proofs.Carry.{carry}

-- the two tables keep what is asked of a ranking: each row tested
nears : Row → Row → Bool
nears x y = leb x.left (suc x.right)

lows : Row → Row → Bool
lows x y = leb x.right 13

highs : Row → Row → Bool
highs x y = imp (ltb 12 x.left) (ltb 13 x.left)

keeps : (rows : List Row) → each nears rows rows ≡ true → each lows rows rows ≡ true → each highs rows rows ≡ true → Lawful (ranked rows)
unfolding imp nears lows highs
keeps rows a b c =
    record {
      near = λ k. leb-true _ _ (rule nears k rows rows a refl);
      low = λ k. leb-true _ _ (rule lows k rows rows b refl);
      high = λ k h. ltb-true _ _ (imp_at _ _ (rule highs k rows rows c refl) (lt-ltb _ _ h));
    }

crate_keeps : Lawful (ranks Crate)
unfolding imp nears lows highs
crate_keeps = keeps (binary 10) refl refl refl

manual_keeps : Lawful (ranks Manual)
unfolding imp nears lows highs
manual_keeps = keeps (binary 3) refl refl refl

-- the same operators stand above a unary operator's operand
same_highs : (k : ℕ) → ltb 12 ((ranks Crate).left k) ≡ ltb 12 ((ranks Manual).left k)
same_highs k = beq_at _ _ (rule (λ x y. beq (ltb 12 x.left) (ltb 12 y.left)) k (binary 10) (binary 3) refl refl)

none_too : (k : ℕ) → (ranks Crate).left k ≡ 0 → (ranks Manual).left k ≡ 0
none_too k h = omega (arith, ltb-false 0 ((ranks Manual).left k) (sym (same_operators k) ∙ le-ltb 0 ((ranks Crate).left k) (omega (arith, h))))

real : (k : ℕ) → 0 < (ranks Crate).left k → 0 < (ranks Manual).left k
real k h = ltb-true _ _ (sym (same_operators k) ∙ lt-ltb _ _ h)

-- of operators the ranks are their class's
walk_class : (o : Op) (os : List Op) → 0 < (ranks Crate).left o.sort → Over (ranks Crate) 0 os
    → walk (pass (ranks Crate) ((ranks Crate).right o.sort)) (pass (ranks Manual) ((ranks Manual).right o.sort)) os ≡ walk (takes crate o) (takes manual o) os
walk_class o [] h x = refl
walk_class o (y ∷ os) h x =
    let p : pass (ranks Crate) ((ranks Crate).right o.sort) y ≡ takes crate o y = ap₂ ltb (right_class o.sort h) (left_class y.sort x.0) in
    let q : pass (ranks Manual) ((ranks Manual).right o.sort) y ≡ takes manual o y = ap₂ ltb (right_manual o.sort (real o.sort h)) (left_manual y.sort (real y.sort x.0)) in
    ap₂ (λ a b. step a b (walk (pass (ranks Crate) ((ranks Crate).right o.sort)) (pass (ranks Manual) ((ranks Manual).right o.sort)) os)) p q ∙ ap (step (takes crate o y) (takes manual o y)) (walk_class o os h x.1)

same_class : (os : List Op) → Over (ranks Crate) 0 os
    → same (λ o. pass (ranks Crate) ((ranks Crate).right o.sort)) (λ o. pass (ranks Manual) ((ranks Manual).right o.sort)) os ≡ same (takes crate) (takes manual) os
same_class [] x = refl
same_class (o ∷ os) x = ap₂ ◌&&◌ (walk_class o os x.0 x.1) (same_class os x.1)

abbrev Good : List Op → Type 0
Good c = (x : Op) → ¬ Quarrels c x

good : (c : List Op) → Over (ranks Crate) 0 c → Same (ranks Crate) (ranks Manual) c ↔ Good c
good c x =
    let q = same_class c x ∙ same_clear c in
    let w = clear_words c in
    ((λ h. w.0 (sym q ∙ h)), (λ h. q ∙ w.1 h))

all_in : {c : List Op} {cs : List (List Op)} → All Good cs → In c cs → Good c
all_in x here = x.0
all_in x (there i) = all_in x.1 i

in_all : (cs : List (List Op)) → ((c : List Op) → In c cs → Good c) → All Good cs
in_all [] f = tt
in_all (c ∷ cs) f = (f c here, in_all cs (λ d i. f d (there i)))

-- where no `~=` quarrels, the manual's ranking derives the crate's tree
pub quiet : (s : List ℕ) (g : ℕ) {t : Forest} → Chunk s (ranks Crate) g t → ((i : ℕ) → ¬ Quarrelling s t i) → Chunk s (ranks Manual) g t
quiet s g {t} c f =
    let c' = to_terms s (ranks Crate) (is_ranked Crate) c in
    let a : All Good (chains s t) = in_all (chains s t) (λ e i o z. f o.place record { chain = e; its = i; one = o; quarrels = z; there = refl }) in
    let y = moved_fits s (ranks Crate) (ranks Manual) crate_keeps manual_keeps same_operators same_highs Good good (fits s (ranks Crate) c') a in
    from_terms s (ranks Manual) (is_ranked Manual) (carry s (ranks Crate) (ranks Manual) none_too c' y)

-- the two rankings give a stream one tree if and only if no `~=` of it quarrels
pub differ : (s : List ℕ) (g : ℕ) {t u : Forest} → Chunk s (ranks Crate) g t → Chunk s (ranks Manual) g u → (t ≡ u) ↔ ((i : ℕ) → ¬ Quarrelling s t i)
differ s g {t} {u} c d = (
  (λ q i z.
      let x : Fits s (ranks Crate) t = fits s (ranks Crate) (to_terms s (ranks Crate) (is_ranked Crate) c) in
      let y : Fits s (ranks Manual) t = subst (Fits s (ranks Manual)) (sym q) (fits s (ranks Manual) (to_terms s (ranks Manual) (is_ranked Manual) d)) in
      all_in (both_fits s (ranks Crate) (ranks Manual) crate_keeps manual_keeps same_operators same_highs Good good x y) z.its z.one z.quarrels),
  (λ f. unique s (ranks Manual) g (is_ranked Manual) (quiet s g c f) d),
)
