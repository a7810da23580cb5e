-- Each marked script is answered as 01 says, shown from the definitions: one computed list, and one claim that covers it. Assumes nothing.
use mathlib.Core.Path.{◌≡◌, refl, sym, ap, subst}
use mathlib.Core.Bool.{Bool, true, ◌&&◌}
use mathlib.Core.List.{List, ◌++◌, map, Memᴰ, head-eq_of_cons-eq, tail-eq_of_cons-eq}
use mathlib.Core.Logic.{by_cases}
use Rattle.std.specs.Prelude.{Option, Some, None}
use Prim.Native.Nat.{ℕ, zero, suc, ◌*◌, ◌≤◌, ◌<◌}
use native.Mathlib.Decide.{dec_lt}
use native.Mathlib.Nat.{zero-add}
use native.Mathlib.Omega.{arith}
use lib.ListN.{length, drop}
use borrow.Author.Tests.{le-leb}
use Rattle.stream.specs.Words.{records, line, word}
use Rattle.stream.specs.Formed.{most, good, sized, Formed}
use Rattle.operators.specs.Ranks.{ranks, find}
use Rattle.operators.specs.declared.Ranking.TheVariants.{Crate, Manual}
use Rattle.tree.specs.Forest.{Forest, size, flat}
use Rattle.tree.proofs.Lay.{length_flat}
use Rattle.grammar.specs.Grammar.{Chunk}
use Rattle.grammar.specs.Reading.{Out, fine, fail, read}
use Rattle.grammar.specs.Levels.{chunk}
use Rattle.grammar.specs.Productions.{explist, retstat, block, parlist, funcbody, field, table, args, suffix, primary, suffixed, simple, head, tail, tails, expression}
use Rattle.grammar.specs.Productions.{ifstat, whilestat, dostat, forstat, repeatstat, functionstat, localfunction, localstat, label, breakstat, gotostat, exprstat, statement}
use Rattle.grammar.proofs.Tests.{and_left, and_right}
use Rattle.grammar.proofs.Theorems.{sound, is_ranked}
use Rattle.grammar.proofs.Sides.{refused_none}
use Rattle.quarrel.proofs.Classes.{look}
use Rattle.quarrel.proofs.Noted.{nested, found_none, found_some}
use Rattle.quarrel.proofs.Trees.{differ}
use Rattle.parser.specs.declared.Answer.{Answer}
use Rattle.parser.specs.Answered.{Answered, counting}
use Rattle.agreed.specs.Agreed.{Agreed}
use Rattle.agreed.specs.Scripts.{Reading, crate, agreed, Due, accepted, refused, Script, Promised, Given, Shown, marked_scripts}

-- a stream's form as a test
goods : List ℕ → ℕ → Bool
goods s zero = true
goods s (suc n) = good s n && goods s n

well : List ℕ → Bool
well s = sized s && goods s (records s)

each_good : (s : List ℕ) (n : ℕ) → goods s n ≡ true → (p : ℕ) → p < n → good s p ≡ true
unfolding goods
each_good s zero h p l = absurd (omega arith)
each_good s (suc n) h p l =
    by_cases (dec_lt p n) (λ k. each_good s n (and_right (good s n) _ h) p k) (λ k. let e : n ≡ p = omega arith in subst (λ (q : ℕ). good s q ≡ true) e (and_left (good s n) _ h))

formed : (s : List ℕ) → well s ≡ true → Formed s
unfolding well
formed s h = record { size = and_left (sized s) _ h; each = each_good s (records s) (and_right (sized s) _ h) }

-- what the definitions tell, as a function: for one ranking; by the quarrel rule; for both
alone : Out → Due
alone (fine p m t v) = accepted (flat t)
alone (fail e) = refused e.number e.line e.found e.expected

ruled : List ℕ → Forest → Option ℕ → Due
ruled s t None = accepted (flat t)
ruled s t (Some i) = refused 8 (line s i) i 0

both : List ℕ → Out → Out → Due
both s (fail e) o = alone (fail e)
both s (fine p m t v) (fail e) = alone (fail e)
both s (fine p m t v) (fine q k u w) = ruled s t (nested s t None)

tells : Reading → List ℕ → Due
tells crate s = alone (chunk s (ranks Crate) 199)
tells agreed s = both s (chunk s (ranks Crate) 199) (chunk s (ranks Manual) 199)

module _ (s : List ℕ) (w : Formed s) (n n' : List ℕ) (a : Answer) where
  -- a tree's size counts its words
  whole : (t : Forest) → (size t * 4 ≤ length n → (a ≡ counting 0 (size t * 4)) × (n' ≡ flat t ++ drop (size t * 4) n)) → Given (accepted (flat t)) n n' a
  whole t x = subst (λ (k : ℕ). k ≤ length n → (a ≡ counting 0 k) × (n' ≡ flat t ++ drop k n)) (sym (length_flat t)) x

  one_ranking : Answered s Crate n n' a → (o : Out) → chunk s (ranks Crate) 199 ≡ o → Given (alone o) n n' a
  unfolding alone
  one_ranking x (fine p m t v) e = whole t (x.accepts t w (sound s (ranks Crate) 199 (is_ranked Crate) e))
  one_ranking x (fail r) e = x.refuses r w (refused_none s Crate 199 e) e

  by_rule : Agreed s n n' a → {t u : Forest} → Chunk s (ranks Crate) 199 t → Chunk s (ranks Manual) 199 u → (q : Option ℕ) → nested s t None ≡ q → Given (ruled s t q) n n' a
  unfolding ruled
  by_rule x {t} c d None e = whole t (x.agrees t w c (subst (Chunk s (ranks Manual) 199) (sym ((differ s 199 c d).1 ((found_none s t).0 e))) d))
  by_rule x {t} {u} c d (Some i) e = let h = (found_some s t i).0 e in x.differs t u i w c d (λ z. (differ s 199 c d).0 z i h.quarrelling) h

  both_rankings : Agreed s n n' a → (o o' : Out) → chunk s (ranks Crate) 199 ≡ o → chunk s (ranks Manual) 199 ≡ o' → Given (both s o o') n n' a
  unfolding alone both
  both_rankings x (fail r) o' e e' = x.refuses r w (refused_none s Crate 199 e) e
  both_rankings x (fine p m t v) (fail r) e e' = x.deeper t r w (sound s (ranks Crate) 199 (is_ranked Crate) e) (refused_none s Manual 199 e') e'
  both_rankings x (fine p m t v) (fine q k u z) e e' =
      by_rule x (sound s (ranks Crate) 199 (is_ranked Crate) e) (sound s (ranks Manual) 199 (is_ranked Manual) e') (nested s t None) refl

  -- an answer that keeps the promise is what the function tells
  told : (r : Reading) → Promised r s n n' a → Given (tells r s) n n' a
  unfolding tells
  told crate x = one_ranking x (chunk s (ranks Crate) 199) refl
  told agreed x = both_rankings x (chunk s (ranks Crate) 199) (chunk s (ranks Manual) 199) refl refl

-- what is told of a script, and what 01 says of it
abbrev tell : Script → Bool × Due
tell x = (well x.stream, tells x.reading x.stream)

abbrev due : Script → Bool × Due
due x = (true, x.due)

shown : (x : Script) → tell x ≡ due x → Shown x
shown x e n n' a h = subst (λ (d : Due). Given d n n' a) (ap (λ (z : Bool × Due). z.1) e) (told x.stream (formed x.stream (ap (λ (z : Bool × Due). z.0) e)) n n' a x.reading h)

each_shown : {x : Script} {xs : List Script} → Memᴰ x xs → map tell xs ≡ map due xs → Shown x
each_shown (Memᴰ.head {x = y} e) h = subst Shown (sym e) (shown y (head-eq_of_cons-eq h))
each_shown (Memᴰ.tail m) h = each_shown m (tail-eq_of_cons-eq h)

module _ (a b c d f : ℕ) (at_a : a ≤ most) (at_b : b ≤ most) (at_c : c ≤ most) (at-d : d ≤ most) (at_f : f ≤ most) where
  -- the computed list
  computed : map tell (marked_scripts a b c d f) ≡ map due (marked_scripts a b c d f)
  unfolding good goods well alone ruled both tells word find look read explist retstat block parlist funcbody field table args suffix primary suffixed simple head tail tails expression ifstat whilestat dostat forstat repeatstat functionstat localfunction localstat label breakstat gotostat exprstat statement
  computed = rw (le-leb a most at_a, le-leb b most at_b, le-leb c most at_c, le-leb d most at-d, le-leb f most at_f, zero-add b, zero-add b)

  -- and the claim that covers it
  pub marked : (x : Script) → Memᴰ x (marked_scripts a b c d f) → Shown x
  marked x m = each_shown m computed
