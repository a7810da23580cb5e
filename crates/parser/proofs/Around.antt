-- Productions in other surroundings: a loop opened once; a term that asks for nothing around it; one level down; after what is held; and
-- what is kept only if it has the right shape. Assumes nothing.
use mathlib.Core.Path.{◌≡◌, refl, ap, ◌∙◌}
use mathlib.Core.List.{List}
use mathlib.Core.Bool.{true, false, ◌&&◌}
use Prim.Native.Nat.{ℕ, zero, suc, ◌-◌, ◌<◌}
use native.Mathlib.Omega.{arith}
use lib.ListN.{length}
use Rattle.stream.specs.Words.{records}
use Rattle.stream.specs.declared.reader.Cursor.{Cursor}
use Rattle.stream.specs.declared.reader.Note.{Note}
use Rattle.stream.specs.declared.reader.Refusal.{Refusal}
use Rattle.operators.specs.Ranks.{ranks}
use Rattle.operators.specs.declared.Ranking.{Ranking}
use Rattle.tree.specs.Forest.{Forest, none}
use Rattle.grammar.specs.Term.{Term, Shape, iter}
use Rattle.grammar.specs.Reading.{Out, fine, fail, Reader, Held, hold, leads, loop, shaped, keep, read}
use Rattle.grammar.specs.Productions.{expression, statement, ifstat, whilestat, dostat, forstat, repeatstat, functionstat, localfunction, localstat, label, breakstat, gotostat, exprstat}
use Rattle.grammar.specs.Productions.{explist, block, retstat, funcbody, parlist, suffixed, suffix, primary, args, table, field}
use Rattle.grammar.specs.Levels.{readers}
use Rattle.grammar.proofs.Tests.{wrong, yes_case, no_case}
use Rattle.grammar.proofs.Form.{wellmade, guarded}
use Rattle.grammar.proofs.Levels.{turn}
use Rattle.grammar.proofs.Stable.{stable, settle}
use Rattle.parser.specs.Contract.{Fine, under, says, again}
use Rattle.parser.proofs.Kit.{add_none}

-- a loop's reading is its body's, in which `again` is the loop
pub looping : (s : List ℕ) (k : Ranking) (limit g end : ℕ) (e : Term) → (wellmade e && guarded e) ≡ true → (c : Cursor) → c.place < records s
    → under s k limit g end (iter e) c.place c.mark ≡ read s (ranks k) limit (readers s (ranks k) g) (hold 0 end none) e (under s k limit g end (iter e)) c.place c.mark
looping s k limit g end e w c l = turn s (ranks k) limit g (hold 0 end none) e w again again c.place c.mark (omega arith)

-- a term that asks for nothing around it; and one that asks where what is held ends
pub settled : (s : List ℕ) (k : Ranking) (limit g : ℕ) (H : Held) (A : Reader) (e : Term) → stable false false false e ≡ true → (c : Cursor)
    → read s (ranks k) limit (readers s (ranks k) g) H e A c.place c.mark ≡ says s k g e c
settled s k limit g H A e q c = settle s (ranks k) limit 0 (readers s (ranks k) g) false false false H (hold 0 0 none) (λ x. wrong x) (λ x. wrong x) e q A again (λ x. wrong x) c.place c.mark

pub settled_end : (s : List ℕ) (k : Ranking) (limit g : ℕ) (H : Held) (A : Reader) (e : Term) → stable false true false e ≡ true → (c : Cursor)
    → read s (ranks k) limit (readers s (ranks k) g) H e A c.place c.mark ≡ under s k 0 g H.end e c.place c.mark
settled_end s k limit g H A e q c = settle s (ranks k) limit 0 (readers s (ranks k) g) false true false H (hold 0 H.end none) (λ x. refl) (λ x. wrong x) e q A again (λ x. wrong x) c.place c.mark

-- one level down
module _ (s : List ℕ) (k : Ranking) where
  pub exps_down : (limit g : ℕ) (c : Cursor) → (g ≡ 0 → ⊥)
      → (readers s (ranks k) g).exps limit c.place c.mark
      ≡ read s (ranks k) limit (readers s (ranks k) (g - 1)) (hold 0 0 none) expression (loop s (length s) (read s (ranks k) limit (readers s (ranks k) (g - 1)) (hold 0 0 none) expression)) c.place c.mark
  exps_down limit zero c n = absurd (n refl)
  exps_down limit (suc g) c n =
      let p : g ≡ suc g - 1 = omega arith in
      ap (λ (z : ℕ). read s (ranks k) limit (readers s (ranks k) z) (hold 0 0 none) expression (loop s (length s) (read s (ranks k) limit (readers s (ranks k) z) (hold 0 0 none) expression)) c.place c.mark) p

  pub stats_down : (g : ℕ) (c : Cursor) → (g ≡ 0 → ⊥) → (readers s (ranks k) g).stats c.place c.mark ≡ says s k (g - 1) statement c
  unfolding statement ifstat whilestat dostat forstat repeatstat functionstat localfunction localstat label breakstat gotostat exprstat explist block retstat funcbody parlist suffixed suffix primary args table field
  stats_down zero c n = absurd (n refl)
  stats_down (suc g) c n =
      let p : g ≡ suc g - 1 = omega arith in
      settled s k 0 g (hold 0 0 none) (loop s (length s) (read s (ranks k) 0 (readers s (ranks k) g) (hold 0 0 none) statement)) statement refl c ∙ ap (λ (z : ℕ). says s k z statement c) p

-- what is held, and what is read after it: it fails; it was read
pub lead_stop : {o : Out} {e : Refusal} (f : Forest → Reader) → o ≡ fail e → leads o f ≡ fail e
lead_stop f x = ap (λ (z : Out). leads z f) x

pub leads_is : {s : List ℕ} {q : Note} {low used more : ℕ} {n n' : List ℕ} {o : Out} {c : Cursor} {u : ℕ} (f : Forest → Reader) (x : Fine s q low used more n n' o c u 0) → leads o f ≡ f x.trees c.place c.mark
leads_is {c = c} f x = ap (λ (z : Out). leads z f) x.says ∙ add_none (f x.trees c.place c.mark)

-- what is held, seen from the cursor that a look gave
unfoldable pub held_at : {s : List ℕ} {q : Note} {low used more : ℕ} {n n' : List ℕ} {o : Out} {c : Cursor} {u v : ℕ} (f : Fine s q low used more n n' o c u v) (d : Cursor) → d.place ≡ c.place → d.note ≡ c.note
    → Fine s q low used more n n' (fine d.place d.mark f.trees v) d u v
held_at f d p x = record { trees = f.trees; says = refl; grown = f.grown; laid = f.laid; at = omega (arith, f.at, p); later = omega (arith, f.later, p); room = omega (arith, f.room, p); noted = x ∙ f.noted }

-- what is kept, or refused
module _ {s : List ℕ} {q : Note} {low used more : ℕ} {n n' : List ℕ} {o o' : Out} {c : Cursor} {u v : ℕ} (x : Shape) (r : Refusal) (y : o' ≡ o) (f : Fine s q low used more n n' o c u v) where
  pub keep_fine : shaped x f.trees ≡ true → Fine s q low used more n n' (keep x r o') c u v
  keep_fine e = record { trees = f.trees; says = ap (keep x r) (y ∙ f.says) ∙ yes_case _ _ _ e; grown = f.grown; laid = f.laid; at = f.at; later = f.later; room = f.room; noted = f.noted }

  pub keep_fail : shaped x f.trees ≡ false → keep x r o' ≡ fail r
  keep_fail e = ap (keep x r) (y ∙ f.says) ∙ no_case _ _ _ e
