-- The theorems at every level, and of the whole stream. Assumes nothing.
use mathlib.Core.Path.{◌≡◌, refl, ap, ◌∙◌, subst}
use mathlib.Core.List.{List}
use mathlib.Core.Bool.{true, ◌&&◌}
use mathlib.Core.Logic.{inr}
use Prim.Native.Nat.{ℕ, zero, suc, ◌≤◌}
use native.Mathlib.Omega.{arith}
use lib.Dec.{eqb}
use lib.ListN.{length}
use borrow.Author.Tests.{eqb-true, eq-eqb}
use Rattle.stream.specs.Words.{kind}
use Rattle.stream.specs.Reader.{reached}
use Rattle.operators.specs.Ranks.{Ranks}
use Rattle.tree.specs.Forest.{Forest}
use Rattle.grammar.specs.Term.{Term, iter}
use Rattle.grammar.specs.Reading.{Out, fine, fail, Reader, Held, alone, read}
use Rattle.grammar.specs.Productions.{block, expression, statement}
use Rattle.grammar.specs.Levels.{readers, finish, chunk}
use Rattle.grammar.specs.Compare.{Rises, stays, deeper}
use Rattle.grammar.proofs.Form.{wellmade, guarded, consumes}
use Rattle.grammar.proofs.Derives.{Alone}
use Rattle.grammar.proofs.Derives.{phrases, Chunk}
use Rattle.grammar.proofs.Sound.{Fits, Sound, either, sound_alone}
use Rattle.grammar.proofs.Tests.{and_left, and_right, yes_case}
use Rattle.grammar.proofs.Forward.{Steps, steps_alone}
use Rattle.grammar.proofs.Complete.{Accepts, Complete, complete_alone, complete_whole}
use Rattle.grammar.proofs.Kin.{kindred_alone, rises_kin}
use Rattle.grammar.proofs.Unroll.{unroll}
use Rattle.grammar.proofs.Made.{expression_made, statement_made, block_made}

record Made (e : Term) : Type 0 where
  well : wellmade e ≡ true
  guard : guarded e ≡ true
  take : consumes e ≡ true

made : (e : Term) → (wellmade e && guarded e && consumes e) ≡ true → Made e
made e h =
    let w = and_left (wellmade e && guarded e) (consumes e) h in
    record { well = and_left (wellmade e) (guarded e) w; guard = and_right (wellmade e) (guarded e) w; take = and_right (wellmade e && guarded e) (consumes e) h }

exp_made : Made expression
exp_made = made expression expression_made

stat_made : Made statement
stat_made = made statement statement_made

module _ (s : List ℕ) (rank : Ranks) where
  pub forward : (g : ℕ) → ((l : ℕ) → Steps s ((phrases s rank g).exps l)) × Steps s (phrases s rank g).stats
  forward zero = (λ l i j v t d. absurd d, λ i j v t d. absurd d)
  forward (suc g) =
      let h = forward g in (
        λ l. steps_alone s rank l (phrases s rank g) h.0 h.1 expression exp_made.well exp_made.take,
        steps_alone s rank 0 (phrases s rank g) h.0 h.1 statement stat_made.well stat_made.take,
      )

  pub sounds : (g : ℕ) → ((l : ℕ) → Sound ((readers s rank g).exps l) ((phrases s rank g).exps l)) × Sound (readers s rank g).stats (phrases s rank g).stats
  sounds zero = (λ l i m. tt, λ i m. tt)
  sounds (suc g) =
      let h = sounds g in
      (λ l. sound_alone s rank l (phrases s rank g) (readers s rank g) h.0 h.1 expression, sound_alone s rank 0 (phrases s rank g) (readers s rank g) h.0 h.1 statement)

  completes : (g : ℕ) → ((l : ℕ) → Complete ((readers s rank g).exps l) ((phrases s rank g).exps l)) × Complete (readers s rank g).stats (phrases s rank g).stats
  completes zero = (λ l i j v t d. absurd d, λ i j v t d. absurd d)
  completes (suc g) =
      let h = completes g in
      let f = forward g in (
        λ l. complete_alone s rank l (phrases s rank g) (readers s rank g) f.0 f.1 h.0 h.1 expression exp_made.well exp_made.guard exp_made.take,
        complete_alone s rank 0 (phrases s rank g) (readers s rank g) f.0 f.1 h.0 h.1 statement stat_made.well stat_made.guard stat_made.take,
      )

  -- a level more only turns a refusal 5 into something else
  pub levels : (g : ℕ) → ((l p m : ℕ) → Rises ((readers s rank g).exps l p m) ((readers s rank (suc g)).exps l p m)) × ((p m : ℕ) → Rises ((readers s rank g).stats p m) ((readers s rank (suc g)).stats p m))
  levels zero = (λ l p m. deeper refl, λ p m. deeper refl)
  levels (suc g) =
      let h = levels g in (
        λ l. kindred_alone Rises (λ t u. t ≡ u) rises_kin s rank rank l l (readers s rank g) (readers s rank (suc g)) (h.0 0) h.1 expression (inr (record { lefts = λ k. refl; rights = λ k. refl; kins = h.0 })),
        kindred_alone Rises (λ t u. t ≡ u) rises_kin s rank rank 0 0 (readers s rank g) (readers s rank (suc g)) (h.0 0) h.1 statement (inr (record { lefts = λ k. refl; rights = λ k. refl; kins = h.0 })),
      )

  finish_sound : (g : ℕ) (o : Out) → Fits (Alone s rank 0 (phrases s rank g) block 0) o → Fits (λ j t v. Chunk s rank g t) (finish s o)
  finish_sound g (fine q m t v) h = either (Fits (λ j t v. Chunk s rank g t)) (eqb (kind s q) 59) _ _ (λ x. record { end = q; all = eqb-true _ _ x; value = v; derived = h }) (λ x. tt)
  finish_sound g (fail e) h = tt

  -- what is accepted is derived
  pub sound : (g j m v : ℕ) (t : Forest) → chunk s rank g ≡ fine j m t v → Chunk s rank g t
  sound g j m v t h =
      let a = sounds g in
      let c = finish_sound g (alone s rank 0 (readers s rank g) block 0 0) (sound_alone s rank 0 (phrases s rank g) (readers s rank g) a.0 a.1 block 0 0) in
      subst (Fits (λ j t v. Chunk s rank g t)) h c

  -- what is derived is accepted, with that tree
  pub complete : (g : ℕ) (t : Forest) (c : Chunk s rank g t) → Accepts (chunk s rank g) c.end t c.value
  complete g t c =
      let h = completes g in
      let f = forward g in
      let w : wellmade block ≡ true = and_left (wellmade block) (guarded block) block_made in
      let u : guarded block ≡ true = and_right (wellmade block) (guarded block) block_made in
      let a = complete_whole s rank 0 (phrases s rank g) (readers s rank g) f.0 f.1 h.0 h.1 block w u 0 c.end c.value t c.derived (omega arith) 0 in
      (reached s a.0 c.end 2, ap (finish s) a.1 ∙ yes_case _ _ _ (eq-eqb _ _ c.all))

  -- there is one tree at most
  pub unique : (g : ℕ) (t u : Forest) → Chunk s rank g t → Chunk s rank g u → t ≡ u
  unique g t u c d =
      let x = (complete g t c).1 in
      let y = (complete g u d).1 in
      cc

  finish_rises : {a b : Out} → Rises a b → Rises (finish s a) (finish s b)
  finish_rises stays = stays
  finish_rises (deeper x) = deeper x

  pub rises : (g : ℕ) → Rises (chunk s rank g) (chunk s rank (suc g))
  rises g =
      let h = levels g in
      finish_rises (kindred_alone Rises (λ t u. t ≡ u) rises_kin s rank rank 0 0 (readers s rank g) (readers s rank (suc g)) (h.0 0) h.1 block (inr (record { lefts = λ k. refl; rights = λ k. refl; kins = h.0 })) 0 0)

  -- a repetition is its body, in which `again` is the repetition
  pub turn : (limit g : ℕ) (h : Held) (e : Term) → (wellmade e && guarded e) ≡ true → (A B : Reader) (p m : ℕ) → p ≤ length s
      → read s rank limit (readers s rank g) h (iter e) A p m ≡ read s rank limit (readers s rank g) h e (read s rank limit (readers s rank g) h (iter e) B) p m
  turn limit g h e w =
      let f = forward g in
      let a = sounds g in
      unroll s rank limit (phrases s rank g) (readers s rank g) a.0 a.1 f.0 f.1 h e (and_left (wellmade e) (guarded e) w) (and_right (wellmade e) (guarded e) w)
