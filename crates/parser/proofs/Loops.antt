-- Loops of the descent: what is kept at each turn, and what a turn, its end and its refusal are, where one kind of token goes before each turn.
-- Assumes nothing.
use mathlib.Core.Path.{◌≡◌, refl, ap, ◌∙◌}
use mathlib.Core.Bool.{true, false, ◌&&◌}
use mathlib.Core.List.{List, [], ◌∷◌}
use Prim.Native.Nat.{ℕ, ◌+◌, ◌*◌, ◌≤◌}
use native.Mathlib.Omega.{arith}
use Rattle.stream.specs.Reader.{check_ahead}
use Rattle.stream.specs.declared.reader.Cursor.{Cursor}
use Rattle.stream.specs.declared.reader.Refusal.{Refusal}
use Rattle.operators.specs.Ranks.{ranks}
use Rattle.tree.specs.Forest.{none}
use Rattle.grammar.specs.Term.{Term, check, many, on, empty, again as again', ◌⨾◌}
use Rattle.grammar.specs.Reading.{Out, fail, hold, then, read}
use Rattle.grammar.specs.Levels.{readers}
use Rattle.grammar.proofs.Form.{wellmade, guarded}
use Rattle.parser.specs.Contract.{Ready, Fine, under}
use Rattle.parser.specs.declared.place.Script.{Script}
use Rattle.parser.specs.declared.place.Place.{Place}
use Rattle.parser.proofs.Steps.{check_in, check_out, check_place, check_note}
use Rattle.parser.proofs.Kit.{Going, turns, ends, fails, looked, revalue, renoted}
use Rattle.parser.proofs.Around.{looping}

-- from the place p on, with the array n, a loop over `e` has come to the place p', with the array n' and so many things, of which each took a
-- token at least; `end` is where the expression statement that holds a target ends
abbrev pub Turning : (x : Script) (end more : ℕ) → Term → Place → Place → List ℕ → List ℕ → ℕ → Type 0
Turning x end more e p p' n n' v =
    (Ready x.stream.now p' more × (v + 2 * p.cursor.place ≤ 2 * p'.cursor.place))
    × Going x.stream.now p.cursor.note p.cursor.place p.used more n n' (under x.stream.now x.ranking 0 x.levels end e p.cursor.place p.cursor.mark) (under x.stream.now x.ranking 0 x.levels end e) p'.cursor p'.used v

-- {k e}: the reading of one more turn, and of the end, by the check for the token of kind k
module _ (x : Script) (end k : ℕ) (real : k ≡ 59 → ⊥) (e : Term) (w : (wellmade (on check (k ∷ []) (e ⨾ again') empty) && guarded (on check (k ∷ []) (e ⨾ again') empty)) ≡ true) where
  abbrev pub Many : Term
  Many = many check (k ∷ []) e

  abbrev pub Over : Term → Cursor → Out
  Over f c = under x.stream.now x.ranking 0 x.levels end f c.place c.mark

  -- a term in a turn, where `again` is the loop
  abbrev pub Body : Term → Cursor → Out
  Body f c = read x.stream.now (ranks x.ranking) 0 (readers x.stream.now (ranks x.ranking) x.levels) (hold 0 end none) f (under x.stream.now x.ranking 0 x.levels end Many) c.place c.mark

  module _ (more v : ℕ) (p p' : Place) (n n' : List ℕ) (t : Turning x end more Many p p' n n' v) {d : Cursor} where
    -- no such token comes: the loop ends
    pub many_ends : (false, d) ≡ check_ahead x.stream.now p'.cursor 0 k → Fine x.stream.now p.cursor.note p.cursor.place p.used more n n' (Over Many p.cursor) d p'.used v
    unfolding read
    many_ends y =
        revalue (omega arith)
        (ends t.1
        (looked _ p'.used more p'.cursor d (looping x.stream.now x.ranking 0 x.levels end (on check (k ∷ []) (e ⨾ again') empty) w p'.cursor t.0.0.at ∙ check_out x.stream.now (ranks x.ranking) 0 (readers x.stream.now (ranks x.ranking) x.levels) (hold 0 end none) (under x.stream.now x.ranking 0 x.levels end Many) p'.cursor k (e ⨾ again') empty real y refl)
        (check_place x.stream.now p'.cursor 0 k y) (check_note x.stream.now p'.cursor 0 k y) t.0.0.at t.0.0.room)
        (omega arith))

    module _ (y : (true, d) ≡ check_ahead x.stream.now p'.cursor 0 k) where
      goes_in : Over Many p'.cursor ≡ Body (e ⨾ again') d
      unfolding read
      goes_in = looping x.stream.now x.ranking 0 x.levels end (on check (k ∷ []) (e ⨾ again') empty) w p'.cursor t.0.0.at ∙ check_in x.stream.now (ranks x.ranking) 0 (readers x.stream.now (ranks x.ranking) x.levels) (hold 0 end none) (under x.stream.now x.ranking 0 x.levels end Many) p'.cursor k (e ⨾ again') empty real y refl

      -- where it is, and what may be relied on there
      pub many_place : d.place ≡ p'.cursor.place
      many_place = check_place x.stream.now p'.cursor 0 k y

      -- such a token comes: a turn that is refused; and one that was read
      pub many_fails : {r : Refusal} → Body e d ≡ fail r → Over Many p.cursor ≡ fail r
      unfolding read
      many_fails f = fails t.1 (goes_in ∙ ap (λ (z : Out). then z (under x.stream.now x.ranking 0 x.levels end Many)) f)

      pub many_turns : {low' more' : ℕ} {n₂ : List ℕ} {c : Cursor} {u j : ℕ} → Fine x.stream.now d.note low' p'.used more' n' n₂ (Body e d) c u j → d.place ≤ low' → u ≤ 4 * c.place + more
          → Going x.stream.now p.cursor.note p.cursor.place p.used more n n₂ (Over Many p.cursor) (under x.stream.now x.ranking 0 x.levels end Many) c u (v + j)
      unfolding read
      many_turns f l r = turns t.1 goes_in (renoted (check_note x.stream.now p'.cursor 0 k y) f) (omega (arith, many_place)) r
