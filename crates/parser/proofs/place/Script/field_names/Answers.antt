-- {'.' Name} [':' Name]
use mathlib.Core.Path.{◌≡◌, refl, sym, ap, ◌∙◌}
use mathlib.Core.List.{List, [], ◌∷◌}
use mathlib.Core.Bool.{false}
use Prim.Native.Nat.{ℕ}
use native.Mathlib.Omega.{arith}
use Rattle.std.specs.Prelude.{Some, None}
use Rattle.stream.specs.Reader.{look_ahead}
use Rattle.stream.specs.declared.reader.Cursor.{Cursor}
use Rattle.stream.specs.declared.reader.Token.{Token}
use Rattle.operators.specs.Ranks.{ranks}
use Rattle.tree.specs.Forest.{none}
use Rattle.grammar.specs.Member.{member}
use Rattle.grammar.specs.Term.{Term, ahead, opt, many, empty, any, plus, ◌⨾◌, on, again as again'}
use Rattle.grammar.specs.Reading.{Out, Reader, read, hold, then}
use Rattle.grammar.specs.Levels.{readers}
use Rattle.grammar.specs.Productions.{nameleaf}
use Rattle.grammar.proofs.Among.{among, one, other}
use Rattle.parser.specs.Parts as P
use Rattle.parser.specs.Contract.{under, again}
use Rattle.parser.specs.declared.place.Place.{Place}
use Rattle.parser.specs.declared.place.Script.{Script}
use Rattle.parser.proofs.Steps.{look_in, look_out, end_out, look_place, end_place, look_note, end_note}
use Rattle.parser.proofs.Kit.{add_none, then_assoc, ready_at, ready_seen, alter, revalue, renoted, looked, weighs, fails, ends, turns, stop, past, both}
use Rattle.parser.proofs.Looks.{look_again, end_again}
use Rattle.parser.proofs.Around.{looping}
use Rattle.parser.proofs.Loops.{Turning}
use Rattle.parser.proofs.Members.{no_token, a_token, handed}
use Rattle.parser.proofs.place.Script.field_names.Goals as goal

-- a field, the fields, and the method behind them
abbrev field : Term
field = any ⨾ nameleaf ⨾ plus 2

abbrev dotted : Term
dotted = many ahead (44 ∷ []) field

abbrev method : Term
method = any ⨾ nameleaf ⨾ plus 1

module _ (x : Script) where
  abbrev From : Term → Reader
  From e = read x.stream.now (ranks x.ranking) 0 (readers x.stream.now (ranks x.ranking) x.levels) (hold 0 0 none) e again

  abbrev In : Term → Reader
  In e = read x.stream.now (ranks x.ranking) 0 (readers x.stream.now (ranks x.ranking) x.levels) (hold 0 0 none) e (under x.stream.now x.ranking 0 x.levels 0 dotted)

  module _ (p p' : Place) (n n' : List ℕ) (v : ℕ) (t : Turning x 0 0 P.fieldnames p p' n n' v) where
    opened : From P.fieldnames p'.cursor.place p'.cursor.mark ≡ then (In (on ahead (44 ∷ []) (field ⨾ again') empty) p'.cursor.place p'.cursor.mark) (From (opt ahead (46 ∷ []) method))
    unfolding read
    opened = ap (λ (z : Out). then z (From (opt ahead (46 ∷ []) method))) (looping x.stream.now x.ranking 0 x.levels 0 (on ahead (44 ∷ []) (field ⨾ again') empty) refl p'.cursor t.0.0.at)

    module _ {k : Token} {d : Cursor} (y : look_ahead x.stream.now p'.cursor 0 ≡ (Some k, d)) where
      -- another field comes; and none
      goes_in : k.kind ≡ 44 → From P.fieldnames p'.cursor.place p'.cursor.mark ≡ then (In field d.place d.mark) (From P.fieldnames)
      unfolding read
      goes_in q =
          opened
          ∙ ap (λ (z : Out). then z (From (opt ahead (46 ∷ []) method))) (look_in x.stream.now (ranks x.ranking) 0 (readers x.stream.now (ranks x.ranking) x.levels) (hold 0 0 none) (under x.stream.now x.ranking 0 x.levels 0 dotted) p'.cursor (44 ∷ []) (field ⨾ again') empty y (one q))
          ∙ then_assoc (In field d.place d.mark) (under x.stream.now x.ranking 0 x.levels 0 dotted) (From (opt ahead (46 ∷ []) method))

      no_field : member k.kind (44 ∷ []) ≡ false → From P.fieldnames p'.cursor.place p'.cursor.mark ≡ From (opt ahead (46 ∷ []) method) d.place d.mark
      unfolding read
      no_field q =
          opened
          ∙ ap (λ (z : Out). then z (From (opt ahead (46 ∷ []) method))) (look_out x.stream.now (ranks x.ranking) 0 (readers x.stream.now (ranks x.ranking) x.levels) (hold 0 0 none) (under x.stream.now x.ranking 0 x.levels 0 dotted) p'.cursor (44 ∷ []) (field ⨾ again') empty y q)
          ∙ add_none (From (opt ahead (46 ∷ []) method) d.place d.mark)

      -- a method comes; and none
      a_method : k.kind ≡ 46 → From P.fieldnames p'.cursor.place p'.cursor.mark ≡ then (From (any ⨾ nameleaf) d.place d.mark) (From (plus 1))
      unfolding read
      a_method q =
          no_field (among (44 ∷ []) q)
          ∙ look_in x.stream.now (ranks x.ranking) 0 (readers x.stream.now (ranks x.ranking) x.levels) (hold 0 0 none) again d (46 ∷ []) method empty (look_again x.stream.now p'.cursor y) (one q)
          ∙ sym (then_assoc (From any d.place d.mark) (From nameleaf) (From (plus 1)))

      no_method : (k.kind ≡ 44 → ⊥) → (k.kind ≡ 46 → ⊥) → From P.fieldnames p'.cursor.place p'.cursor.mark ≡ From empty d.place d.mark
      no_method a b = no_field (other a) ∙ look_out x.stream.now (ranks x.ranking) 0 (readers x.stream.now (ranks x.ranking) x.levels) (hold 0 0 none) again d (46 ∷ []) method empty (look_again x.stream.now p'.cursor y) (other b)

    -- nothing comes
    over : {d : Cursor} → look_ahead x.stream.now p'.cursor 0 ≡ (None, d) → From P.fieldnames p'.cursor.place p'.cursor.mark ≡ From empty d.place d.mark
    unfolding read
    over {d} y =
        opened
        ∙ ap (λ (z : Out). then z (From (opt ahead (46 ∷ []) method))) (end_out x.stream.now (ranks x.ranking) 0 (readers x.stream.now (ranks x.ranking) x.levels) (hold 0 0 none) (under x.stream.now x.ranking 0 x.levels 0 dotted) p'.cursor (44 ∷ []) (field ⨾ again') empty y refl)
        ∙ add_none (From (opt ahead (46 ∷ []) method) d.place d.mark)
        ∙ end_out x.stream.now (ranks x.ranking) 0 (readers x.stream.now (ranks x.ranking) x.levels) (hold 0 0 none) again d (46 ∷ []) method empty (end_again x.stream.now p'.cursor y) refl

pub method_name-requires : goal.method_name-requires
method_name-requires c = ready_seen c.look_ahead.new.self c.loop-token.invariant.0.0 (look_place c.args.self.now.stream.now c.loop-token.at.cursor (sym c.in-Some.ensures))

pub returns-in_err-method_name : goal.returns-in_err-method_name
returns-in_err-method_name c =
    let t = c.loop-token.invariant in
    rw (handed c.from_residual.result c.from_residual.ensures.1) (fails t.1 (a_method c.args.self.now c.args.at.now c.loop-token.at c.args.nodes.now c.loop-token.nodes c.loop-token.value t (sym c.in-Some.ensures) c.if-token-eq-COLON.true ∙ stop _ c.in_err-method_name.ensures))

pub returns-then-token-eq-COLON : goal.returns-then-token-eq-COLON
unfolding read
returns-then-token-eq-COLON c =
    let x = c.args.self.now in
    let t = c.loop-token.invariant in
    let y = sym c.in-Some.ensures in
    let p = look_place x.stream.now c.loop-token.at.cursor y in
    let f = renoted (look_note x.stream.now c.loop-token.at.cursor y) c.in_ok-method_name.ensures in (
      revalue (omega arith)
          (ends t.1 (alter (a_method x c.args.at.now c.loop-token.at c.args.nodes.now c.loop-token.nodes c.loop-token.value t y c.if-token-eq-COLON.true) (both (From x (plus 1)) f (weighs _ _ 0 1 _ f.at f.room) (omega arith))) (omega (arith, p))),
      omega (arith, f.later, p, t.0.1),
    )

pub returns-then-token-ne-DOT : goal.returns-then-token-ne-DOT
unfolding read
returns-then-token-ne-DOT c =
    let x = c.args.self.now in
    let t = c.loop-token.invariant in
    let y = sym c.in-Some.ensures in
    let p = look_place x.stream.now c.loop-token.at.cursor y in (
      revalue (omega arith)
          (ends t.1
          (looked _ c.loop-token.at.used 0 c.loop-token.at.cursor c.look_ahead.new.self
          (no_method x c.args.at.now c.loop-token.at c.args.nodes.now c.loop-token.nodes c.loop-token.value t y c.if-token-ne-DOT.true c.if-token-eq-COLON.false) p (look_note x.stream.now c.loop-token.at.cursor y) t.0.0.at t.0.0.room)
          (omega arith)),
      omega (arith, p, t.0.1),
    )

pub returns-in_err-take_next : goal.returns-in_err-take_next
unfolding read
returns-in_err-take_next c =
    let x = c.args.self.now in
    let t = c.loop-token.invariant in
    rw (handed c.from_residual-in_err-take_next.result c.from_residual-in_err-take_next.ensures.1)
    (fails t.1 (goes_in x c.args.at.now c.loop-token.at c.args.nodes.now c.loop-token.nodes c.loop-token.value t (sym c.in-Some.ensures) c.if-token-ne-DOT.false ∙ stop _ (stop _ (no_token x c.look_ahead.new.self c.in_err-take_next.ensures))))

pub name-requires : goal.name-requires
name-requires c =
    let x = c.args.self.now in
    let p = look_place x.stream.now c.loop-token.at.cursor (sym c.in-Some.ensures) in
    ready_at (a_token x c.look_ahead.new.self c.loop-token.nodes c.loop-token.at.used 0 (omega (arith, c.loop-token.invariant.0.0.room, p)) c.in_ok-take_next.ensures) (omega arith)

pub returns-in_err-name : goal.returns-in_err-name
unfolding read
returns-in_err-name c =
    let x = c.args.self.now in
    let t = c.loop-token.invariant in
    let p = look_place x.stream.now c.loop-token.at.cursor (sym c.in-Some.ensures) in
    let w = a_token x c.look_ahead.new.self c.loop-token.nodes c.loop-token.at.used 0 (omega (arith, t.0.0.room, p)) c.in_ok-take_next.ensures in
    rw (handed c.from_residual-in_err-name.result c.from_residual-in_err-name.ensures.1)
    (fails t.1 (goes_in x c.args.at.now c.loop-token.at c.args.nodes.now c.loop-token.nodes c.loop-token.value t (sym c.in-Some.ensures) c.if-token-ne-DOT.false ∙ stop _ (past _ w (stop _ c.in_err-name.ensures))))

pub loop-token-smaller : goal.loop-token-smaller
loop-token-smaller c =
    let x = c.args.self.now in
    let p = look_place x.stream.now c.loop-token.at.cursor (sym c.in-Some.ensures) in
    let w = a_token x c.look_ahead.new.self c.loop-token.nodes c.loop-token.at.used 0 (omega (arith, c.loop-token.invariant.0.0.room, p)) c.in_ok-take_next.ensures in
    let f = c.in_ok-name.ensures in omega (arith, f.later, f.at, w.later, p)

pub loop-token-preserved : goal.loop-token-preserved
unfolding read
loop-token-preserved c =
    let x = c.args.self.now in
    let t = c.loop-token.invariant in
    let y = sym c.in-Some.ensures in
    let p = look_place x.stream.now c.loop-token.at.cursor y in
    let w = a_token x c.look_ahead.new.self c.loop-token.nodes c.loop-token.at.used 0 (omega (arith, t.0.0.room, p)) c.in_ok-take_next.ensures in
    let f = c.in_ok-name.ensures in (
      (ready_at f (omega arith), omega (arith, f.later, w.later, p, t.0.1)),
      turns t.1 (goes_in x c.args.at.now c.loop-token.at c.args.nodes.now c.loop-token.nodes c.loop-token.value t y c.if-token-ne-DOT.false) (both _ (renoted (look_note x.stream.now c.loop-token.at.cursor y) w) (both _ f (weighs _ _ 0 2 _ f.at f.room) (omega arith)) (omega arith)) (omega (arith, p)) f.room,
    )

pub returns : goal.returns
unfolding read
returns c =
    let x = c.args.self.now in
    let t = c.loop-token.invariant in
    let y = sym c.in_default.ensures in
    let p = end_place x.stream.now c.loop-token.at.cursor y in (
      revalue (omega arith) (ends t.1 (looked _ c.loop-token.at.used 0 c.loop-token.at.cursor c.look_ahead.new.self (over x c.args.at.now c.loop-token.at c.args.nodes.now c.loop-token.nodes c.loop-token.value t y) p (end_note x.stream.now c.loop-token.at.cursor y) t.0.0.at t.0.0.room) (omega arith)),
      omega (arith, p, t.0.1),
    )
