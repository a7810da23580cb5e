-- {',' Name}
use mathlib.Core.Path.{refl}
use native.Mathlib.Omega.{arith}
use Rattle.grammar.specs.Term.{any, plus, ◌⨾◌}
use Rattle.grammar.specs.Reading.{read}
use Rattle.grammar.specs.Productions.{nameleaf}
use Rattle.parser.proofs.Steps.{check_place}
use Rattle.parser.proofs.Kit.{ready_at, weighs, stop, past, both}
use Rattle.parser.proofs.Loops.{many_ends, many_fails, many_turns}
use Rattle.parser.proofs.Members.{no_token, a_token, handed}
use Rattle.parser.proofs.place.Script.names.Goals as goal

pub returns-in_err-take_next : goal.returns-in_err-take_next
unfolding read
returns-in_err-take_next c =
    rw (handed c.from_residual.result c.from_residual.ensures.1) (many_fails c.args.self.now 0 48 (λ z. omega arith) (any ⨾ nameleaf ⨾ plus 1) refl 0 c.loop-at.count c.args.at.now c.loop-at.at c.args.nodes.now c.loop-at.nodes c.loop-at.invariant c.loop-at-test.ensures
    (stop _ (no_token c.args.self.now c.check_ahead.new.self c.in_err-take_next.ensures)))

pub name-requires : goal.name-requires
name-requires c =
    let x = c.args.self.now in
    let p = check_place x.stream.now c.loop-at.at.cursor 0 48 c.loop-at-test.ensures in
    ready_at (a_token x c.check_ahead.new.self c.loop-at.nodes c.loop-at.at.used 0 (omega (arith, c.loop-at.invariant.0.0.room, p)) c.in_ok-take_next.ensures) (omega arith)

pub returns-in_err-name : goal.returns-in_err-name
unfolding read
returns-in_err-name c =
    let x = c.args.self.now in
    let p = check_place x.stream.now c.loop-at.at.cursor 0 48 c.loop-at-test.ensures in
    let w = a_token x c.check_ahead.new.self c.loop-at.nodes c.loop-at.at.used 0 (omega (arith, c.loop-at.invariant.0.0.room, p)) c.in_ok-take_next.ensures in
    rw (handed c.from_residual-in_err-name.result c.from_residual-in_err-name.ensures.1) (many_fails x 0 48 (λ z. omega arith) (any ⨾ nameleaf ⨾ plus 1) refl 0 c.loop-at.count c.args.at.now c.loop-at.at c.args.nodes.now c.loop-at.nodes c.loop-at.invariant c.loop-at-test.ensures
    (past _ w (stop _ c.in_err-name.ensures)))

pub loop-at-smaller : goal.loop-at-smaller
loop-at-smaller c =
    let x = c.args.self.now in
    let p = check_place x.stream.now c.loop-at.at.cursor 0 48 c.loop-at-test.ensures in
    let w = a_token x c.check_ahead.new.self c.loop-at.nodes c.loop-at.at.used 0 (omega (arith, c.loop-at.invariant.0.0.room, p)) c.in_ok-take_next.ensures in
    let f = c.in_ok-name.ensures in omega (arith, f.later, f.at, w.later, p)

pub loop-at-preserved : goal.loop-at-preserved
unfolding read
loop-at-preserved c =
    let x = c.args.self.now in
    let p = check_place x.stream.now c.loop-at.at.cursor 0 48 c.loop-at-test.ensures in
    let w = a_token x c.check_ahead.new.self c.loop-at.nodes c.loop-at.at.used 0 (omega (arith, c.loop-at.invariant.0.0.room, p)) c.in_ok-take_next.ensures in
    let f = c.in_ok-name.ensures in (
      (ready_at f (omega arith), omega (arith, f.later, w.later, p, c.loop-at.invariant.0.1)),
      many_turns x 0 48 (λ z. omega arith) (any ⨾ nameleaf ⨾ plus 1) refl 0 c.loop-at.count c.args.at.now c.loop-at.at c.args.nodes.now c.loop-at.nodes c.loop-at.invariant c.loop-at-test.ensures
          (both _ w (both _ f (weighs _ _ 0 1 _ f.at f.room) (omega arith)) (omega arith)) (omega arith) f.room,
    )

pub returns : goal.returns
returns c =
    let x = c.args.self.now in
    let p = check_place x.stream.now c.loop-at.at.cursor 0 48 c.loop-at-test.ensures in (
      many_ends x 0 48 (λ z. omega arith) (any ⨾ nameleaf ⨾ plus 1) refl 0 c.loop-at.count c.args.at.now c.loop-at.at c.args.nodes.now c.loop-at.nodes c.loop-at.invariant c.loop-at-test.ensures,
      omega (arith, p, c.loop-at.invariant.0.1),
    )
