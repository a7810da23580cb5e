-- [parlist]
use mathlib.Core.Path.{refl}
use native.Mathlib.Omega.{arith}
use Rattle.stream.specs.Kinds.{RightParen}
use Rattle.operators.specs.Ranks.{ranks}
use Rattle.tree.specs.Forest.{none}
use Rattle.grammar.specs.Term.{empty}
use Rattle.grammar.specs.Reading.{read, hold}
use Rattle.grammar.specs.Levels.{readers}
use Rattle.grammar.specs.Productions.{parlist}
use Rattle.parser.specs.Contract.{again}
use Rattle.parser.proofs.Steps.{check_in, check_out, check_place, check_note}
use Rattle.parser.proofs.Kit.{ready_seen, looked, moved_sum}
use Rattle.parser.proofs.place.Script.parameter_list.Goals as goal

pub returns-then-check_ahead : goal.returns-then-check_ahead
unfolding read
returns-then-check_ahead c =
    let x = c.args.self.now in
    let d = c.args.at.now.cursor in
    let p = check_place x.stream.now d 0 RightParen c.if-check_ahead.ensures in (
      looked _ c.args.at.now.used 0 d c.check_ahead.new.self (check_in x.stream.now (ranks x.ranking) 0 (readers x.stream.now (ranks x.ranking) x.levels) (hold 0 0 none) again d RightParen empty parlist (λ z. omega arith) c.if-check_ahead.ensures refl) p (check_note x.stream.now d 0 RightParen c.if-check_ahead.ensures) c.requires.at c.requires.room,
      omega (arith, p),
    )

pub parameters-requires : goal.parameters-requires
parameters-requires c = ready_seen c.check_ahead.new.self c.requires (check_place c.args.self.now.stream.now c.args.at.now.cursor 0 RightParen c.if-check_ahead.ensures)

pub returns : goal.returns
returns c =
    let x = c.args.self.now in
    let d = c.args.at.now.cursor in
    let p = check_place x.stream.now d 0 RightParen c.if-check_ahead.ensures in
    moved_sum x.stream.now (check_note x.stream.now d 0 RightParen c.if-check_ahead.ensures) c.args.at.now.used 0 c.args.nodes.now c.parameters.new.nodes c.parameters.new.at c.parameters.result (check_out x.stream.now (ranks x.ranking) 0 (readers x.stream.now (ranks x.ranking) x.levels) (hold 0 0 none) again d RightParen empty parlist (λ z. omega arith) c.if-check_ahead.ensures refl) (omega (arith, p)) (omega (arith, p)) c.parameters.ensures
