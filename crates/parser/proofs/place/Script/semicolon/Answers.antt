-- [';']
use mathlib.Core.Path.{refl, ◌∙◌}
use native.Mathlib.Omega.{arith}
use Rattle.operators.specs.Ranks.{ranks}
use Rattle.tree.specs.Forest.{none}
use Rattle.grammar.specs.Term.{empty, any}
use Rattle.grammar.specs.Reading.{read, hold}
use Rattle.grammar.specs.Levels.{readers}
use Rattle.parser.specs.Contract.{again}
use Rattle.parser.proofs.Steps.{check_in, check_out, check_place, check_note}
use Rattle.parser.proofs.Kit.{lower, alter, renoted, looked}
use Rattle.parser.proofs.Members.{no_token, a_token, handed}
use Rattle.parser.proofs.place.Script.semicolon.Goals as goal

pub returns-in_err-take_next : goal.returns-in_err-take_next
returns-in_err-take_next c =
    let x = c.args.self.now in
    let d = c.args.at.now.cursor in
    λ n.
    rw (handed c.from_residual.result c.from_residual.ensures.1) (check_in x.stream.now (ranks x.ranking) 0 (readers x.stream.now (ranks x.ranking) x.levels) (hold 0 0 none) again d 45 any empty (λ z. omega arith) c.if-check_ahead.ensures refl ∙ no_token x c.check_ahead.new.self c.in_err-take_next.ensures)

pub returns-in_ok-take_next : goal.returns-in_ok-take_next
returns-in_ok-take_next c =
    let x = c.args.self.now in
    let d = c.args.at.now.cursor in
    let p = check_place x.stream.now d 0 45 c.if-check_ahead.ensures in
    λ n.
    let f = renoted (check_note x.stream.now d 0 45 c.if-check_ahead.ensures) (a_token x c.check_ahead.new.self n c.args.at.now.used 0 (omega (arith, c.requires.room, p)) c.in_ok-take_next.ensures) in
    lower d.place (alter (check_in x.stream.now (ranks x.ranking) 0 (readers x.stream.now (ranks x.ranking) x.levels) (hold 0 0 none) again d 45 any empty (λ z. omega arith) c.if-check_ahead.ensures refl) f) (omega (arith, f.later, p))

pub returns-else-check_ahead : goal.returns-else-check_ahead
unfolding read
returns-else-check_ahead c =
    let x = c.args.self.now in
    let d = c.args.at.now.cursor in
    λ n.
    looked n c.args.at.now.used 0 d c.check_ahead.new.self (check_out x.stream.now (ranks x.ranking) 0 (readers x.stream.now (ranks x.ranking) x.levels) (hold 0 0 none) again d 45 any empty (λ z. omega arith) c.if-check_ahead.ensures refl) (check_place x.stream.now d 0 45 c.if-check_ahead.ensures) (check_note x.stream.now d 0 45 c.if-check_ahead.ensures) c.requires.at c.requires.room
