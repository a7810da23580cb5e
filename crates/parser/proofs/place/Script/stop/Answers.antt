-- break
use Prim.Native.Nat.{◌+◌}
use mathlib.Core.Path.{refl, ap}
use native.Mathlib.Omega.{arith}
use Rattle.grammar.specs.Term.{opening}
use Rattle.grammar.specs.Reading.{read, wrap}
use Rattle.grammar.specs.Productions.{breakstat}
use Rattle.parser.proofs.Kit.{over}
use Rattle.parser.proofs.Members.{no_token, a_token, handed}
use Rattle.parser.proofs.place.Script.stop.Goals as goal

pub returns-in_err-take_next : goal.returns-in_err-take_next
unfolding read breakstat
returns-in_err-take_next c = rw (handed c.from_residual.result c.from_residual.ensures.1) (ap (wrap c.args.self.now.stream.now 13 opening c.args.at.now.cursor.place) (no_token c.args.self.now c.args.at.now.cursor c.in_err-take_next.ensures))

pub returns : goal.returns
unfolding read breakstat
returns c =
    let x = c.args.self.now in
    let p = c.args.at.now in
    over 13 opening p.cursor.place c.line-line.result (refl, refl, refl) (a_token x p.cursor c.args.nodes.now (p.used + 1) 0 (omega (arith, c.requires.room)) c.in_ok-take_next.ensures) c.close.ensures c.line-line.ensures
