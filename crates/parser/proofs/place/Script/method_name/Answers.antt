-- ':' Name
use native.Mathlib.Omega.{arith}
use Rattle.grammar.specs.Reading.{read}
use Rattle.parser.proofs.Kit.{ready_at, stop, onward}
use Rattle.parser.proofs.Members.{no_token, a_token, handed}
use Rattle.parser.proofs.place.Script.method_name.Goals as goal

pub returns-in_err-take_next : goal.returns-in_err-take_next
unfolding read
returns-in_err-take_next c = rw (handed c.from_residual.result c.from_residual.ensures.1) (stop _ (no_token c.args.self.now c.args.at.now.cursor c.in_err-take_next.ensures))

pub name-requires : goal.name-requires
name-requires c = ready_at (a_token c.args.self.now c.args.at.now.cursor c.args.nodes.now c.args.at.now.used 0 (omega (arith, c.requires.room)) c.in_ok-take_next.ensures) (omega arith)

pub returns : goal.returns
unfolding read
returns c = onward 0 _ _ (a_token c.args.self.now c.args.at.now.cursor c.args.nodes.now c.args.at.now.used 0 (omega (arith, c.requires.room)) c.in_ok-take_next.ensures) c.name.new.at c.name.result c.name.ensures (omega arith)
