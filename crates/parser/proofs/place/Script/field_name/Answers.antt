-- '.' Name
use Prim.Native.Nat.{◌+◌}
use mathlib.Core.Path.{refl, ap}
use native.Mathlib.Omega.{arith}
use Rattle.grammar.specs.Term.{unlined}
use Rattle.grammar.specs.Reading.{read, wrap}
use Rattle.parser.proofs.Kit.{stop, past, both, over, revalue}
use Rattle.parser.proofs.Members.{no_token, no_name, a_token, a_name, handed, weight}
use Rattle.parser.proofs.place.Script.field_name.Goals as goal

pub returns-in_err-take_next : goal.returns-in_err-take_next
unfolding read
returns-in_err-take_next c = rw (handed c.from_residual.result c.from_residual.ensures.1) (ap (wrap c.args.self.now.stream.now 32 unlined c.args.at.now.cursor.place) (stop _ (no_token c.args.self.now c.args.at.now.cursor c.in_err-take_next.ensures)))

pub returns-in_err-name : goal.returns-in_err-name
unfolding read
returns-in_err-name c =
    let x = c.args.self.now in
    let p = c.args.at.now in
    let w = a_token x p.cursor c.args.nodes.now (p.used + 1) 0 (omega (arith, c.requires.room)) c.in_ok-take_next.ensures in
    rw (handed c.from_residual-in_err-name.result c.from_residual-in_err-name.ensures.1) (ap (wrap x.stream.now 32 unlined p.cursor.place) (past _ w (stop _ (no_name x c.take_next.new.self c.in_err-name.ensures))))

pub returns : goal.returns
unfolding read
returns c =
    let x = c.args.self.now in
    let p = c.args.at.now in
    let w = a_token x p.cursor c.args.nodes.now (p.used + 1) 0 (omega (arith, c.requires.room)) c.in_ok-take_next.ensures in
    let n = a_name x c.take_next.new.self c.args.nodes.now (p.used + 1) 0 (omega (arith, w.room)) c.in_ok-name.ensures in
    let v = weight x c.take_next.new.self c.args.nodes.now (p.used + 1) 0 n c.in_ok-name.ensures in
    over 32 unlined p.cursor.place 0 (refl, refl, refl) (revalue (omega arith) (both _ w (both _ n v (omega arith)) (omega arith))) c.close.ensures refl
