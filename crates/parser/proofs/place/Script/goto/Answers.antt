-- goto Name
use Prim.Native.Nat.{◌+◌}
use mathlib.Core.Path.{refl, ap}
use native.Mathlib.Omega.{arith}
use Rattle.grammar.specs.Term.{opening}
use Rattle.grammar.specs.Reading.{read, wrap}
use Rattle.grammar.specs.Productions.{gotostat}
use Rattle.parser.proofs.Kit.{stop, past, both, over, revalue}
use Rattle.parser.proofs.Members.{no_name, no_word, a_name, a_word, handed, weight}
use Rattle.parser.proofs.place.Script.goto.Goals as goal

pub returns-in_err-expect_next : goal.returns-in_err-expect_next
unfolding read gotostat
returns-in_err-expect_next c = rw (handed c.from_residual.result c.from_residual.ensures.1) (ap (wrap c.args.self.now.stream.now 14 opening c.args.at.now.cursor.place) (stop _ (no_word c.args.self.now c.args.at.now.cursor 8 refl refl c.in_err-expect_next.ensures)))

pub returns-in_err-name : goal.returns-in_err-name
unfolding read gotostat
returns-in_err-name c =
    let x = c.args.self.now in
    let p = c.args.at.now in
    let w = a_word x p.cursor c.args.nodes.now (p.used + 1) 0 (omega (arith, c.requires.room)) 8 refl refl c.in_ok-expect_next.ensures in
    rw (handed c.from_residual-in_err-name.result c.from_residual-in_err-name.ensures.1) (ap (wrap x.stream.now 14 opening p.cursor.place) (past _ w (stop _ (no_name x c.expect_next.new.self c.in_err-name.ensures))))

pub returns : goal.returns
unfolding read gotostat
returns c =
    let x = c.args.self.now in
    let p = c.args.at.now in
    let w = a_word x p.cursor c.args.nodes.now (p.used + 1) 0 (omega (arith, c.requires.room)) 8 refl refl c.in_ok-expect_next.ensures in
    let n = a_name x c.expect_next.new.self c.args.nodes.now (p.used + 1) 0 (omega (arith, w.room)) c.in_ok-name.ensures in
    let v = weight x c.expect_next.new.self c.args.nodes.now (p.used + 1) 0 n c.in_ok-name.ensures in
    over 14 opening p.cursor.place c.line-line.result (refl, refl, refl) (revalue (omega arith) (both _ w (both _ n v (omega arith)) (omega arith))) c.close.ensures c.line-line.ensures
