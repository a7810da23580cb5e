-- `number`: a byte that is no digit is in no field; a digit more is a number of one digit more, that fits.
use Rattle.std.proofs.Common.{sym, subst, arith}
use Rattle.lines.specs.Parts.{Field}
use Rattle.lines.proofs.Hex.{read_none, read_turn, no_field, pow_more, room}
use Rattle.lines.proofs.number.Goals as goal

pub loop-b-init : goal.loop-b-init
loop-b-init c = (omega arith, read_none)

pub overflow_mul-v : goal.overflow_mul-v
overflow_mul-v c = omega (arith, room c.loop-b.b-index c.loop-b.v (omega (arith, c.in_ok-last.ensures.cases.1)) c.loop-b.invariant.0)

pub overflow_add-v : goal.overflow_add-v
overflow_add-v c = omega (arith, room c.loop-b.b-index c.loop-b.v (omega (arith, c.in_ok-last.ensures.cases.1)) c.loop-b.invariant.0, c.in_ok-v.ensures.0)

pub returns-in_err-v : goal.returns-in_err-v
returns-in_err-v c =
    let e = c.in_ok-last.ensures.cases in
    subst (Field c.args.part.now c.args.end) (sym c.from_residual-in_err-v.ensures)
    (no_field c.args.part.now c.in_ok-last.digits.now c.in_ok-last.last.now c.args.end c.loop-b.b-index e.0 (omega arith) c.in_err-v.ensures)

pub loop-b-preserved : goal.loop-b-preserved
loop-b-preserved c =
    let t = c.loop-b in
    let d = c.in_ok-v.ensures in
    (pow_more t.b-index t.v _ t.invariant.0 d.0, read_turn c.in_ok-last.digits.now t.b-index t.v _ (omega arith) d.0 d.1 t.invariant.1)
