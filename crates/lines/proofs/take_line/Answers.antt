-- `take_line`: four fields are a line; where one is missing there is none.
use Rattle.std.proofs.Common.{refl, sym, subst, arith}
use Rattle.lines.specs.Lines.{line}
use Rattle.lines.specs.Parts.{Took}
use Rattle.lines.proofs.Text.{line_whole, no_length, no_kind, no_payload, no_number, no_after}
use Rattle.lines.proofs.take_line.Goals as goal

pub returns-then-bytes-ne-LINE : goal.returns-then-bytes-ne-LINE
returns-then-bytes-ne-LINE c = no_length c.args.bytes.now c.if-bytes-ne-LINE.true

pub returns-in_err-kind : goal.returns-in_err-kind
returns-in_err-kind c = subst (Took c.args.bytes.now) (sym c.from_residual.ensures) (no_kind c.args.bytes.now c.in_err-kind.ensures)

pub returns-in_err-payload : goal.returns-in_err-payload
returns-in_err-payload c =
    subst (Took c.args.bytes.now) (sym c.from_residual-in_err-payload.ensures) (no_payload c.args.bytes.now c.in_err-payload.ensures)

pub returns-in_err-line : goal.returns-in_err-line
returns-in_err-line c =
    subst (Took c.args.bytes.now) (sym c.from_residual-in_err-line.ensures) (no_number c.args.bytes.now c.in_err-line.ensures)

pub returns-in_err-after : goal.returns-in_err-after
returns-in_err-after c =
    subst (Took c.args.bytes.now) (sym c.from_residual-in_err-after.ensures) (no_after c.args.bytes.now c.in_err-after.ensures)

pub returns : goal.returns
returns c =
    let z = line_whole c.args.bytes.now _ _ _ _ (omega arith) c.in_ok-kind.ensures c.in_ok-payload.ensures c.in_ok-line.ensures c.in_ok-after.ensures in
    (line c.in_ok-kind.kind c.in_ok-payload.payload c.in_ok-line.line c.in_ok-after.after, z.0, z.1, refl)
