-- `takes` says that an answer has no more bytes than `out` has room for.
use Rattle.std.proofs.Common.{arith, length-take}
use Rattle.script.proofs.Decided.{takes}
use Rattle.intake.proofs.main.Goals as goal

pub slice_bounds-out-end : goal.slice_bounds-out-end
slice_bounds-out-end c = omega (arith, takes _ _ c.answer-k.result c.answer-k.ensures, c.answer-k.auto.out)

pub slice_bounds-write_all-end : goal.slice_bounds-write_all-end
slice_bounds-write_all-end c =
    omega (arith, takes _ _ c.answer-k.result c.answer-k.ensures, c.answer-k.auto.out, length-take c.answer-k.result c.answer-k.new.out)
