-- The agreed reading of the lines, or refusal 6 with the line at fault.
use Rattle.std.proofs.Common.{replicate}
use Rattle.script.proofs.Said.{answers_read, answers_bad}
use Rattle.script.proofs.answer.Goals as goal

pub returns-in-Ok : goal.returns-in-Ok
returns-in-Ok c = answers_read c.args.text.now c.args.out.now c.read_lines.new.stream c.in-Ok.n c.read.result c.in-Ok.ensures c.read.ensures

pub returns-in-Err : goal.returns-in-Err
returns-in-Err c =
    answers_bad c.args.text.now c.args.out.now (replicate 4100 0) c.read_lines.new.stream c.in-Err.bad c.put_answer.result c.in-Err.ensures c.put_answer.ensures
