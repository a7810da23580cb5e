-- The five numbers as text, or the bytes that they need.
use Rattle.std.proofs.Common.{arith}
use Rattle.script.specs.Answers.{five}
use Rattle.script.proofs.Written.{length_answer, put, put_none}
use Rattle.script.proofs.put_answer.Goals as goal

pub returns-then-out-ge-ANSWER : goal.returns-then-out-ge-ANSWER
returns-then-out-ge-ANSWER c =
    let a = c.args.a in
    put (five a) c.args.out.now 45 (length_answer a.number a.line a.found a.expected a.count) (omega arith) (rw c.numbers.ensures at c.write_answer.ensures)

pub returns-else-out-ge-ANSWER : goal.returns-else-out-ge-ANSWER
returns-else-out-ge-ANSWER c =
    let a = c.args.a in
    put_none (five a) c.args.out.now 45 (length_answer a.number a.line a.found a.expected a.count) (omega arith)
