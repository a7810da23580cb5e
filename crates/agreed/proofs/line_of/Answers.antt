-- The line word of a record, or 0 past the last.
use Rattle.std.proofs.Common.{sym}
use Rattle.stream.proofs.Words.{word_at, word_past}
use Rattle.agreed.proofs.line_of.Goals as goal

pub returns-then-place-stream : goal.returns-then-place-stream
returns-then-place-stream c = sym (word_at c.args.stream.now c.args.place 2 0 c.if-place-stream.true)

pub returns-else-place-stream : goal.returns-else-place-stream
returns-else-place-stream c = sym (word_past c.args.stream.now c.args.place 2 0 c.if-place-stream.false)
