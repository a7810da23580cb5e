-- The line word of a record.
use Rattle.std.proofs.Common.{sym}
use Rattle.stream.proofs.Words.{word_at}
use Rattle.parser.proofs.place.Script.line.Goals as goal

pub returns : goal.returns
returns c = sym (word_at c.args.self.now.stream.now c.args.at.now.cursor.place 2 0 c.requires)
