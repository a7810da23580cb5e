-- `write_line`: four fields, one after the other.
use Rattle.lines.proofs.Text.{put_line}
use Rattle.lines.proofs.write_line.Goals as goal

pub returns : goal.returns
returns c = put_line c.args.out.now c.args.at _ _ _ _ c.put_number.ensures c.put_number-2.ensures c.put_number-3.ensures c.put_number-4.ensures
