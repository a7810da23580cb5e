-- `write_answer`: five fields, one after the other.
use Rattle.lines.proofs.Text.{put_answer_lem}
use Rattle.lines.proofs.write_answer.Goals as goal

pub returns : goal.returns
returns c =
    put_answer_lem c.args.out.now _ _ _ _ _
    c.put_number.ensures c.put_number-2.ensures c.put_number-3.ensures c.put_number-4.ensures c.put_number-5.ensures
