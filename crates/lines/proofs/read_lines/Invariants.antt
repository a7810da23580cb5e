-- Before each turn some lines are stored, and the text is theirs and what is left.
use Rattle.std.proofs.Common.{◌≡◌, ◌++◌, List}
use Rattle.std.specs.Slice.Iter.{chunks_rest, chunks_size}
use Rattle.lines.specs.Lines.{Line, show, Taken}
use Rattle.lines.proofs.read_lines.Given as goal

abbrev pub invariant-loop-bytes : goal.invariant-loop-bytes
invariant-loop-bytes l =
    (lines : List Line) × (chunks_size l.bytes-iterator ≡ 38) × Taken lines l.index l.most l.initial.stream l.stream
    × (l.text ≡ show lines ++ chunks_rest l.bytes-iterator)
