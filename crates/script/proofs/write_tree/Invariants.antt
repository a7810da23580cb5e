-- Before turn i the first i records are written.
use Rattle.std.proofs.Common.{◌*◌, take}
use Rattle.script.specs.Parts.{Wrote}
use Rattle.script.proofs.write_tree.Given as goal

abbrev pub invariant-loop-i : goal.invariant-loop-i
invariant-loop-i l = Wrote (take (l.i * 4) l.words) l.initial.out l.out
