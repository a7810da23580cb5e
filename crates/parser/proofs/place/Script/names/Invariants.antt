-- What the loop over names keeps.
use Prim.Native.Nat.{◌-◌}
use Rattle.stream.specs.Words.{records}
use Rattle.parser.specs.Parts as P
use Rattle.parser.proofs.Loops.{Turning}
use Rattle.parser.proofs.place.Script.names.Given as goal

abbrev pub invariant-loop-at : goal.invariant-loop-at
invariant-loop-at l = Turning l.self 0 0 P.names l.initial.at l.at l.initial.nodes l.nodes l.count

abbrev pub decreases-loop-at : goal.decreases-loop-at
decreases-loop-at l = records l.self.stream.now - l.at.cursor.place
