-- What the loop over field names keeps.
use Prim.Native.Nat.{◌-◌}
use Rattle.stream.specs.Words.{records}
use Rattle.parser.specs.Parts as P
use Rattle.parser.proofs.Loops.{Turning}
use Rattle.parser.proofs.place.Script.field_names.Given as goal

abbrev pub invariant-loop-token : goal.invariant-loop-token
invariant-loop-token l = Turning l.self 0 0 P.fieldnames l.initial.at l.at l.initial.nodes l.nodes l.value

abbrev pub decreases-loop-token : goal.decreases-loop-token
decreases-loop-token l = records l.self.stream.now - l.at.cursor.place
