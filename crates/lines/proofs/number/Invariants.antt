-- Before each turn the digits so far are those of a number of so many digits.
use Rattle.std.proofs.Common.{◌≡◌, ◌^◌, ◌<◌, take}
use Rattle.lines.specs.Lines.{hex}
use Rattle.lines.proofs.number.Given as goal

abbrev pub invariant-loop-b : goal.invariant-loop-b
invariant-loop-b l = (l.v < 16 ^ l.b-index) × (take l.b-index l.digits ≡ hex l.b-index l.v)
