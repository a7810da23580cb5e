-- Before each turn, to store the digits that are left leaves what it would have left at the start.
use Rattle.std.proofs.Common.{◌≡◌, ◌+◌}
use Rattle.std.proofs.lemmas.List.Edits.{sets}
use Rattle.lines.specs.Lines.{hex}
use Rattle.lines.proofs.put_number.Given as goal

abbrev pub invariant-loop-i : goal.invariant-loop-i
invariant-loop-i l = sets l.out (l.at + l.off) (hex l.i l.rest) ≡ sets l.initial.out (l.at + l.off) (hex l.digits l.n)
