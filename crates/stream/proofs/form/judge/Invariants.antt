-- Before turn i the first i records are good, in a length that is right.
use Rattle.std.proofs.Common.{◌≡◌, ℕ, ◌+◌, ◌<◌, true}
use Rattle.stream.specs.Words.{records}
use Rattle.stream.specs.Formed.{good, sized}
use Rattle.stream.proofs.form.judge.Given as goal

abbrev pub invariant-loop-index : goal.invariant-loop-index
invariant-loop-index l = record { size : sized l.stream ≡ true; end : l.last + 1 ≡ records l.stream; each : (p : ℕ) → p < l.index → good l.stream p ≡ true }
