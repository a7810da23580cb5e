-- The steps to come from here are those from the beginning, over the same stream.
use Rattle.std.proofs.Common.{◌-◌, ◌≡◌}
use Rattle.tokens.specs.Steps.{steps}
use Rattle.tokens.proofs.TokenReader.step_over.Given as goal

abbrev pub invariant-loop : goal.invariant-loop
invariant-loop l = record {
  same : l.self.stream ≡ l.fn.self.stream;
  left : steps l.fn.self.stream.now l.fn.self.cursor l.n ≡ steps l.fn.self.stream.now l.self.cursor (l.n - l.counter);
}
