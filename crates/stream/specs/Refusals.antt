-- The number of each fault and the code of each thing expected, as in docs/FORMAT.md. Assumes nothing: these are definitions.
use Rattle.std.specs.Prelude.{ℕ}
use Rattle.stream.specs.declared.refusals.Fault.{Fault}
use Rattle.stream.specs.declared.refusals.Fault.TheVariants.{Unexpected, EndOfStream, NoTarget, NoStatement, TooDeep, Malformed, NoRoom, Quarrel}
use Rattle.stream.specs.declared.refusals.Expected.{Expected}
use Rattle.stream.specs.declared.refusals.Expected.TheVariants.{Name, Primary, Arguments, Parameter, ForClause}

abbrev pub fault_number : Fault → ℕ
fault_number Unexpected = 1
fault_number EndOfStream = 2
fault_number NoTarget = 3
fault_number NoStatement = 4
fault_number TooDeep = 5
fault_number Malformed = 6
fault_number NoRoom = 7
fault_number Quarrel = 8

abbrev pub expected_code : Expected → ℕ
expected_code Name = 60
expected_code Primary = 61
expected_code Arguments = 62
expected_code Parameter = 63
expected_code ForClause = 64
