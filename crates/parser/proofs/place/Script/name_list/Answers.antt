-- Name {',' Name}
use mathlib.Core.Path.{ap}
use native.Mathlib.Omega.{arith}
use Rattle.tree.specs.Forest.{none}
use Rattle.grammar.specs.Reading.{read, add}
use Rattle.parser.proofs.Kit.{revalue, weighed, stop, past, both}
use Rattle.parser.proofs.Members.{handed}
use Rattle.parser.proofs.place.Script.name_list.Goals as goal

pub returns-in_err-name : goal.returns-in_err-name
unfolding read
returns-in_err-name c = rw (handed c.from_residual.result c.from_residual.ensures.1) (stop _ c.in_err-name.ensures)

pub returns-in_err-more : goal.returns-in_err-more
unfolding read
returns-in_err-more c = let f = c.in_ok-name.ensures in rw (handed c.from_residual-in_err-more.result c.from_residual-in_err-more.ensures.1) (past _ f (ap (add none 1) c.in_err-more.ensures))

pub returns : goal.returns
unfolding read
returns c =
    let f = c.in_ok-name.ensures in
    let y = c.in_ok-more.ensures in (revalue (omega arith) (both _ f (weighed 1 y.0) (omega arith)), omega (arith, y.1, f.later))
