-- A tree's lines where there is one, else the five numbers.
use Rattle.std.proofs.Common.{arith, length-take-le}
use Rattle.script.proofs.Said.{counted, told_tree, told_numbers}
use Rattle.script.proofs.read.Goals as goal

pub slice_bounds-nodes-end : goal.slice_bounds-nodes-end
slice_bounds-nodes-end c = (counted c.args.stream.now c.agreed_reading-a.ensures c.if-a-eq-ACCEPTED.true).2

pub slice_bounds-put_tree-end : goal.slice_bounds-put_tree-end
slice_bounds-put_tree-end c =
    let t = counted c.args.stream.now c.agreed_reading-a.ensures c.if-a-eq-ACCEPTED.true in
    omega (arith, length-take-le c.agreed_reading-a.result.count c.agreed_reading-a.new.nodes t.2)

pub put_tree-requires : goal.put_tree-requires
put_tree-requires c =
    let t = counted c.args.stream.now c.agreed_reading-a.ensures c.if-a-eq-ACCEPTED.true in
    let n = length-take-le c.agreed_reading-a.result.count c.agreed_reading-a.new.nodes t.2 in
    (omega arith, omega arith)

pub returns-then-a-eq-ACCEPTED : goal.returns-then-a-eq-ACCEPTED
returns-then-a-eq-ACCEPTED c = told_tree c.args.stream.now c.args.out.now c.put_tree.result c.agreed_reading-a.ensures c.if-a-eq-ACCEPTED.true c.put_tree.ensures

pub returns-else-a-eq-ACCEPTED : goal.returns-else-a-eq-ACCEPTED
returns-else-a-eq-ACCEPTED c = told_numbers c.args.stream.now c.args.out.now c.put_answer.result c.agreed_reading-a.ensures c.if-a-eq-ACCEPTED.false c.put_answer.ensures
