-- `reading` meets its contract.
use mathlib.Core.Path.{◌≡◌, refl, ap, ◌∙◌, subst}
use Prim.Native.Nat.{ℕ, ◌*◌}
use native.Mathlib.Omega.{arith}
use lib.ListN.{replicate}
use Rattle.tree.specs.Forest.{size}
use Rattle.parser.specs.Answered.{Answered, counting as counting'}
use Rattle.parser.proofs.Whole.{answered_refused, answered_room, answered_short, noted_refused, noted_read}
use Rattle.parser.proofs.reading.Goals.{then-nodes-count, else-nodes-count}
use Rattle.parser.proofs.reading.Goals as goal

pub returns-in-Err-chunk : goal.returns-in-Err-chunk
returns-in-Err-chunk c =
    let x = c.in-Err-chunk.ensures in
    rw c.cleared-in-Err-chunk.ensures.0
    (answered_refused c.args.stream.now c.args.ranking c.in_default.ensures x (c.cleared-in-Err-chunk.ensures.1 ∙ ap (λ (z : ℕ). replicate z 0) c.chunk.auto.nodes), noted_refused c.args.stream.now c.args.ranking x)

pub returns-after-nodes-count : goal.returns-after-nodes-count
returns-after-nodes-count c =
    let s = c.args.stream.now in
    let n = c.args.nodes.now in
    let f = c.in-Ok.ensures in
    let d = c.in-Ok.end.cursor in
    let w : size f.trees * 4 ≡ c.in-Ok.end.used * 4 = omega (arith, f.grown) in (
      elim c.if-nodes-count.branch [
        | then-nodes-count b ↦ rw b.nodes-is (rw b.number-is (subst (λ (z : ℕ). Answered s c.args.ranking n b.clear.new.nodes (counting' 7 z)) w
            (answered_short s c.args.ranking d c.in_default.ensures f.says (b.clear.ensures ∙ ap (λ (z : ℕ). replicate z 0) c.chunk.auto.nodes) (omega (arith, b.if-nodes-count.true, c.chunk.auto.nodes, w)))))
        | else-nodes-count b ↦ rw b.nodes-is (rw b.number-is (subst (λ (z : ℕ). Answered s c.args.ranking n c.chunk.new.nodes (counting' 0 z)) w
            (answered_room s c.args.ranking d c.in_default.ensures f.says f.laid (omega (arith, b.if-nodes-count.false, c.chunk.auto.nodes, w)))))
      ],
      noted_read s c.args.ranking d c.in_default.ensures f.says f.noted refl,
    )
