-- A turn writes one record more; at the end all are written.
use Rattle.std.proofs.Common.{◌≡◌, ◌/◌, ◌*◌, List, [], ℕ, get_or, take, length, ap, subst, arith}
use Rattle.std.proofs.Math.Seq.{take_all}
use Rattle.script.specs.Parts.{Wrote}
use Rattle.script.proofs.Written.{wrote_more}
use Rattle.script.proofs.write_tree.Goals as goal

pub loop-i-preserved : goal.loop-i-preserved
loop-i-preserved c =
    let ws = c.args.words.now in
    let a = c.as_chunks.ensures in
    let i = c.loop-i.i in
    wrote_more ws c.args.out.now (length ws / 4) i (get_or c.as_chunks.result.0.now i []) [] (omega arith) (omega (arith, a.front_len))
    (ap (λ (x : List (List ℕ)). get_or x i []) a.front) c.loop-i.invariant c.write_line.ensures

pub returns : goal.returns
returns c =
    let ws = c.args.words.now in
    let e : take (c.loop-i.i * 4) ws ≡ ws = take_all (c.loop-i.i * 4) ws (omega (arith, c.as_chunks.ensures.front_len)) in
    subst (λ (x : List ℕ). Wrote x c.args.out.now c.loop-i.out) e c.loop-i.invariant
