-- The tree's lines, or the bytes that they need.
use Rattle.std.proofs.Common.{◌*◌, ◌/◌, length, refl, arith}
use Rattle.script.proofs.Written.{put_tree_lem, put_tree_none}
use Rattle.script.proofs.put_tree.Goals as goal

pub returns-then-out-bytes : goal.returns-then-out-bytes
returns-then-out-bytes c =
    let ws = c.args.words.now in
    put_tree_lem ws c.args.out.now (length ws / 4 * 38) c.requires.0 refl (omega arith) c.write_tree.ensures

pub returns-else-out-bytes : goal.returns-else-out-bytes
returns-else-out-bytes c =
    let ws = c.args.words.now in
    put_tree_none ws c.args.out.now (length ws / 4 * 38) c.requires.0 refl (omega arith)
