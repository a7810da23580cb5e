-- A token that is a record by itself.
use native.Mathlib.Omega.{arith}
use mathlib.Core.Path.{sym}
use Rattle.operators.specs.Ranks.{ranks}
use Rattle.tree.specs.Forest.{none}
use Rattle.tree.specs.Tags.{tag_word}
use Rattle.grammar.specs.Term.{any}
use Rattle.grammar.specs.Reading.{read, hold}
use Rattle.grammar.specs.Levels.{readers}
use Rattle.parser.specs.Contract.{again}
use Rattle.parser.proofs.Steps.{took_next}
use Rattle.parser.proofs.Kit.{stop}
use Rattle.parser.proofs.Tokens.{any_says, leaf_after}
use Rattle.parser.proofs.Members.{no_token, handed}
use Rattle.parser.proofs.place.Script.leaf.Goals as goal

pub returns-in_err-token : goal.returns-in_err-token
unfolding read
returns-in_err-token c = rw (handed c.from_residual.result c.from_residual.ensures.1) (stop _ (no_token c.args.self.now c.args.at.now.cursor c.in_err-token.ensures))

pub returns : goal.returns
returns c =
    let x = c.args.self.now in
    let d = c.args.at.now.cursor in
    leaf_after x.stream.now (ranks x.ranking) 0 (readers x.stream.now (ranks x.ranking) x.levels) (hold 0 0 none) again d c.args.nodes.now c.args.at.now.used 0 (tag_word c.args.tag) c.requires.1 x.formed (omega (arith, c.requires.0.room))
    c.leaf.ensures any (any_says x.stream.now (ranks x.ranking) 0 (readers x.stream.now (ranks x.ranking) x.levels) (hold 0 0 none) again d (sym c.in_ok-token.ensures)) (took_next x.stream.now d (sym c.in_ok-token.ensures))
