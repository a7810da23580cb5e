-- Name
use native.Mathlib.Omega.{arith}
use mathlib.Core.Path.{refl, sym}
use Rattle.operators.specs.Ranks.{ranks}
use Rattle.tree.specs.Forest.{none}
use Rattle.grammar.specs.Reading.{read, hold}
use Rattle.grammar.specs.Levels.{readers}
use Rattle.grammar.specs.Productions.{named}
use Rattle.parser.specs.Contract.{again}
use Rattle.parser.proofs.Steps.{took_name}
use Rattle.parser.proofs.Kit.{stop}
use Rattle.parser.proofs.Tokens.{name_says, leaf_after}
use Rattle.parser.proofs.Members.{no_name, handed}
use Rattle.parser.proofs.place.Script.name.Goals as goal

pub returns-in_err-token : goal.returns-in_err-token
unfolding read
returns-in_err-token c = rw (handed c.from_residual.result c.from_residual.ensures.1) (stop _ (no_name c.args.self.now c.args.at.now.cursor c.in_err-token.ensures))

pub returns : goal.returns
returns c =
    let x = c.args.self.now in
    let d = c.args.at.now.cursor in
    leaf_after x.stream.now (ranks x.ranking) 0 (readers x.stream.now (ranks x.ranking) x.levels) (hold 0 0 none) again d c.args.nodes.now c.args.at.now.used 0 30 (refl, refl, refl) x.formed (omega (arith, c.requires.room)) c.leaf.ensures named
    (name_says x.stream.now (ranks x.ranking) 0 (readers x.stream.now (ranks x.ranking) x.levels) (hold 0 0 none) again d (sym c.in_ok-token.ensures)) (took_name x.stream.now d (sym c.in_ok-token.ensures))
