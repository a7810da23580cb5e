-- `chunk` meets its contract.
use mathlib.Core.Path.{sym, ap, ◌∙◌, subst}
use mathlib.Core.Bool.{false}
use Prim.Native.Nat.{ℕ}
use Rattle.std.specs.Prelude.{None, Result}
use Rattle.stream.specs.declared.reader.Refusal.{Refusal}
use Rattle.operators.specs.Ranks.{ranks}
use Rattle.quarrel.specs.Notes.{note}
use Rattle.grammar.specs.Reading.{fail}
use Rattle.grammar.specs.Levels.{chunk as chunk'}
use Rattle.grammar.specs.Productions.{block as block'}
use Rattle.parser.specs.Contract.{Met, says}
use Rattle.parser.specs.declared.place.Place.{Place}
use Rattle.parser.proofs.Kit.{alter}
use Rattle.parser.proofs.Members.{handed}
use Rattle.parser.proofs.Whole.{start, block_fails, chunk_over, chunk_more}
use Rattle.parser.proofs.chunk.Goals as goal

pub returns-in_err-block : goal.returns-in_err-block
returns-in_err-block c =
    let x = c.args.script.now in
    subst (λ (z : Result Place Refusal). Met x.stream.now (note false None None) 0 0 1 c.args.nodes.now c.block.new.nodes (chunk' x.stream.now (ranks x.ranking) 199) z) (sym (handed c.from_residual.result c.from_residual.ensures.1))
    (block_fails x.stream.now x.ranking (ap (λ (z : ℕ). says x.stream.now x.ranking z block' start) (sym c.requires) ∙ c.in_err-block.ensures))

pub returns-then-is_some : goal.returns-then-is_some
returns-then-is_some c =
    let x = c.args.script.now in
    chunk_more x.stream.now x.ranking (alter (ap (λ (z : ℕ). says x.stream.now x.ranking z block' start) (sym c.requires)) c.in_ok-block.ensures) c.look_ahead.result c.look_ahead.ensures c.if-is_some.ensures
    ∙ ap (λ (z : ℕ). fail (record { number = 2; line = z; found = 0; expected = 0 })) (sym c.reading_line-line.ensures) ∙ ap fail (sym c.at_line.ensures)

pub returns : goal.returns
returns c =
    let x = c.args.script.now in
    chunk_over x.stream.now x.ranking (alter (ap (λ (z : ℕ). says x.stream.now x.ranking z block' start) (sym c.requires)) c.in_ok-block.ensures) c.look_ahead.result c.look_ahead.ensures c.if-is_some.ensures
