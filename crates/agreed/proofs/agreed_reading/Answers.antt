-- The three answers of Cases: one reading where nothing quarrels, the manual reading's refusal, or the `~=` at fault.
use Rattle.std.proofs.Common.{ℕ, sym, ap, ◌∙◌, subst, replicate}
use Rattle.operators.specs.declared.Ranking.TheVariants.{Crate}
use Rattle.parser.specs.Answered.{Noted}
use Rattle.agreed.proofs.Readings.{kept}
use Rattle.agreed.proofs.Cases.{took_is, left_is, agree, manual_refuses, quarrel}
use Rattle.agreed.proofs.agreed_reading.Goals as goal

pub returns-in_default : goal.returns-in_default
returns-in_default c =
    let a = c.reading-a in
    agree c.args.stream.now c.args.nodes.now a.new.nodes a.result.answer a.ensures.0 (subst (Noted c.args.stream.now Crate) c.in_default.is a.ensures.1)

pub returns-then-not-took : goal.returns-then-not-took
returns-then-not-took c =
    let a = c.reading-a in
    let b = c.manual_reading-b in
    manual_refuses c.args.stream.now c.args.nodes.now a.new.nodes a.result.answer a.ensures.0 c.in-Some.first (subst (Noted c.args.stream.now Crate) c.in-Some.is a.ensures.1) b.new.nodes b.result b.ensures
    (left_is b.result (sym c.took.ensures ∙ c.if-not-took.true))

pub returns : goal.returns
returns c =
    let s = c.args.stream.now in
    let a = c.reading-a in
    let b = c.manual_reading-b in
    rw c.line_of.ensures
    (quarrel s c.args.nodes.now a.new.nodes a.result.answer a.ensures.0 c.in-Some.first (subst (Noted s Crate) c.in-Some.is a.ensures.1) b.new.nodes b.result b.ensures
    (took_is b.result (sym c.took.ensures ∙ c.if-not-took.false)) c.clear.new.nodes
    (c.clear.ensures ∙ ap (λ (z : ℕ). replicate z 0) (kept s _ b.ensures ∙ kept s Crate a.ensures.0)))
