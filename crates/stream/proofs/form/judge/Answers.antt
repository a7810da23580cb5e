-- The length is right, or told; record by record good, or the first that is not is told.
use Rattle.std.proofs.Common.{◌≡◌, ◌+◌, ◌-◌, ◌*◌, length, sym, ◌∙◌, arith, below_more, eq-eqb, ne_eqb}
use borrow.Author.Tests.{lt-leb}
use Rattle.stream.specs.Words.{records}
use Rattle.stream.specs.Formed.{tokens, token_words, end_words, good, bad_length, bad_record}
use Rattle.stream.proofs.Words.{words_at, good_token, good_end}
use Rattle.stream.proofs.form.judge.Goals.{After-is_token, After-is_end, then-n-eq0-via-then-n-eq0, then-n-eq0-via-else-n-eq0+then-n-ne0, then-n-eq0-via-else-n-eq0+else-n-ne0+then-n-gt-WORDS}
use Rattle.stream.proofs.form.judge.Goals as goal

pub returns-then-n-eq0 : goal.returns-then-n-eq0
returns-then-n-eq0 c =
    let n = length c.args.stream.now in
    elim c.then-n-eq0.branch [
      | then-n-eq0-via-then-n-eq0 w ↦ bad_length (rw (eq-eqb _ _ w.if-n-eq0.true))
      | then-n-eq0-via-else-n-eq0+then-n-ne0 w ↦ bad_length (rw (ne_eqb _ _ w.if-n-eq0.false, ne_eqb _ _ w.if-n-ne0.true))
      | then-n-eq0-via-else-n-eq0+else-n-ne0+then-n-gt-WORDS w ↦
          bad_length (rw (ne_eqb _ _ w.if-n-eq0.false, eq-eqb _ _ w.if-n-ne0.false, lt-leb n ((tokens + 1) * 4) (omega arith)))
    ]

-- what the two tests say of their records
token : (c : After-is_token) → good c.args.stream.now c.loop-index.index ≡ c.is_token.result
token c =
    let s = c.args.stream.now in
    good_token s c.loop-index.index (omega arith) ∙ words_at token_words s c.loop-index.index (omega arith) ∙ sym c.is_token.ensures

final : (c : After-is_end) → good c.args.stream.now (records c.args.stream.now - 1) ≡ c.is_end.result
final c =
    let s = c.args.stream.now in
    good_end s (records s - 1) (omega arith) ∙ words_at end_words s (records s - 1) (omega arith) ∙ sym c.is_end.ensures

pub returns-then-not-is_token : goal.returns-then-not-is_token
returns-then-not-is_token c =
    let turn = c.loop-index.invariant in
    let e = token (goal.at.returns-then-not-is_token c).After-is_token in
    bad_record turn.size turn.each (omega arith) (e ∙ c.if-not-is_token.true)

pub loop-index-preserved : goal.loop-index-preserved
loop-index-preserved c =
    let turn = c.loop-index.invariant in
    let e = token (goal.at.loop-index-preserved c).After-is_token in
    record { size = turn.size; end = turn.end; each = below_more _ _ turn.each (e ∙ c.if-not-is_token.false) }

pub returns-then-not-is_end : goal.returns-then-not-is_end
returns-then-not-is_end c =
    let turn = c.loop-index.invariant in
    let e = final (goal.at.returns-then-not-is_end c).After-is_end in
    bad_record {p = records c.args.stream.now - 1} turn.size (λ q l. turn.each q (omega arith)) (omega arith) (e ∙ c.if-not-is_end.true)

pub returns : goal.returns
returns c =
    let turn = c.loop-index.invariant in
    let e = final (goal.at.returns c).After-is_end in
    record { size = turn.size; each = λ p h. below_more _ _ (λ q l. turn.each q (omega arith)) (e ∙ c.if-not-is_end.false) p (omega arith) }
