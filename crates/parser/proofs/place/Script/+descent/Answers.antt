-- The members of the descent meet their contracts, one after the other.

use Rattle.grammar.proofs.Among.{one, other, among, nor, Unlike}
use Rattle.grammar.specs.Grammar.{first_suffix}
use Rattle.grammar.specs.Levels.{readers}
use Rattle.grammar.specs.Member.{member}
use Rattle.grammar.specs.Productions.{block as block', look, word, whilestat, dostat, ifstat, retstat, explist, expr, statement as statement', forstat, repeatstat, functionstat, localfunction, localstat, label as label', breakstat, gotostat, exprstat, nameleaf, funcbody, table as table', field as field', suffixed as suffixed', suffix as suffix', primary as primary', args as args', head as head', simple as simple', tail as tail', tails as tails', expression as expression', parlist, named, args, suffix, primary, suffixed}
use Rattle.grammar.specs.Reading.{Out, fine, fail, hold, read, wrap, add, then, keep, loop, Reader}
use Rattle.grammar.specs.Term.{Term, opening, closing, any, plus, check, ahead, on, empty, opt, stat as stat', second, again as again', ◌⨾◌, unlined, target, call as call', many, leaf, kept as kept', iter, exp as exp', coded as coded', operand as operand', here, weigh, refuse, node}
use Rattle.operators.proofs.Laws.{binary_found, binary_none, end_left}
use Rattle.operators.specs.Ranks.{ranks, code}
use Rattle.operators.specs.declared.Priority.{Priority}
use Rattle.parser.proofs.Around.{looping, settled, stats_down, settled_end, lead_stop, held_at, keep_fine, keep_fail, exps_down}
use Rattle.parser.proofs.Choices.{either, for_ends, for_numeric, for_generic, for_neither, statement_ends, statement_assigns, statement_calls, Holding, First, Following, Expression, Turn, Among, Separated, Closing, fields_close, fields_go_on, field_there, field_read}
use Rattle.parser.proofs.Heads.{head_in, head_out, operator_in, operator_out, operator_end, binary_right}
use Rattle.parser.proofs.Kit.{stop, past, both, over, revalue, lower, alter, renoted, roomier, weighed, looked, onward, moved, moved_sum, ready_at, ready_seen, turns, ends, fails, then_assoc3, looks, then_assoc, weighs, goes, kept, revalue_going, still, over_held, over_expression, held_of, add_none, ready_open, begin, over_own}
use Rattle.parser.proofs.LastPart.{suffixed_fits, called, tag_is, last_from, last_tag, dotted_is, index_is, method_is, call_is, suffix_part, suffix_tag, turns_last, parts_last}
use Rattle.parser.proofs.Looks.{look_again, Row, choice, pick, by_none, by_kind, by_others, kinds, refused, take_fails, take_gets, take_takes}
use Rattle.parser.proofs.Loops.{many_ends, many_fails, many_turns, many_place}
use Rattle.parser.proofs.Members.{no_word, no_token, a_word, a_token, handed, rest, at_cursor, a_name, no_name, weight}
use Rattle.parser.proofs.Quiet.{table_quiet, text_quiet}
use Rattle.parser.proofs.Steps.{check_in, check_out, check_place, check_note, look_in, look_out, end_in, end_out, look_place, look_note, end_place, end_note, saw_real, get_place, get_note, second_in, second_out, took_name, took_kind, took_next, next_fail, next_in, next_out, saw_kind}
use Rattle.parser.proofs.Tokens.{weigh_fine, leaf_fine, paid, any_fail, any_fine, word_fail, word_fine, any_says, leaf_after}
use Rattle.parser.proofs.Weights.{exps_light, light_fine, light_fail, args_light}
use Rattle.parser.proofs.place.Script.+descent.Goals.{returned-in_default-kind-via-then-token-lt2, returned-in_default-kind-via-else-token-lt2+else-token-lt5, statements-in_default-kind-via-then-token-lt2, statements-in_default-kind-via-else-token-lt2+else-token-lt5, fields-else-loop-at-test, fields-then-loop-at-test+in_ok-field+in_ok-token+in_default, suffixed-in-Some+in_ok-tag+in_default-2, suffixed-in_default}
use Rattle.parser.specs.Contract.{Fine, says, again, under, misfit, Sums, Ready}
use Rattle.parser.specs.declared.place.Place.{Place}
use Rattle.parser.specs.declared.place.Script.{Script}
use Rattle.quarrel.specs.Notes.{hears}
use Rattle.std.proofs.Common.{◌≡◌, ◌+◌, ℕ, ◌-◌, ◌*◌, ◌<◌, ◌≤◌, length, true, false, List, [], ◌∷◌}
use Rattle.std.specs.Prelude.{Some, None, Ok, Err, Result}
use Rattle.stream.specs.Reader.{check_ahead, look_ahead, get_next, read_ahead, take_next}
use Rattle.stream.specs.Words.{records, line as line_at, payload, kind, kind as kind_at}
use Rattle.stream.specs.declared.reader.Cursor.{Cursor}
use Rattle.stream.specs.declared.reader.Note.{Note}
use Rattle.stream.specs.declared.reader.Refusal.{Refusal}
use Rattle.stream.specs.declared.reader.Token.{Token}
use Rattle.tree.specs.Forest.{none}
use Rattle.tree.specs.Tags.{tag_word}
use lib.Dec.{eqb}
use mathlib.Core.Logic.{inl, inr, by_cases, ◌⊎◌}
use mathlib.Core.Path.{refl, sym, ap, ◌∙◌, subst}
use native.Mathlib.Decide.{ℕ_discrete}
use native.Mathlib.Omega.{arith}
use Rattle.parser.specs.Parts as P
use Rattle.parser.proofs.place.Script.+descent.Goals as goal

-- The members of the descent meet their contracts, one after the other.

pub while_statement-returns-in_err-expect_next : goal.while_statement-returns-in_err-expect_next
unfolding read whilestat
while_statement-returns-in_err-expect_next t c = rw (handed c.from_residual.result c.from_residual.ensures.1) (ap (wrap c.args.self.now.stream.now 4 opening c.args.at.now.cursor.place) (stop _ (no_word c.args.self.now c.args.at.now.cursor 21 refl refl c.in_err-expect_next.ensures)))

pub while_statement-expression-requires : goal.while_statement-expression-requires
while_statement-expression-requires t c =
    let w = a_word c.args.self.now c.args.at.now.cursor c.args.nodes.now (c.args.at.now.used + 1) 0 (omega (arith, c.requires.room)) 21 refl refl c.in_ok-expect_next.ensures in
    (omega arith, ready_at w (omega arith))

pub while_statement-returns-in_err-expression : goal.while_statement-returns-in_err-expression
unfolding read whilestat
while_statement-returns-in_err-expression t c =
    let x = c.args.self.now in
    let p = c.args.at.now in
    let w = a_word x p.cursor c.args.nodes.now (p.used + 1) 0 (omega (arith, c.requires.room)) 21 refl refl c.in_ok-expect_next.ensures in
    rw (handed c.from_residual-in_err-expression.result c.from_residual-in_err-expression.ensures.1) (ap (wrap x.stream.now 4 opening p.cursor.place) (past _ w (stop _ c.in_err-expression.ensures)))

pub while_statement-returns-in_err-loop_body : goal.while_statement-returns-in_err-loop_body
unfolding read whilestat
while_statement-returns-in_err-loop_body t c =
    let x = c.args.self.now in
    let p = c.args.at.now in
    let w = a_word x p.cursor c.args.nodes.now (p.used + 1) 0 (omega (arith, c.requires.room)) 21 refl refl c.in_ok-expect_next.ensures in
    rw (handed c.from_residual-in_err-loop_body.result c.from_residual-in_err-loop_body.ensures.1) (ap (wrap x.stream.now 4 opening p.cursor.place) (past _ w (past (rest x P.body) c.in_ok-expression.ensures c.in_err-loop_body.ensures)))

pub while_statement-returns : goal.while_statement-returns
unfolding read whilestat
while_statement-returns t c =
    let x = c.args.self.now in
    let p = c.args.at.now in
    let w = a_word x p.cursor c.args.nodes.now (p.used + 1) 0 (omega (arith, c.requires.room)) 21 refl refl c.in_ok-expect_next.ensures in
    over 4 opening p.cursor.place c.line-line.result (refl, refl, refl) (both _ w (both (rest x P.body) c.in_ok-expression.ensures c.in_ok-loop_body.ensures (omega arith)) (omega arith)) c.close.ensures c.line-line.ensures

pub do_statement-returns-in_err-take_next : goal.do_statement-returns-in_err-take_next
unfolding read dostat
do_statement-returns-in_err-take_next t c = rw (handed c.from_residual.result c.from_residual.ensures.1) (ap (wrap c.args.self.now.stream.now 5 opening c.args.at.now.cursor.place) (stop _ (no_token c.args.self.now c.args.at.now.cursor c.in_err-take_next.ensures)))

pub do_statement-ended_block-requires : goal.do_statement-ended_block-requires
do_statement-ended_block-requires t c =
    let w = a_token c.args.self.now c.args.at.now.cursor c.args.nodes.now (c.args.at.now.used + 1) 0 (omega (arith, c.requires.room)) c.in_ok-take_next.ensures in
    (omega arith, ready_at w (omega arith))

pub do_statement-returns-in_err-ended_block : goal.do_statement-returns-in_err-ended_block
unfolding read dostat
do_statement-returns-in_err-ended_block t c =
    let x = c.args.self.now in
    let p = c.args.at.now in
    let w = a_token x p.cursor c.args.nodes.now (p.used + 1) 0 (omega (arith, c.requires.room)) c.in_ok-take_next.ensures in
    rw (handed c.from_residual-in_err-ended_block.result c.from_residual-in_err-ended_block.ensures.1) (ap (wrap x.stream.now 5 opening p.cursor.place) (past (rest x P.ended) w c.in_err-ended_block.ensures))

pub do_statement-returns : goal.do_statement-returns
unfolding read dostat
do_statement-returns t c =
    let x = c.args.self.now in
    let p = c.args.at.now in
    let w = a_token x p.cursor c.args.nodes.now (p.used + 1) 0 (omega (arith, c.requires.room)) c.in_ok-take_next.ensures in
    over 5 opening p.cursor.place c.line-line.result (refl, refl, refl) (both (rest x P.ended) w c.in_ok-ended_block.ensures (omega arith)) c.close.ensures c.line-line.ensures

pub loop_body-returns-in_err-expect_next : goal.loop_body-returns-in_err-expect_next
unfolding read
loop_body-returns-in_err-expect_next t c = rw (handed c.from_residual.result c.from_residual.ensures.1) (stop _ (no_word c.args.self.now c.args.at.now.cursor 1 refl refl c.in_err-expect_next.ensures))

pub loop_body-ended_block-requires : goal.loop_body-ended_block-requires
loop_body-ended_block-requires t c =
    let w = a_word c.args.self.now c.args.at.now.cursor c.args.nodes.now c.args.at.now.used 0 (omega (arith, c.requires.room)) 1 refl refl c.in_ok-expect_next.ensures in
    (omega arith, ready_at w (omega arith))

pub loop_body-returns : goal.loop_body-returns
unfolding read
loop_body-returns t c =
    let x = c.args.self.now in
    let p = c.args.at.now in
    let w = a_word x p.cursor c.args.nodes.now p.used 0 (omega (arith, c.requires.room)) 1 refl refl c.in_ok-expect_next.ensures in
    onward 0 c.ended_block.new.nodes (rest x P.ended) w c.ended_block.new.at c.ended_block.result c.ended_block.ensures (omega arith)

pub ended_block-returns-in_err-block : goal.ended_block-returns-in_err-block
unfolding read
ended_block-returns-in_err-block t c = rw (handed c.from_residual.result c.from_residual.ensures.1) (stop (rest c.args.self.now (word 4)) c.in_err-block.ensures)

pub ended_block-returns-in_err-expect_next : goal.ended_block-returns-in_err-expect_next
unfolding read
ended_block-returns-in_err-expect_next t c = rw (handed c.from_residual-in_err-expect_next.result c.from_residual-in_err-expect_next.ensures.1) (past (rest c.args.self.now (word 4)) c.in_ok-block.ensures (no_word c.args.self.now c.block.new.at.cursor 4 refl refl c.in_err-expect_next.ensures))

pub ended_block-returns : goal.ended_block-returns
unfolding read
ended_block-returns t c =
    let x = c.args.self.now in
    let f = c.in_ok-block.ensures in
    let w = a_word x c.block.new.at.cursor c.block.new.nodes c.block.new.at.used 0 (omega (arith, f.room)) 4 refl refl c.in_ok-expect_next.ensures in
    lower (c.args.at.now.cursor.place + 1) (both (rest x (word 4)) f w (omega arith)) (omega (arith, f.later, w.later))

pub arm-returns-in_err-expression : goal.arm-returns-in_err-expression
unfolding read
arm-returns-in_err-expression t c = rw (handed c.from_residual.result c.from_residual.ensures.1) (stop (rest c.args.self.now (word 18 ⨾ block')) c.in_err-expression.ensures)

pub arm-returns-in_err-expect_next : goal.arm-returns-in_err-expect_next
unfolding read
arm-returns-in_err-expect_next t c = rw (handed c.from_residual-in_err-expect_next.result c.from_residual-in_err-expect_next.ensures.1) (past (rest c.args.self.now (word 18 ⨾ block')) c.in_ok-expression.ensures (stop _ (no_word c.args.self.now c.expression.new.at.cursor 18 refl refl c.in_err-expect_next.ensures)))

pub arm-block-requires : goal.arm-block-requires
arm-block-requires t c =
    let f = c.in_ok-expression.ensures in
    let w = a_word c.args.self.now c.expression.new.at.cursor c.expression.new.nodes c.expression.new.at.used 0 (omega (arith, f.room)) 18 refl refl c.in_ok-expect_next.ensures in
    (omega arith, ready_at w (omega arith))

pub arm-returns : goal.arm-returns
unfolding read
arm-returns t c =
    let x = c.args.self.now in
    let f = c.in_ok-expression.ensures in
    let w = a_word x c.expression.new.at.cursor c.expression.new.nodes c.expression.new.at.used 0 (omega (arith, f.room)) 18 refl refl c.in_ok-expect_next.ensures in
    onward 1 c.block.new.nodes (rest x (word 18 ⨾ block')) f c.block.new.at c.block.result (onward 1 c.block.new.nodes (rest x block') w c.block.new.at c.block.result c.block.ensures (omega arith)) (omega arith)

-- one of the kinds in a row, from 2 to 4
ranged : (Z : ℕ → Type 0) → Z 2 → Z 3 → Z 4 → (k : ℕ) → 2 ≤ k → k < 5 → Z k
ranged Z a b d k l m =
    by_cases (ℕ_discrete k 2)
    (λ e. subst Z (sym e) a)
    (λ n. by_cases (ℕ_discrete k 3) (λ e. subst Z (sym e) b) (λ n'. let e : k ≡ 4 = omega (arith, l, m, n, n') in subst Z (sym e) d))

-- [else block]: there is none; it comes
module _ (x : Script) (c : Cursor) {d : Cursor} where
  no_otherwise : (false, d) ≡ check_ahead x.stream.now c 0 2 → at_cursor x P.otherwise c ≡ fine d.place d.mark none 0
  unfolding read
  no_otherwise y = check_out x.stream.now (ranks x.ranking) 0 (readers x.stream.now (ranks x.ranking) x.levels) (hold 0 0 none) again c 2 (any ⨾ plus 1 ⨾ block') empty (λ z. omega arith) y refl

  one_otherwise : (true, d) ≡ check_ahead x.stream.now c 0 2 → at_cursor x P.otherwise c ≡ then (at_cursor x any d) (rest x (plus 1 ⨾ block'))
  unfolding read
  one_otherwise y = check_in x.stream.now (ranks x.ranking) 0 (readers x.stream.now (ranks x.ranking) x.levels) (hold 0 0 none) again c 2 (any ⨾ plus 1 ⨾ block') empty (λ z. omega arith) y refl

pub otherwise-returns-then-not-check_ahead : goal.otherwise-returns-then-not-check_ahead
otherwise-returns-then-not-check_ahead t c =
    let x = c.args.self.now in
    let p = c.args.at.now in
    let l = check_place x.stream.now p.cursor 0 2 c.if-not-check_ahead.ensures in
    (looked c.args.nodes.now p.used 1 p.cursor c.check_ahead.new.self (no_otherwise x p.cursor c.if-not-check_ahead.ensures) l (check_note x.stream.now p.cursor 0 2 c.if-not-check_ahead.ensures) c.requires.at (omega (arith, c.requires.room)), omega (arith, l))

pub otherwise-returns-in_err-take_next : goal.otherwise-returns-in_err-take_next
otherwise-returns-in_err-take_next t c =
    let x = c.args.self.now in
    rw (handed c.from_residual.result c.from_residual.ensures.1) (one_otherwise x c.args.at.now.cursor c.if-not-check_ahead.ensures ∙ stop (rest x (plus 1 ⨾ block')) (no_token x c.check_ahead.new.self c.in_err-take_next.ensures))

pub otherwise-block-requires : goal.otherwise-block-requires
otherwise-block-requires t c =
    let x = c.args.self.now in
    let p = c.args.at.now in
    let l = check_place x.stream.now p.cursor 0 2 c.if-not-check_ahead.ensures in
    let w = a_token x c.check_ahead.new.self c.args.nodes.now p.used 0 (omega (arith, c.requires.room, l)) c.in_ok-take_next.ensures in
    (omega arith, ready_at w (omega arith))

pub otherwise-returns-in_err-block : goal.otherwise-returns-in_err-block
unfolding read
otherwise-returns-in_err-block t c =
    let x = c.args.self.now in
    let p = c.args.at.now in
    let l = check_place x.stream.now p.cursor 0 2 c.if-not-check_ahead.ensures in
    let w = a_token x c.check_ahead.new.self c.args.nodes.now p.used 0 (omega (arith, c.requires.room, l)) c.in_ok-take_next.ensures in
    rw (handed c.from_residual-in_err-block.result c.from_residual-in_err-block.ensures.1) (one_otherwise x p.cursor c.if-not-check_ahead.ensures ∙ past (rest x (plus 1 ⨾ block')) w (ap (add none 1) c.in_err-block.ensures))

pub otherwise-returns : goal.otherwise-returns
unfolding read
otherwise-returns t c =
    let x = c.args.self.now in
    let p = c.args.at.now in
    let l = check_place x.stream.now p.cursor 0 2 c.if-not-check_ahead.ensures in
    let w = a_token x c.check_ahead.new.self c.args.nodes.now p.used 0 (omega (arith, c.requires.room, l)) c.in_ok-take_next.ensures in
    let f = c.in_ok-block.ensures in
    let b = both (rest x (plus 1 ⨾ block')) w (weighed 1 f) (omega arith) in
    (lower p.cursor.place (alter (one_otherwise x p.cursor c.if-not-check_ahead.ensures) (renoted (check_note x.stream.now p.cursor 0 2 c.if-not-check_ahead.ensures) b)) (omega (arith, b.later, l)), omega (arith, b.later, l))

-- [retstat]: the end; another token; it comes
module _ (x : Script) (c : Cursor) {d : Cursor} where
  end_returns : look_ahead x.stream.now c 0 ≡ (None, d) → at_cursor x P.returns c ≡ fine d.place d.mark none 0
  unfolding read
  end_returns y = end_out x.stream.now (ranks x.ranking) 0 (readers x.stream.now (ranks x.ranking) x.levels) (hold 0 0 none) again c (17 ∷ []) (plus 1 ⨾ retstat) empty y refl

  no_returns : {t : Token} → look_ahead x.stream.now c 0 ≡ (Some t, d) → (t.kind ≡ 17 → ⊥) → at_cursor x P.returns c ≡ fine d.place d.mark none 0
  unfolding read
  no_returns y n = look_out x.stream.now (ranks x.ranking) 0 (readers x.stream.now (ranks x.ranking) x.levels) (hold 0 0 none) again c (17 ∷ []) (plus 1 ⨾ retstat) empty y (other n)

  one_returns : {t : Token} → look_ahead x.stream.now c 0 ≡ (Some t, d) → t.kind ≡ 17 → at_cursor x P.returns c ≡ add none 1 (at_cursor x retstat d)
  unfolding read
  one_returns y e = look_in x.stream.now (ranks x.ranking) 0 (readers x.stream.now (ranks x.ranking) x.levels) (hold 0 0 none) again c (17 ∷ []) (plus 1 ⨾ retstat) empty y (one e)

pub return_part-returns-in_default : goal.return_part-returns-in_default
return_part-returns-in_default t c =
    let x = c.args.self.now in
    let p = c.args.at.now in
    let l = end_place x.stream.now p.cursor (sym c.in_default.ensures) in
    (looked c.args.nodes.now p.used 1 p.cursor c.look_ahead.new.self (end_returns x p.cursor (sym c.in_default.ensures)) l (end_note x.stream.now p.cursor (sym c.in_default.ensures)) c.requires.at c.requires.room, omega (arith, l))

pub return_part-returns-then-token-ne-RETURN : goal.return_part-returns-then-token-ne-RETURN
return_part-returns-then-token-ne-RETURN t c =
    let x = c.args.self.now in
    let p = c.args.at.now in
    let l = look_place x.stream.now p.cursor (sym c.in-Some.ensures) in
    (looked c.args.nodes.now p.used 1 p.cursor c.look_ahead.new.self (no_returns x p.cursor (sym c.in-Some.ensures) c.if-token-ne-RETURN.true) l (look_note x.stream.now p.cursor (sym c.in-Some.ensures)) c.requires.at c.requires.room, omega (arith, l))

pub return_part-return_statement-requires : goal.return_part-return_statement-requires
return_part-return_statement-requires t c = (omega arith, ready_seen c.look_ahead.new.self c.requires (look_place c.args.self.now.stream.now c.args.at.now.cursor (sym c.in-Some.ensures)))

pub return_part-returns-in_err-return_statement : goal.return_part-returns-in_err-return_statement
return_part-returns-in_err-return_statement t c = rw (handed c.from_residual.result c.from_residual.ensures.1) (one_returns c.args.self.now c.args.at.now.cursor (sym c.in-Some.ensures) c.if-token-ne-RETURN.false ∙ ap (add none 1) c.in_err-return_statement.ensures)

pub return_part-returns : goal.return_part-returns
return_part-returns t c =
    let x = c.args.self.now in
    let p = c.args.at.now in
    let l = look_place x.stream.now p.cursor (sym c.in-Some.ensures) in
    let f = c.in_ok-return_statement.ensures in
    (lower p.cursor.place (roomier 1 (alter (one_returns x p.cursor (sym c.in-Some.ensures) c.if-token-ne-RETURN.false) (weighed 1 (renoted (look_note x.stream.now p.cursor (sym c.in-Some.ensures)) f))) (omega arith)) (omega (arith, l, f.later)), omega (arith, l, f.later))

-- [explist] of a return: the end; a token that ends a block; another
module _ (x : Script) (c : Cursor) {d : Cursor} where
  end_values : look_ahead x.stream.now c 0 ≡ (None, d) → at_cursor x P.values c ≡ fine d.place d.mark none 0
  unfolding read
  end_values y = end_in x.stream.now (ranks x.ranking) 0 (readers x.stream.now (ranks x.ranking) x.levels) (hold 0 0 none) again c (59 ∷ 4 ∷ 45 ∷ 2 ∷ 3 ∷ 20 ∷ []) empty (explist 1) y refl

  no_values : {t : Token} → look_ahead x.stream.now c 0 ≡ (Some t, d) → member t.kind (59 ∷ 4 ∷ 45 ∷ 2 ∷ 3 ∷ 20 ∷ []) ≡ true → at_cursor x P.values c ≡ fine d.place d.mark none 0
  unfolding read
  no_values y e = look_in x.stream.now (ranks x.ranking) 0 (readers x.stream.now (ranks x.ranking) x.levels) (hold 0 0 none) again c (59 ∷ 4 ∷ 45 ∷ 2 ∷ 3 ∷ 20 ∷ []) empty (explist 1) y e

  some_values : {t : Token} → look_ahead x.stream.now c 0 ≡ (Some t, d) → member t.kind (59 ∷ 4 ∷ 45 ∷ 2 ∷ 3 ∷ 20 ∷ []) ≡ false → at_cursor x P.values c ≡ at_cursor x (explist 1) d
  some_values y e = look_out x.stream.now (ranks x.ranking) 0 (readers x.stream.now (ranks x.ranking) x.levels) (hold 0 0 none) again c (59 ∷ 4 ∷ 45 ∷ 2 ∷ 3 ∷ 20 ∷ []) empty (explist 1) y e

pub returned-returns-in_default : goal.returned-returns-in_default
returned-returns-in_default t c =
    let x = c.args.self.now in
    let p = c.args.at.now in
    let l = end_place x.stream.now p.cursor (sym c.in_default.ensures) in
    (looked c.args.nodes.now p.used 0 p.cursor c.look_ahead.new.self (end_values x p.cursor (sym c.in_default.ensures)) l (end_note x.stream.now p.cursor (sym c.in_default.ensures)) c.requires.at c.requires.room, omega (arith, l))

pub returned-expressions-requires : goal.returned-expressions-requires
returned-expressions-requires t c =
    let l = look_place c.args.self.now.stream.now c.args.at.now.cursor (sym c.in-Some.ensures) in
    (omega arith, record { at = omega (arith, c.requires.at, l); room = omega (arith, c.requires.room, l) })

pub returned-returns-in_default-kind : goal.returned-returns-in_default-kind
returned-returns-in_default-kind t c =
    let x = c.args.self.now in
    let p = c.args.at.now in
    let l = look_place x.stream.now p.cursor (sym c.in-Some.ensures) in
    let real = saw_real x.stream.now p.cursor (sym c.in-Some.ensures) in
    let k = c.in-Some.token.kind in
    let y : member k (59 ∷ 4 ∷ 45 ∷ 2 ∷ 3 ∷ 20 ∷ []) ≡ false =
    elim c.in_default-kind.branch [
      | returned-in_default-kind-via-then-token-lt2 w ↦ nor k (59 ∷ 4 ∷ 45 ∷ 2 ∷ 3 ∷ 20 ∷ []) real (λ z. omega arith) (λ z. omega arith) (λ z. omega arith) (λ z. omega arith) (λ z. omega arith)
      | returned-in_default-kind-via-else-token-lt2+else-token-lt5 w ↦ nor k (59 ∷ 4 ∷ 45 ∷ 2 ∷ 3 ∷ 20 ∷ []) real (λ z. omega arith) (λ z. grind arith) (λ z. omega arith) (λ z. omega arith) (λ z. grind arith)
    ] in
    moved_sum x.stream.now (look_note x.stream.now p.cursor (sym c.in-Some.ensures)) p.used 0 c.args.nodes.now c.expressions.new.nodes c.expressions.new.at c.expressions.result (some_values x p.cursor (sym c.in-Some.ensures) y) (omega (arith, l)) (omega (arith, l)) c.expressions.ensures

pub returned-returns-in-4 : goal.returned-returns-in-4
returned-returns-in-4 t c =
    let x = c.args.self.now in
    let p = c.args.at.now in
    let l = look_place x.stream.now p.cursor (sym c.in-Some.ensures) in
    let y : member c.in-Some.token.kind (59 ∷ 4 ∷ 45 ∷ 2 ∷ 3 ∷ 20 ∷ []) ≡ true = elim c.in-4.is [ inl e ↦ among (59 ∷ 4 ∷ 45 ∷ 2 ∷ 3 ∷ 20 ∷ []) e | inr e ↦ among (59 ∷ 4 ∷ 45 ∷ 2 ∷ 3 ∷ 20 ∷ []) e ] in
    (looked c.args.nodes.now p.used 0 p.cursor c.look_ahead.new.self (no_values x p.cursor (sym c.in-Some.ensures) y) l (look_note x.stream.now p.cursor (sym c.in-Some.ensures)) c.requires.at c.requires.room, omega (arith, l))

pub returned-returns-in-4-2 : goal.returned-returns-in-4-2
returned-returns-in-4-2 t c =
    let x = c.args.self.now in
    let p = c.args.at.now in
    let l = look_place x.stream.now p.cursor (sym c.in-Some.ensures) in
    let y : member c.in-Some.token.kind (59 ∷ 4 ∷ 45 ∷ 2 ∷ 3 ∷ 20 ∷ []) ≡ true = ranged (λ (z : ℕ). member z (59 ∷ 4 ∷ 45 ∷ 2 ∷ 3 ∷ 20 ∷ []) ≡ true) refl refl refl c.in-Some.token.kind (omega arith) (omega arith) in
    (looked c.args.nodes.now p.used 0 p.cursor c.look_ahead.new.self (no_values x p.cursor (sym c.in-Some.ensures) y) l (look_note x.stream.now p.cursor (sym c.in-Some.ensures)) c.requires.at c.requires.room, omega (arith, l))

pub return_statement-returns-in_err-expect_next : goal.return_statement-returns-in_err-expect_next
unfolding read retstat
return_statement-returns-in_err-expect_next t c = rw (handed c.from_residual.result c.from_residual.ensures.1) (ap (wrap c.args.self.now.stream.now 2 opening c.args.at.now.cursor.place) (stop _ (no_word c.args.self.now c.args.at.now.cursor 17 refl refl c.in_err-expect_next.ensures)))

pub return_statement-returned-requires : goal.return_statement-returned-requires
return_statement-returned-requires t c =
    let w = a_word c.args.self.now c.args.at.now.cursor c.args.nodes.now (c.args.at.now.used + 1) 0 (omega (arith, c.requires.room)) 17 refl refl c.in_ok-expect_next.ensures in
    (omega arith, ready_at w (omega arith))

pub return_statement-returns-in_err-values : goal.return_statement-returns-in_err-values
unfolding read retstat
return_statement-returns-in_err-values t c =
    let x = c.args.self.now in
    let p = c.args.at.now in
    let w = a_word x p.cursor c.args.nodes.now (p.used + 1) 0 (omega (arith, c.requires.room)) 17 refl refl c.in_ok-expect_next.ensures in
    rw (handed c.from_residual-in_err-values.result c.from_residual-in_err-values.ensures.1) (ap (wrap x.stream.now 2 opening p.cursor.place) (past _ w (stop _ c.in_err-values.ensures)))

pub return_statement-returns-in_err-semicolon : goal.return_statement-returns-in_err-semicolon
unfolding read retstat
return_statement-returns-in_err-semicolon t c =
    let x = c.args.self.now in
    let p = c.args.at.now in
    let w = a_word x p.cursor c.args.nodes.now (p.used + 1) 0 (omega (arith, c.requires.room)) 17 refl refl c.in_ok-expect_next.ensures in
    let f = c.in_ok-values.ensures in
    rw (handed c.from_residual-in_err-semicolon.result c.from_residual-in_err-semicolon.ensures.1) (ap (wrap x.stream.now 2 opening p.cursor.place) (past _ w (past (rest x (opt check (45 ∷ []) any)) f.0 (c.in_err-semicolon.ensures c.returned.new.nodes))))

pub return_statement-close-requires : goal.return_statement-close-requires
return_statement-close-requires t c =
    let f = c.in_ok-values.ensures in
    let k = c.in_ok-semicolon.ensures c.returned.new.nodes in
    omega (arith, f.0.grown, k.grown)

pub return_statement-returns : goal.return_statement-returns
unfolding read retstat
return_statement-returns t c =
    let x = c.args.self.now in
    let p = c.args.at.now in
    let w = a_word x p.cursor c.args.nodes.now (p.used + 1) 0 (omega (arith, c.requires.room)) 17 refl refl c.in_ok-expect_next.ensures in
    let f = c.in_ok-values.ensures in
    let k = c.in_ok-semicolon.ensures c.returned.new.nodes in
    over 2 opening p.cursor.place c.line-line.result (refl, refl, refl) (revalue (omega arith) (both _ w (both (rest x (opt check (45 ∷ []) any)) f.0 k (omega arith)) (omega arith))) c.close.ensures c.line-line.ensures

-- exp then block, and what comes after it in an if
module _ (x : Script) where
  abbrev AfterArm : Term
  AfterArm = P.arms ⨾ P.otherwise ⨾ word 4

  abbrev ArmAndAfter : Term
  ArmAndAfter = expr ⨾ word 18 ⨾ block' ⨾ AfterArm

  arm_and_after : (c : Cursor) → rest x ArmAndAfter c.place c.mark ≡ then (rest x P.arm c.place c.mark) (rest x AfterArm)
  unfolding read
  arm_and_after c = sym (then_assoc3 (rest x expr c.place c.mark) (rest x (word 18)) (rest x block') (rest x AfterArm))

pub if_statement-returns-in_err-expect_next : goal.if_statement-returns-in_err-expect_next
unfolding read ifstat
if_statement-returns-in_err-expect_next t c = rw (handed c.from_residual.result c.from_residual.ensures.1) (ap (wrap c.args.self.now.stream.now 3 opening c.args.at.now.cursor.place) (stop _ (no_word c.args.self.now c.args.at.now.cursor 9 refl refl c.in_err-expect_next.ensures)))

pub if_statement-arm-requires : goal.if_statement-arm-requires
if_statement-arm-requires t c =
    let w = a_word c.args.self.now c.args.at.now.cursor c.args.nodes.now (c.args.at.now.used + 1) 0 (omega (arith, c.requires.room)) 9 refl refl c.in_ok-expect_next.ensures in
    (omega arith, ready_at w (omega arith))

pub if_statement-returns-in_err-arm : goal.if_statement-returns-in_err-arm
unfolding read ifstat
if_statement-returns-in_err-arm t c =
    let x = c.args.self.now in
    let p = c.args.at.now in
    let w = a_word x p.cursor c.args.nodes.now (p.used + 1) 0 (omega (arith, c.requires.room)) 9 refl refl c.in_ok-expect_next.ensures in
    rw (handed c.from_residual-in_err-arm.result c.from_residual-in_err-arm.ensures.1) (ap (wrap x.stream.now 3 opening p.cursor.place) (past (rest x (ArmAndAfter x)) w (arm_and_after x c.expect_next.new.self ∙ stop (rest x (AfterArm x)) c.in_err-arm.ensures)))

pub if_statement-returns-in_err-arms : goal.if_statement-returns-in_err-arms
unfolding read ifstat
if_statement-returns-in_err-arms t c =
    let x = c.args.self.now in
    let p = c.args.at.now in
    let w = a_word x p.cursor c.args.nodes.now (p.used + 1) 0 (omega (arith, c.requires.room)) 9 refl refl c.in_ok-expect_next.ensures in
    rw (handed c.from_residual-in_err-arms.result c.from_residual-in_err-arms.ensures.1) (ap (wrap x.stream.now 3 opening p.cursor.place) (past (rest x (ArmAndAfter x)) w (arm_and_after x c.expect_next.new.self ∙ past (rest x (AfterArm x)) c.in_ok-arm.ensures (stop (rest x (P.otherwise ⨾ word 4)) c.in_err-arms.ensures))))

pub if_statement-returns-in_err-otherwise : goal.if_statement-returns-in_err-otherwise
unfolding read ifstat
if_statement-returns-in_err-otherwise t c =
    let x = c.args.self.now in
    let p = c.args.at.now in
    let w = a_word x p.cursor c.args.nodes.now (p.used + 1) 0 (omega (arith, c.requires.room)) 9 refl refl c.in_ok-expect_next.ensures in
    let s = c.in_ok-arms.ensures in
    rw (handed c.from_residual-in_err-otherwise.result c.from_residual-in_err-otherwise.ensures.1) (ap (wrap x.stream.now 3 opening p.cursor.place) (past (rest x (ArmAndAfter x)) w (arm_and_after x c.expect_next.new.self ∙ past (rest x (AfterArm x)) c.in_ok-arm.ensures (past (rest x (P.otherwise ⨾ word 4)) s.0 (stop (rest x (word 4)) c.in_err-otherwise.ensures)))))

pub if_statement-returns-in_err-expect_next-2 : goal.if_statement-returns-in_err-expect_next-2
unfolding read ifstat
if_statement-returns-in_err-expect_next-2 t c =
    let x = c.args.self.now in
    let p = c.args.at.now in
    let w = a_word x p.cursor c.args.nodes.now (p.used + 1) 0 (omega (arith, c.requires.room)) 9 refl refl c.in_ok-expect_next.ensures in
    let s = c.in_ok-arms.ensures in
    let o = c.in_ok-otherwise.ensures in
    rw (handed c.from_residual-in_err-expect_next-2.result c.from_residual-in_err-expect_next-2.ensures.1) (ap (wrap x.stream.now 3 opening p.cursor.place) (past (rest x (ArmAndAfter x)) w (arm_and_after x c.expect_next.new.self ∙ past (rest x (AfterArm x)) c.in_ok-arm.ensures (past (rest x (P.otherwise ⨾ word 4)) s.0 (past (rest x (word 4)) o.0 (no_word x c.otherwise.new.at.cursor 4 refl refl c.in_err-expect_next-2.ensures))))))

pub if_statement-returns : goal.if_statement-returns
unfolding read ifstat
if_statement-returns t c =
    let x = c.args.self.now in
    let p = c.args.at.now in
    let w = a_word x p.cursor c.args.nodes.now (p.used + 1) 0 (omega (arith, c.requires.room)) 9 refl refl c.in_ok-expect_next.ensures in
    let s = c.in_ok-arms.ensures in
    let o = c.in_ok-otherwise.ensures in
    let e = a_word x c.otherwise.new.at.cursor c.otherwise.new.nodes c.otherwise.new.at.used 0 (omega (arith, o.0.room)) 4 refl refl c.in_ok-expect_next-2.ensures in
    let b = both (rest x (AfterArm x)) c.in_ok-arm.ensures (both (rest x (P.otherwise ⨾ word 4)) s.0 (both (rest x (word 4)) o.0 e (omega arith)) (omega arith)) (omega arith) in
    over 3 opening p.cursor.place c.line-line.result (refl, refl, refl) (revalue (omega arith) (both (rest x (ArmAndAfter x)) w (alter (arm_and_after x c.expect_next.new.self) b) (omega arith))) c.close.ensures c.line-line.ensures

pub block-returns-in_err-statements : goal.block-returns-in_err-statements
unfolding read block'
block-returns-in_err-statements t c = rw (handed c.from_residual.result c.from_residual.ensures.1) (ap (wrap c.args.self.now.stream.now 1 closing c.args.at.now.cursor.place) (stop (rest c.args.self.now (P.returns ⨾ look)) c.in_err-statements.ensures))

pub block-returns-in_err-returns : goal.block-returns-in_err-returns
unfolding read block'
block-returns-in_err-returns t c = rw (handed c.from_residual-in_err-returns.result c.from_residual-in_err-returns.ensures.1) (ap (wrap c.args.self.now.stream.now 1 closing c.args.at.now.cursor.place) (past (rest c.args.self.now (P.returns ⨾ look)) c.in_ok-statements.ensures (stop (rest c.args.self.now look) c.in_err-returns.ensures)))

-- the look that closes a block
look_is : (x : Script) (c d : Cursor) → d ≡ read_ahead x.stream.now c 1 → (n : List ℕ) (used : ℕ) → c.place < records x.stream.now → used ≤ 4 * c.place + 1 → Fine x.stream.now c.note c.place used 1 n n (at_cursor x look c) d used 0
unfolding read
look_is x c d e n used a r = subst (λ (z : Cursor). Fine x.stream.now c.note c.place used 1 n n (at_cursor x look c) z used 0) (sym e) (looked n used 1 c (read_ahead x.stream.now c 1) refl refl refl a r)

pub block-returns : goal.block-returns
unfolding read block'
block-returns t c =
    let x = c.args.self.now in
    let p = c.args.at.now in
    let f = c.in_ok-statements.ensures in
    let r = c.in_ok-returns.ensures in
    let k = look_is x c.return_part.new.at.cursor c.read_ahead.new.self c.read_ahead.ensures c.return_part.new.nodes c.return_part.new.at.used r.0.at r.0.room in
    over 1 closing p.cursor.place c.line-line.result (refl, refl, refl) (revalue (omega arith) (both (rest x (P.returns ⨾ look)) f (both (rest x look) r.0 k (omega arith)) (omega arith))) c.close.ensures c.line-line.ensures

-- {elseif exp then block}: what a turn reads
module _ (x : Script) where
  abbrev ArmTurn : Term
  ArmTurn = any ⨾ plus 2 ⨾ P.arm

  arm_turn_is : (d : Cursor) → read x.stream.now (ranks x.ranking) 0 (readers x.stream.now (ranks x.ranking) x.levels) (hold 0 0 none) ArmTurn (rest x P.arms) d.place d.mark ≡ at_cursor x ArmTurn d
  unfolding read block' retstat explist
  arm_turn_is d = settled x.stream.now x.ranking 0 x.levels (hold 0 0 none) (rest x P.arms) ArmTurn refl d

pub arms-returns-in_err-take_next : goal.arms-returns-in_err-take_next
unfolding read block' retstat explist
arms-returns-in_err-take_next t c =
    let x = c.args.self.now in
    let f = many_fails x 0 3 (λ z. omega arith) (ArmTurn x) refl 1 c.loop-at.value c.args.at.now c.loop-at.at c.args.nodes.now c.loop-at.nodes c.loop-at.invariant c.loop-at-test.ensures (arm_turn_is x c.check_ahead.new.self ∙ stop (rest x (plus 2 ⨾ P.arm)) (no_token x c.check_ahead.new.self c.in_err-take_next.ensures)) in
    rw (handed c.from_residual.result c.from_residual.ensures.1) f

pub arms-arm-requires : goal.arms-arm-requires
arms-arm-requires t c =
    let x = c.args.self.now in
    let l = check_place x.stream.now c.loop-at.at.cursor 0 3 c.loop-at-test.ensures in
    let i = c.loop-at.invariant.0.0 in
    let w = a_token x c.check_ahead.new.self c.loop-at.nodes c.loop-at.at.used 1 (omega (arith, i.room, l)) c.in_ok-take_next.ensures in
    (omega arith, ready_at w (omega arith))

pub arms-returns-in_err-arm : goal.arms-returns-in_err-arm
unfolding read block' retstat explist
arms-returns-in_err-arm t c =
    let x = c.args.self.now in
    let l = check_place x.stream.now c.loop-at.at.cursor 0 3 c.loop-at-test.ensures in
    let i = c.loop-at.invariant.0.0 in
    let w = a_token x c.check_ahead.new.self c.loop-at.nodes c.loop-at.at.used 1 (omega (arith, i.room, l)) c.in_ok-take_next.ensures in
    let f = many_fails x 0 3 (λ z. omega arith) (ArmTurn x) refl 1 c.loop-at.value c.args.at.now c.loop-at.at c.args.nodes.now c.loop-at.nodes c.loop-at.invariant c.loop-at-test.ensures (arm_turn_is x c.check_ahead.new.self ∙ past (rest x (plus 2 ⨾ P.arm)) w (ap (add none 2) c.in_err-arm.ensures)) in
    rw (handed c.from_residual-in_err-arm.result c.from_residual-in_err-arm.ensures.1) f

pub arms-loop-at-smaller : goal.arms-loop-at-smaller
arms-loop-at-smaller t c =
    let x = c.args.self.now in
    let l = check_place x.stream.now c.loop-at.at.cursor 0 3 c.loop-at-test.ensures in
    let i = c.loop-at.invariant.0.0 in
    let w = a_token x c.check_ahead.new.self c.loop-at.nodes c.loop-at.at.used 1 (omega (arith, i.room, l)) c.in_ok-take_next.ensures in
    let f = c.in_ok-arm.ensures in
    omega (arith, f.later, f.at, w.later, l)

pub arms-loop-at-preserved : goal.arms-loop-at-preserved
unfolding read block' retstat explist
arms-loop-at-preserved t c =
    let x = c.args.self.now in
    let l = check_place x.stream.now c.loop-at.at.cursor 0 3 c.loop-at-test.ensures in
    let i = c.loop-at.invariant.0.0 in
    let w = a_token x c.check_ahead.new.self c.loop-at.nodes c.loop-at.at.used 1 (omega (arith, i.room, l)) c.in_ok-take_next.ensures in
    let f = c.in_ok-arm.ensures in
    let b = alter (arm_turn_is x c.check_ahead.new.self) (both (rest x (plus 2 ⨾ P.arm)) w (weighed 2 f) (omega arith)) in
    ((ready_at f (omega arith), omega (arith, c.loop-at.invariant.0.1, f.later, w.later, l)), many_turns x 0 3 (λ z. omega arith) (ArmTurn x) refl 1 c.loop-at.value c.args.at.now c.loop-at.at c.args.nodes.now c.loop-at.nodes c.loop-at.invariant c.loop-at-test.ensures b (omega arith) f.room)

pub arms-returns : goal.arms-returns
unfolding block' retstat explist
arms-returns t c =
    let x = c.args.self.now in
    let l = check_place x.stream.now c.loop-at.at.cursor 0 3 c.loop-at-test.ensures in
    (many_ends x 0 3 (λ z. omega arith) (ArmTurn x) refl 1 c.loop-at.value c.args.at.now c.loop-at.at c.args.nodes.now c.loop-at.nodes c.loop-at.invariant c.loop-at-test.ensures, omega (arith, c.loop-at.invariant.0.1, l))

-- {stat}: the end; a token that ends a block; a ';'; a statement
module _ (x : Script) where
  abbrev OneStat : Term
  OneStat = on ahead (45 ∷ []) any stat'

  abbrev EachStat : Term
  EachStat = on ahead (59 ∷ 2 ∷ 3 ∷ 4 ∷ 20 ∷ 17 ∷ []) empty (OneStat ⨾ again')

  module _ (c : Cursor) (r : c.place < records x.stream.now) where
    stats_opened : at_cursor x P.stats c ≡ read x.stream.now (ranks x.ranking) 0 (readers x.stream.now (ranks x.ranking) x.levels) (hold 0 0 none) EachStat (rest x P.stats) c.place c.mark
    stats_opened = looping x.stream.now x.ranking 0 x.levels 0 EachStat refl c r

    stats_end : {d : Cursor} → look_ahead x.stream.now c 0 ≡ (None, d) → at_cursor x P.stats c ≡ fine d.place d.mark none 0
    unfolding read
    stats_end y = stats_opened ∙ end_in x.stream.now (ranks x.ranking) 0 (readers x.stream.now (ranks x.ranking) x.levels) (hold 0 0 none) (rest x P.stats) c (59 ∷ 2 ∷ 3 ∷ 4 ∷ 20 ∷ 17 ∷ []) empty (OneStat ⨾ again') y refl

    module _ {t : Token} {d : Cursor} (y : look_ahead x.stream.now c 0 ≡ (Some t, d)) where
      stats_over : member t.kind (59 ∷ 2 ∷ 3 ∷ 4 ∷ 20 ∷ 17 ∷ []) ≡ true → at_cursor x P.stats c ≡ fine d.place d.mark none 0
      unfolding read
      stats_over e = stats_opened ∙ look_in x.stream.now (ranks x.ranking) 0 (readers x.stream.now (ranks x.ranking) x.levels) (hold 0 0 none) (rest x P.stats) c (59 ∷ 2 ∷ 3 ∷ 4 ∷ 20 ∷ 17 ∷ []) empty (OneStat ⨾ again') y e

      stats_on : member t.kind (59 ∷ 2 ∷ 3 ∷ 4 ∷ 20 ∷ 17 ∷ []) ≡ false → at_cursor x P.stats c ≡ then (at_cursor x OneStat d) (rest x P.stats)
      unfolding read
      stats_on e =
          stats_opened
          ∙ look_out x.stream.now (ranks x.ranking) 0 (readers x.stream.now (ranks x.ranking) x.levels) (hold 0 0 none) (rest x P.stats) c (59 ∷ 2 ∷ 3 ∷ 4 ∷ 20 ∷ 17 ∷ []) empty (OneStat ⨾ again') y e
          ∙ ap (λ (z : Out). then z (rest x P.stats)) (settled x.stream.now x.ranking 0 x.levels (hold 0 0 none) (rest x P.stats) OneStat refl d)

      stats_semi : t.kind ≡ 45 → at_cursor x P.stats c ≡ then (at_cursor x any d) (rest x P.stats)
      stats_semi e =
          stats_on (among (59 ∷ 2 ∷ 3 ∷ 4 ∷ 20 ∷ 17 ∷ []) e)
          ∙ ap (λ (z : Out). then z (rest x P.stats)) (look_in x.stream.now (ranks x.ranking) 0 (readers x.stream.now (ranks x.ranking) x.levels) (hold 0 0 none) again d (45 ∷ []) any stat' (look_again x.stream.now c y) (one e))

      stats_one : member t.kind (59 ∷ 2 ∷ 3 ∷ 4 ∷ 20 ∷ 17 ∷ []) ≡ false → (t.kind ≡ 45 → ⊥) → at_cursor x P.stats c ≡ then (at_cursor x stat' d) (rest x P.stats)
      stats_one e n =
          stats_on e
          ∙ ap (λ (z : Out). then z (rest x P.stats)) (look_out x.stream.now (ranks x.ranking) 0 (readers x.stream.now (ranks x.ranking) x.levels) (hold 0 0 none) again d (45 ∷ []) any stat' (look_again x.stream.now c y) (other n))

pub statements-returns-in_err-take_next-in-45 : goal.statements-returns-in_err-take_next-in-45
statements-returns-in_err-take_next-in-45 t c =
    let x = c.args.self.now in
    let i = c.loop-token.invariant in
    let y = sym c.in-Some.ensures in
    rw (handed c.from_residual.result c.from_residual.ensures.1) (fails i.1 (stats_semi x c.loop-token.at.cursor i.0.0.at y c.in-45.is ∙ stop (rest x P.stats) (no_token x c.look_ahead.new.self c.in_err-take_next-in-45.ensures)))

pub statements-loop-token-smaller-in-45-1 : goal.statements-loop-token-smaller-in-45-1
statements-loop-token-smaller-in-45-1 t c =
    let x = c.args.self.now in
    let i = c.loop-token.invariant in
    let l = look_place x.stream.now c.loop-token.at.cursor (sym c.in-Some.ensures) in
    let w = a_token x c.look_ahead.new.self c.loop-token.nodes c.loop-token.at.used 1 (omega (arith, i.0.0.room, l)) c.in_ok-take_next-in-45.ensures in
    omega (arith, w.later, w.at, l)

pub statements-loop-token-preserved-in-45-1 : goal.statements-loop-token-preserved-in-45-1
statements-loop-token-preserved-in-45-1 t c =
    let x = c.args.self.now in
    let i = c.loop-token.invariant in
    let l = look_place x.stream.now c.loop-token.at.cursor (sym c.in-Some.ensures) in
    let w = a_token x c.look_ahead.new.self c.loop-token.nodes c.loop-token.at.used 1 (omega (arith, i.0.0.room, l)) c.in_ok-take_next-in-45.ensures in
    ((ready_at w (omega arith), omega (arith, i.0.1, w.later, l)), turns i.1 (stats_semi x c.loop-token.at.cursor i.0.0.at (sym c.in-Some.ensures) c.in-45.is) (renoted (look_note x.stream.now c.loop-token.at.cursor (sym c.in-Some.ensures)) w) (omega (arith, l)) w.room)

pub statements-statement-requires : goal.statements-statement-requires
statements-statement-requires t c = (omega arith, ready_seen c.look_ahead.new.self c.loop-token.invariant.0.0 (look_place c.args.self.now.stream.now c.loop-token.at.cursor (sym c.in-Some.ensures)))

pub statements-returns-in_err-statement-in_default-kind : goal.statements-returns-in_err-statement-in_default-kind
unfolding read
statements-returns-in_err-statement-in_default-kind t c =
    let x = c.args.self.now in
    let i = c.loop-token.invariant in
    let k = c.in-Some.token.kind in
    let real = saw_real x.stream.now c.loop-token.at.cursor (sym c.in-Some.ensures) in
    let y : member k (59 ∷ 2 ∷ 3 ∷ 4 ∷ 20 ∷ 17 ∷ []) ≡ false =
    elim c.in_default-kind.branch [
      | statements-in_default-kind-via-then-token-lt2 w ↦ nor k (59 ∷ 2 ∷ 3 ∷ 4 ∷ 20 ∷ 17 ∷ []) real (λ z. omega arith) (λ z. omega arith) (λ z. omega arith) (λ z. omega arith) (λ z. omega arith)
      | statements-in_default-kind-via-else-token-lt2+else-token-lt5 w ↦ nor k (59 ∷ 2 ∷ 3 ∷ 4 ∷ 20 ∷ 17 ∷ []) real (λ z. omega arith) (λ z. omega arith) (λ z. omega arith) (λ z. grind arith) (λ z. grind arith)
    ] in
    rw (handed c.from_residual-in_err-statement-in_default-kind.result c.from_residual-in_err-statement-in_default-kind.ensures.1) (fails i.1 (stats_one x c.loop-token.at.cursor i.0.0.at (sym c.in-Some.ensures) y (λ z. omega arith) ∙ stop (rest x P.stats) c.in_err-statement-in_default-kind.ensures))

pub statements-loop-token-smaller : goal.statements-loop-token-smaller
statements-loop-token-smaller t c =
    let l = look_place c.args.self.now.stream.now c.loop-token.at.cursor (sym c.in-Some.ensures) in
    let f = c.in_ok-statement-in_default-kind.ensures in
    omega (arith, f.later, f.at, l)

pub statements-loop-token-preserved : goal.statements-loop-token-preserved
unfolding read
statements-loop-token-preserved t c =
    let x = c.args.self.now in
    let i = c.loop-token.invariant in
    let l = look_place x.stream.now c.loop-token.at.cursor (sym c.in-Some.ensures) in
    let k = c.in-Some.token.kind in
    let real = saw_real x.stream.now c.loop-token.at.cursor (sym c.in-Some.ensures) in
    let f = c.in_ok-statement-in_default-kind.ensures in
    let y : member k (59 ∷ 2 ∷ 3 ∷ 4 ∷ 20 ∷ 17 ∷ []) ≡ false =
    elim c.in_default-kind.branch [
      | statements-in_default-kind-via-then-token-lt2 w ↦ nor k (59 ∷ 2 ∷ 3 ∷ 4 ∷ 20 ∷ 17 ∷ []) real (λ z. omega arith) (λ z. omega arith) (λ z. omega arith) (λ z. omega arith) (λ z. omega arith)
      | statements-in_default-kind-via-else-token-lt2+else-token-lt5 w ↦ nor k (59 ∷ 2 ∷ 3 ∷ 4 ∷ 20 ∷ 17 ∷ []) real (λ z. omega arith) (λ z. omega arith) (λ z. omega arith) (λ z. grind arith) (λ z. grind arith)
    ] in
    ((ready_at f (omega arith), omega (arith, i.0.1, f.later, l)), turns i.1 (stats_one x c.loop-token.at.cursor i.0.0.at (sym c.in-Some.ensures) y (λ z. omega arith)) (renoted (look_note x.stream.now c.loop-token.at.cursor (sym c.in-Some.ensures)) f) (omega (arith, l)) (omega (arith, f.room)))

pub statements-returns-in-2 : goal.statements-returns-in-2
statements-returns-in-2 t c =
    let x = c.args.self.now in
    let i = c.loop-token.invariant in
    let y : member c.in-Some.token.kind (59 ∷ 2 ∷ 3 ∷ 4 ∷ 20 ∷ 17 ∷ []) ≡ true = elim c.in-2.is [ inl e ↦ among (59 ∷ 2 ∷ 3 ∷ 4 ∷ 20 ∷ 17 ∷ []) e | inr e ↦ among (59 ∷ 2 ∷ 3 ∷ 4 ∷ 20 ∷ 17 ∷ []) e ] in
    let l = look_place x.stream.now c.loop-token.at.cursor (sym c.in-Some.ensures) in
    ends i.1 (looked c.loop-token.nodes c.loop-token.at.used 1 c.loop-token.at.cursor c.look_ahead.new.self (stats_over x c.loop-token.at.cursor i.0.0.at (sym c.in-Some.ensures) y) l (look_note x.stream.now c.loop-token.at.cursor (sym c.in-Some.ensures)) i.0.0.at i.0.0.room) (omega arith)

pub statements-returns-in-2-2 : goal.statements-returns-in-2-2
statements-returns-in-2-2 t c =
    let x = c.args.self.now in
    let i = c.loop-token.invariant in
    let y : member c.in-Some.token.kind (59 ∷ 2 ∷ 3 ∷ 4 ∷ 20 ∷ 17 ∷ []) ≡ true = ranged (λ (z : ℕ). member z (59 ∷ 2 ∷ 3 ∷ 4 ∷ 20 ∷ 17 ∷ []) ≡ true) refl refl refl c.in-Some.token.kind (omega arith) (omega arith) in
    let l = look_place x.stream.now c.loop-token.at.cursor (sym c.in-Some.ensures) in
    ends i.1 (looked c.loop-token.nodes c.loop-token.at.used 1 c.loop-token.at.cursor c.look_ahead.new.self (stats_over x c.loop-token.at.cursor i.0.0.at (sym c.in-Some.ensures) y) l (look_note x.stream.now c.loop-token.at.cursor (sym c.in-Some.ensures)) i.0.0.at i.0.0.room) (omega arith)

pub statements-returns : goal.statements-returns
statements-returns t c =
    let x = c.args.self.now in
    let i = c.loop-token.invariant in
    let l = end_place x.stream.now c.loop-token.at.cursor (sym c.in_default.ensures) in
    ends i.1 (looked c.loop-token.nodes c.loop-token.at.used 1 c.loop-token.at.cursor c.look_ahead.new.self (stats_end x c.loop-token.at.cursor i.0.0.at (sym c.in_default.ensures)) l (end_note x.stream.now c.loop-token.at.cursor (sym c.in_default.ensures)) i.0.0.at i.0.0.room) (omega arith)

-- a statement, one level down: no token; a kind that has a production of its own; another; what comes after `local`
module _ (x : Script) (n : x.levels ≡ 0 → ⊥) (c : Cursor) where
  abbrev StatHere : Out
  StatHere = (readers x.stream.now (ranks x.ranking) x.levels).stats c.place c.mark

  abbrev StatDown : Term → Cursor → Out
  StatDown = says x.stream.now x.ranking (x.levels - 1)

  abbrev StatRows : List Row
  StatRows = (21, whilestat) ∷ (1, dostat) ∷ (6, forstat) ∷ (16, repeatstat) ∷ (7, functionstat) ∷ (11, on second (7 ∷ []) localfunction localstat) ∷ (47, label') ∷ (0, breakstat) ∷ (8, gotostat) ∷ []

  stat_down : StatHere ≡ StatDown (choice ((9, ifstat) ∷ StatRows) exprstat) c
  unfolding statement'
  stat_down = stats_down x.stream.now x.ranking x.levels c n

  stat_none : {f : Refusal} {d : Cursor} → get_next x.stream.now c ≡ (Err f, d) → StatHere ≡ fail f
  stat_none y = stat_down ∙ by_none x.stream.now (ranks x.ranking) 0 (readers x.stream.now (ranks x.ranking) (x.levels - 1)) (hold 0 0 none) again c (9, ifstat) StatRows exprstat y

  module _ {t : Token} {d : Cursor} (y : get_next x.stream.now c ≡ (Ok t, d)) where
    stat_kind : {k : ℕ} → t.kind ≡ k → StatHere ≡ StatDown (pick ((9, ifstat) ∷ StatRows) exprstat k) d
    stat_kind e = stat_down ∙ by_kind x.stream.now (ranks x.ranking) 0 (readers x.stream.now (ranks x.ranking) (x.levels - 1)) (hold 0 0 none) again c (9, ifstat) StatRows exprstat y e

    module _ (q : t.kind ≡ 11) {f : Cursor} where
      stat_function : (true, f) ≡ check_ahead x.stream.now d 1 7 → StatHere ≡ StatDown localfunction f
      stat_function z = stat_kind q ∙ second_in x.stream.now (ranks x.ranking) 0 (readers x.stream.now (ranks x.ranking) (x.levels - 1)) (hold 0 0 none) again d 7 localfunction localstat (λ z. omega arith) z refl

      stat_local : (false, f) ≡ check_ahead x.stream.now d 1 7 → StatHere ≡ StatDown localstat f
      stat_local z = stat_kind q ∙ second_out x.stream.now (ranks x.ranking) 0 (readers x.stream.now (ranks x.ranking) (x.levels - 1)) (hold 0 0 none) again d 7 localfunction localstat (λ z. omega arith) z refl

pub statement-returns-in_err-token : goal.statement-returns-in_err-token
statement-returns-in_err-token t c = rw (handed c.from_residual.result c.from_residual.ensures.1) (stat_none c.args.self.now c.if-self-eq0.false c.args.at.now.cursor (sym c.in_err-token.ensures))

pub statement-if_statement-requires : goal.statement-if_statement-requires
statement-if_statement-requires t c = (omega (arith, c.if-self-eq0.false), ready_seen c.get_next.new.self c.requires (get_place c.args.self.now.stream.now c.args.at.now.cursor (sym c.in_ok-token.ensures)))

pub statement-while_statement-requires : goal.statement-while_statement-requires
statement-while_statement-requires t c = (omega (arith, c.if-self-eq0.false), ready_seen c.get_next.new.self c.requires (get_place c.args.self.now.stream.now c.args.at.now.cursor (sym c.in_ok-token.ensures)))

pub statement-do_statement-requires : goal.statement-do_statement-requires
statement-do_statement-requires t c = (omega (arith, c.if-self-eq0.false), ready_seen c.get_next.new.self c.requires (get_place c.args.self.now.stream.now c.args.at.now.cursor (sym c.in_ok-token.ensures)))

pub statement-for_statement-requires : goal.statement-for_statement-requires
statement-for_statement-requires t c = (omega (arith, c.if-self-eq0.false), ready_seen c.get_next.new.self c.requires (get_place c.args.self.now.stream.now c.args.at.now.cursor (sym c.in_ok-token.ensures)))

pub statement-repeat_statement-requires : goal.statement-repeat_statement-requires
statement-repeat_statement-requires t c = (omega (arith, c.if-self-eq0.false), ready_seen c.get_next.new.self c.requires (get_place c.args.self.now.stream.now c.args.at.now.cursor (sym c.in_ok-token.ensures)))

pub statement-function_statement-requires : goal.statement-function_statement-requires
statement-function_statement-requires t c = (omega (arith, c.if-self-eq0.false), ready_seen c.get_next.new.self c.requires (get_place c.args.self.now.stream.now c.args.at.now.cursor (sym c.in_ok-token.ensures)))

pub statement-expression_statement-requires : goal.statement-expression_statement-requires
statement-expression_statement-requires t c = (omega (arith, c.if-self-eq0.false), ready_seen c.get_next.new.self c.requires (get_place c.args.self.now.stream.now c.args.at.now.cursor (sym c.in_ok-token.ensures)))

pub statement-label-requires : goal.statement-label-requires
statement-label-requires t c = ready_seen c.get_next.new.self c.requires (get_place c.args.self.now.stream.now c.args.at.now.cursor (sym c.in_ok-token.ensures))

pub statement-stop-requires : goal.statement-stop-requires
statement-stop-requires t c = ready_seen c.get_next.new.self c.requires (get_place c.args.self.now.stream.now c.args.at.now.cursor (sym c.in_ok-token.ensures))

pub statement-goto-requires : goal.statement-goto-requires
statement-goto-requires t c = ready_seen c.get_next.new.self c.requires (get_place c.args.self.now.stream.now c.args.at.now.cursor (sym c.in_ok-token.ensures))

pub statement-local_function-requires : goal.statement-local_function-requires
statement-local_function-requires t c = (omega (arith, c.if-self-eq0.false), ready_seen c.check_ahead.new.self c.requires (check_place c.args.self.now.stream.now c.get_next.new.self 1 7 c.if-check_ahead.ensures ∙ get_place c.args.self.now.stream.now c.args.at.now.cursor (sym c.in_ok-token.ensures)))

pub statement-local_statement-requires : goal.statement-local_statement-requires
statement-local_statement-requires t c = (omega (arith, c.if-self-eq0.false), ready_seen c.check_ahead.new.self c.requires (check_place c.args.self.now.stream.now c.get_next.new.self 1 7 c.if-check_ahead.ensures ∙ get_place c.args.self.now.stream.now c.args.at.now.cursor (sym c.in_ok-token.ensures)))

pub statement-returns-in-9 : goal.statement-returns-in-9
statement-returns-in-9 t c =
    let x = c.args.self.now in
    let p = c.args.at.now in
    moved x.stream.now (get_note x.stream.now p.cursor (sym c.in_ok-token.ensures)) p.used 0 c.args.nodes.now c.if_statement.new.nodes c.if_statement.new.at c.if_statement.result (stat_kind x c.if-self-eq0.false p.cursor (sym c.in_ok-token.ensures) c.in-9.is) (omega (arith, get_place x.stream.now p.cursor (sym c.in_ok-token.ensures))) c.if_statement.ensures

pub statement-returns-in-21 : goal.statement-returns-in-21
statement-returns-in-21 t c =
    let x = c.args.self.now in
    let p = c.args.at.now in
    moved x.stream.now (get_note x.stream.now p.cursor (sym c.in_ok-token.ensures)) p.used 0 c.args.nodes.now c.while_statement.new.nodes c.while_statement.new.at c.while_statement.result (stat_kind x c.if-self-eq0.false p.cursor (sym c.in_ok-token.ensures) c.in-21.is) (omega (arith, get_place x.stream.now p.cursor (sym c.in_ok-token.ensures))) c.while_statement.ensures

pub statement-returns-in-1 : goal.statement-returns-in-1
statement-returns-in-1 t c =
    let x = c.args.self.now in
    let p = c.args.at.now in
    moved x.stream.now (get_note x.stream.now p.cursor (sym c.in_ok-token.ensures)) p.used 0 c.args.nodes.now c.do_statement.new.nodes c.do_statement.new.at c.do_statement.result (stat_kind x c.if-self-eq0.false p.cursor (sym c.in_ok-token.ensures) c.in-1.is) (omega (arith, get_place x.stream.now p.cursor (sym c.in_ok-token.ensures))) c.do_statement.ensures

pub statement-returns-in-6 : goal.statement-returns-in-6
statement-returns-in-6 t c =
    let x = c.args.self.now in
    let p = c.args.at.now in
    moved x.stream.now (get_note x.stream.now p.cursor (sym c.in_ok-token.ensures)) p.used 0 c.args.nodes.now c.for_statement.new.nodes c.for_statement.new.at c.for_statement.result (stat_kind x c.if-self-eq0.false p.cursor (sym c.in_ok-token.ensures) c.in-6.is) (omega (arith, get_place x.stream.now p.cursor (sym c.in_ok-token.ensures))) c.for_statement.ensures

pub statement-returns-in-16 : goal.statement-returns-in-16
statement-returns-in-16 t c =
    let x = c.args.self.now in
    let p = c.args.at.now in
    moved x.stream.now (get_note x.stream.now p.cursor (sym c.in_ok-token.ensures)) p.used 0 c.args.nodes.now c.repeat_statement.new.nodes c.repeat_statement.new.at c.repeat_statement.result (stat_kind x c.if-self-eq0.false p.cursor (sym c.in_ok-token.ensures) c.in-16.is) (omega (arith, get_place x.stream.now p.cursor (sym c.in_ok-token.ensures))) c.repeat_statement.ensures

pub statement-returns-in-7 : goal.statement-returns-in-7
statement-returns-in-7 t c =
    let x = c.args.self.now in
    let p = c.args.at.now in
    moved x.stream.now (get_note x.stream.now p.cursor (sym c.in_ok-token.ensures)) p.used 0 c.args.nodes.now c.function_statement.new.nodes c.function_statement.new.at c.function_statement.result (stat_kind x c.if-self-eq0.false p.cursor (sym c.in_ok-token.ensures) c.in-7.is) (omega (arith, get_place x.stream.now p.cursor (sym c.in_ok-token.ensures))) c.function_statement.ensures

pub statement-returns-in-47 : goal.statement-returns-in-47
statement-returns-in-47 t c =
    let x = c.args.self.now in
    let p = c.args.at.now in
    moved x.stream.now (get_note x.stream.now p.cursor (sym c.in_ok-token.ensures)) p.used 0 c.args.nodes.now c.label.new.nodes c.label.new.at c.label.result (stat_kind x c.if-self-eq0.false p.cursor (sym c.in_ok-token.ensures) c.in-47.is) (omega (arith, get_place x.stream.now p.cursor (sym c.in_ok-token.ensures))) c.label.ensures

pub statement-returns-in-0 : goal.statement-returns-in-0
statement-returns-in-0 t c =
    let x = c.args.self.now in
    let p = c.args.at.now in
    moved x.stream.now (get_note x.stream.now p.cursor (sym c.in_ok-token.ensures)) p.used 0 c.args.nodes.now c.stop.new.nodes c.stop.new.at c.stop.result (stat_kind x c.if-self-eq0.false p.cursor (sym c.in_ok-token.ensures) c.in-0.is) (omega (arith, get_place x.stream.now p.cursor (sym c.in_ok-token.ensures))) c.stop.ensures

pub statement-returns-in-8 : goal.statement-returns-in-8
statement-returns-in-8 t c =
    let x = c.args.self.now in
    let p = c.args.at.now in
    moved x.stream.now (get_note x.stream.now p.cursor (sym c.in_ok-token.ensures)) p.used 0 c.args.nodes.now c.goto.new.nodes c.goto.new.at c.goto.result (stat_kind x c.if-self-eq0.false p.cursor (sym c.in_ok-token.ensures) c.in-8.is) (omega (arith, get_place x.stream.now p.cursor (sym c.in_ok-token.ensures))) c.goto.ensures

pub statement-returns-then-check_ahead : goal.statement-returns-then-check_ahead
statement-returns-then-check_ahead t c =
    let x = c.args.self.now in
    let p = c.args.at.now in
    moved x.stream.now (check_note x.stream.now c.get_next.new.self 1 7 c.if-check_ahead.ensures ∙ get_note x.stream.now p.cursor (sym c.in_ok-token.ensures)) p.used 0 c.args.nodes.now c.local_function.new.nodes c.local_function.new.at c.local_function.result (stat_function x c.if-self-eq0.false p.cursor (sym c.in_ok-token.ensures) c.in-11.is c.if-check_ahead.ensures) (omega (arith, check_place x.stream.now c.get_next.new.self 1 7 c.if-check_ahead.ensures, get_place x.stream.now p.cursor (sym c.in_ok-token.ensures))) c.local_function.ensures

pub statement-returns-else-check_ahead : goal.statement-returns-else-check_ahead
statement-returns-else-check_ahead t c =
    let x = c.args.self.now in
    let p = c.args.at.now in
    moved x.stream.now (check_note x.stream.now c.get_next.new.self 1 7 c.if-check_ahead.ensures ∙ get_note x.stream.now p.cursor (sym c.in_ok-token.ensures)) p.used 0 c.args.nodes.now c.local_statement.new.nodes c.local_statement.new.at c.local_statement.result (stat_local x c.if-self-eq0.false p.cursor (sym c.in_ok-token.ensures) c.in-11.is c.if-check_ahead.ensures) (omega (arith, check_place x.stream.now c.get_next.new.self 1 7 c.if-check_ahead.ensures, get_place x.stream.now p.cursor (sym c.in_ok-token.ensures))) c.local_statement.ensures

pub statement-returns-in_default : goal.statement-returns-in_default
statement-returns-in_default t c =
    let x = c.args.self.now in
    let p = c.args.at.now in
    let o = stat_down x c.if-self-eq0.false p.cursor ∙ by_others x.stream.now (ranks x.ranking) 0 (readers x.stream.now (ranks x.ranking) (x.levels - 1)) (hold 0 0 none) again p.cursor (9, ifstat) (StatRows x c.if-self-eq0.false p.cursor) exprstat (sym c.in_ok-token.ensures) (λ z. omega arith) (λ z. omega arith) (λ z. omega arith) (λ z. omega arith) (λ z. omega arith) (λ z. omega arith) (λ z. omega arith) (λ z. omega arith) (λ z. omega arith) (λ z. omega arith) in
    moved x.stream.now (get_note x.stream.now p.cursor (sym c.in_ok-token.ensures)) p.used 0 c.args.nodes.now c.expression_statement.new.nodes c.expression_statement.new.at c.expression_statement.result o (omega (arith, get_place x.stream.now p.cursor (sym c.in_ok-token.ensures))) c.expression_statement.ensures

-- The members of the descent meet their contracts, one after the other.

pub assigned-returns-in_err-targets : goal.assigned-returns-in_err-targets
unfolding read explist
assigned-returns-in_err-targets t c =
    let x = c.args.self.now in
    let p = c.args.at.now in
    rw (handed c.from_residual.result c.from_residual.ensures.1) (stop (read x.stream.now (ranks x.ranking) 0 (readers x.stream.now (ranks x.ranking) x.levels) (hold 0 p.cursor.place none) (word 37 ⨾ explist 0) again) (c.in_err-targets.ensures p.cursor.place c.requires.1))

pub assigned-returns-in_err-expect_next : goal.assigned-returns-in_err-expect_next
unfolding read explist
assigned-returns-in_err-expect_next t c =
    let x = c.args.self.now in
    let p = c.args.at.now in
    let y = c.in_ok-targets.ensures p.cursor.place c.requires.1 in
    let f1 = y.0 in
    rw (handed c.from_residual-in_err-expect_next.result c.from_residual-in_err-expect_next.ensures.1) (past (read x.stream.now (ranks x.ranking) 0 (readers x.stream.now (ranks x.ranking) x.levels) (hold 0 p.cursor.place none) (word 37 ⨾ explist 0) again) f1 (stop (read x.stream.now (ranks x.ranking) 0 (readers x.stream.now (ranks x.ranking) x.levels) (hold 0 p.cursor.place none) (explist 0) again) (word_fail x.stream.now (ranks x.ranking) 0 (readers x.stream.now (ranks x.ranking) x.levels) (hold 0 p.cursor.place none) again c.targets.new.at.cursor 37 refl refl (sym c.in_err-expect_next.ensures))))

pub assigned-expressions-requires : goal.assigned-expressions-requires
assigned-expressions-requires t c =
    let x = c.args.self.now in
    let p = c.args.at.now in
    let y = c.in_ok-targets.ensures p.cursor.place c.requires.1 in
    let f1 = y.0 in
    let f2 = word_fine x.stream.now (ranks x.ranking) 0 (readers x.stream.now (ranks x.ranking) x.levels) (hold 0 p.cursor.place none) again c.targets.new.at.cursor c.targets.new.nodes c.targets.new.at.used 0 x.formed (omega (arith, f1.room)) 37 refl refl (sym c.in_ok-expect_next.ensures) in
    (omega arith, ready_at f2 (omega arith))

pub assigned-returns-in_err-expressions : goal.assigned-returns-in_err-expressions
unfolding read explist
assigned-returns-in_err-expressions t c =
    let x = c.args.self.now in
    let p = c.args.at.now in
    let y = c.in_ok-targets.ensures p.cursor.place c.requires.1 in
    let f1 = y.0 in
    let f2 = word_fine x.stream.now (ranks x.ranking) 0 (readers x.stream.now (ranks x.ranking) x.levels) (hold 0 p.cursor.place none) again c.targets.new.at.cursor c.targets.new.nodes c.targets.new.at.used 0 x.formed (omega (arith, f1.room)) 37 refl refl (sym c.in_ok-expect_next.ensures) in
    let z = settled x.stream.now x.ranking 0 x.levels (hold 0 p.cursor.place none) again (explist 0) refl c.expect_next.new.self ∙ exps_light x.stream.now x.ranking 0 x.levels (hold 0 0 none) again c.expect_next.new.self in
    rw (handed c.from_residual-in_err-expressions.result c.from_residual-in_err-expressions.ensures.1) (past (read x.stream.now (ranks x.ranking) 0 (readers x.stream.now (ranks x.ranking) x.levels) (hold 0 p.cursor.place none) (word 37 ⨾ explist 0) again) f1 (past (read x.stream.now (ranks x.ranking) 0 (readers x.stream.now (ranks x.ranking) x.levels) (hold 0 p.cursor.place none) (explist 0) again) f2 (light_fail z c.in_err-expressions.ensures)))

pub assigned-returns : goal.assigned-returns
unfolding read explist
assigned-returns t c =
    let x = c.args.self.now in
    let p = c.args.at.now in
    let y = c.in_ok-targets.ensures p.cursor.place c.requires.1 in
    let f1 = y.0 in
    let f2 = word_fine x.stream.now (ranks x.ranking) 0 (readers x.stream.now (ranks x.ranking) x.levels) (hold 0 p.cursor.place none) again c.targets.new.at.cursor c.targets.new.nodes c.targets.new.at.used 0 x.formed (omega (arith, f1.room)) 37 refl refl (sym c.in_ok-expect_next.ensures) in
    let z = settled x.stream.now x.ranking 0 x.levels (hold 0 p.cursor.place none) again (explist 0) refl c.expect_next.new.self ∙ exps_light x.stream.now x.ranking 0 x.levels (hold 0 0 none) again c.expect_next.new.self in
    let g = c.in_ok-expressions.ensures.0 in
    (lower (p.cursor.place + 1) (revalue (omega arith) (both (read x.stream.now (ranks x.ranking) 0 (readers x.stream.now (ranks x.ranking) x.levels) (hold 0 p.cursor.place none) (word 37 ⨾ explist 0) again) f1 (both (read x.stream.now (ranks x.ranking) 0 (readers x.stream.now (ranks x.ranking) x.levels) (hold 0 p.cursor.place none) (explist 0) again) f2 (light_fine z g) (omega arith)) (omega arith))) (omega (arith, f1.later, f2.later, g.later)), omega (arith, y.1, f2.later, g.later))

pub definition-returns-in_err-expect_next : goal.definition-returns-in_err-expect_next
unfolding read funcbody
definition-returns-in_err-expect_next t c =
    let x = c.args.self.now in
    let p = c.args.at.now in
    rw (handed c.from_residual.result c.from_residual.ensures.1) (ap (wrap x.stream.now 28 unlined p.cursor.place) ((stop _ (no_word x p.cursor 49 refl refl c.in_err-expect_next.ensures))))

pub definition-parameter_list-requires : goal.definition-parameter_list-requires
definition-parameter_list-requires t c =
    let x = c.args.self.now in
    let p = c.args.at.now in
    let f1 = a_word x p.cursor c.args.nodes.now (p.used + 1) 0 (omega (arith, c.requires.room)) 49 refl refl c.in_ok-expect_next.ensures in
    ready_at f1 (omega arith)

pub definition-returns-in_err-parameters : goal.definition-returns-in_err-parameters
unfolding read funcbody
definition-returns-in_err-parameters t c =
    let x = c.args.self.now in
    let p = c.args.at.now in
    let f1 = a_word x p.cursor c.args.nodes.now (p.used + 1) 0 (omega (arith, c.requires.room)) 49 refl refl c.in_ok-expect_next.ensures in
    rw (handed c.from_residual-in_err-parameters.result c.from_residual-in_err-parameters.ensures.1) (ap (wrap x.stream.now 28 unlined p.cursor.place) ((past _ f1 (stop _ c.in_err-parameters.ensures))))

pub definition-returns-in_err-expect_next-2 : goal.definition-returns-in_err-expect_next-2
unfolding read funcbody
definition-returns-in_err-expect_next-2 t c =
    let x = c.args.self.now in
    let p = c.args.at.now in
    let f1 = a_word x p.cursor c.args.nodes.now (p.used + 1) 0 (omega (arith, c.requires.room)) 49 refl refl c.in_ok-expect_next.ensures in
    let f2 = c.in_ok-parameters.ensures.0 in
    rw (handed c.from_residual-in_err-expect_next-2.result c.from_residual-in_err-expect_next-2.ensures.1) (ap (wrap x.stream.now 28 unlined p.cursor.place) ((past _ f1 (past _ f2 (stop _ (no_word x c.parameter_list.new.at.cursor 50 refl refl c.in_err-expect_next-2.ensures))))))

pub definition-ended_block-requires : goal.definition-ended_block-requires
definition-ended_block-requires t c =
    let x = c.args.self.now in
    let p = c.args.at.now in
    let f1 = a_word x p.cursor c.args.nodes.now (p.used + 1) 0 (omega (arith, c.requires.room)) 49 refl refl c.in_ok-expect_next.ensures in
    let f2 = c.in_ok-parameters.ensures.0 in
    let f3 = a_word x c.parameter_list.new.at.cursor c.parameter_list.new.nodes c.parameter_list.new.at.used 0 (omega (arith, f2.room)) 50 refl refl c.in_ok-expect_next-2.ensures in
    (omega arith, ready_at f3 (omega arith))

pub definition-returns-in_err-ended_block : goal.definition-returns-in_err-ended_block
unfolding read funcbody
definition-returns-in_err-ended_block t c =
    let x = c.args.self.now in
    let p = c.args.at.now in
    let f1 = a_word x p.cursor c.args.nodes.now (p.used + 1) 0 (omega (arith, c.requires.room)) 49 refl refl c.in_ok-expect_next.ensures in
    let f2 = c.in_ok-parameters.ensures.0 in
    let f3 = a_word x c.parameter_list.new.at.cursor c.parameter_list.new.nodes c.parameter_list.new.at.used 0 (omega (arith, f2.room)) 50 refl refl c.in_ok-expect_next-2.ensures in
    rw (handed c.from_residual-in_err-ended_block.result c.from_residual-in_err-ended_block.ensures.1) (ap (wrap x.stream.now 28 unlined p.cursor.place) ((past _ f1 (past _ f2 (past _ f3 c.in_err-ended_block.ensures)))))

pub definition-returns : goal.definition-returns
unfolding read funcbody
definition-returns t c =
    let x = c.args.self.now in
    let p = c.args.at.now in
    let f1 = a_word x p.cursor c.args.nodes.now (p.used + 1) 0 (omega (arith, c.requires.room)) 49 refl refl c.in_ok-expect_next.ensures in
    let f2 = c.in_ok-parameters.ensures.0 in
    let f3 = a_word x c.parameter_list.new.at.cursor c.parameter_list.new.nodes c.parameter_list.new.at.used 0 (omega (arith, f2.room)) 50 refl refl c.in_ok-expect_next-2.ensures in
    let f4 = c.in_ok-ended_block.ensures in
    over 28 unlined p.cursor.place 0 (refl, refl, refl) (revalue (omega arith) (both _ f1 (both _ f2 (both _ f3 f4 (omega arith)) (omega arith)) (omega arith))) c.close.ensures refl

pub expression_statement-returns-in_err-last : goal.expression_statement-returns-in_err-last
unfolding read exprstat
expression_statement-returns-in_err-last t c =
    let x = c.args.self.now in
    let p = c.args.at.now in
    rw (handed c.from_residual.result c.from_residual.ensures.1) (lead_stop _ c.in_err-last.ensures)

pub expression_statement-returns-in_default : goal.expression_statement-returns-in_default
unfolding read
expression_statement-returns-in_default t c =
    let x = c.args.self.now in
    let p = c.args.at.now in
    let y = c.in_ok-last.ensures in
    let e = c.suffixed.new.at.cursor in
    let d = c.look_ahead.new.self in
    let tag = tag_word c.in_ok-last.last in
    moved x.stream.now (still p.cursor.note) p.used 0 c.args.nodes.now c.call_statement.new.nodes (record { cursor = d; used = c.suffixed.new.at.used }) c.call_statement.result (statement_ends x p.cursor y.0 c.in_default.ensures) (omega arith) (called p.used tag p.cursor.place c.line-line.result c.line-after.result c.call_statement.new.nodes y.0 d (end_place x.stream.now e (sym c.in_default.ensures)) (end_note x.stream.now e (sym c.in_default.ensures)) (suffixed_fits x.stream.now x.ranking x.levels p.cursor call' y.0 y.1) c.line-line.ensures c.line-after.ensures c.call_statement.result c.call_statement.ensures)

pub expression_statement-returns-then-not-is_target : goal.expression_statement-returns-then-not-is_target
unfolding read held_at
expression_statement-returns-then-not-is_target t c =
    let x = c.args.self.now in
    let p = c.args.at.now in
    let y = c.in_ok-last.ensures in
    let e = c.suffixed.new.at.cursor in
    let d = c.look_ahead.new.self in
    let tag = tag_word c.in_ok-last.last in
    let q = look_place x.stream.now e (sym c.in-Some.ensures) in
    let q' = look_note x.stream.now e (sym c.in-Some.ensures) in
    statement_assigns x p.cursor y.0 c.in-Some.ensures (either (37 ∷ 48 ∷ []) refl refl c.in-37.is) ∙ ap (wrap x.stream.now 16 opening p.cursor.place) (stop (Holding x (First x p.cursor y.0) Expression (plus 1 ⨾ P.assigned)) (keep_fail target (misfit 3 (line_at x.stream.now e.place)) refl (held_at y.0 d q q') ((suffixed_fits x.stream.now x.ranking x.levels p.cursor target y.0 y.1 ∙ sym c.is_target.ensures) ∙ c.if-not-is_target.true))) ∙ ap (λ (z : ℕ). fail (misfit 3 z)) (sym c.line-after.ensures) ∙ ap fail (sym c.misfit.ensures)

pub expression_statement-assigned-requires : goal.expression_statement-assigned-requires
expression_statement-assigned-requires t c =
    let x = c.args.self.now in
    let p = c.args.at.now in
    let y = c.in_ok-last.ensures in
    let e = c.suffixed.new.at.cursor in
    let d = c.look_ahead.new.self in
    let tag = tag_word c.in_ok-last.last in
    let q = look_place x.stream.now e (sym c.in-Some.ensures) in
    let q' = look_note x.stream.now e (sym c.in-Some.ensures) in
    (omega arith, (ready_seen d (ready_at y.0 (omega arith)) q, c.line-after.ensures ∙ ap (line_at x.stream.now) (sym q)))

pub expression_statement-returns-in_err-more-in-37 : goal.expression_statement-returns-in_err-more-in-37
unfolding read suffixed' suffix' primary' args' table' field' explist held_at
expression_statement-returns-in_err-more-in-37 t c =
    let x = c.args.self.now in
    let p = c.args.at.now in
    let y = c.in_ok-last.ensures in
    let e = c.suffixed.new.at.cursor in
    let d = c.look_ahead.new.self in
    let tag = tag_word c.in_ok-last.last in
    let q = look_place x.stream.now e (sym c.in-Some.ensures) in
    let q' = look_note x.stream.now e (sym c.in-Some.ensures) in
    let h = keep_fine target (misfit 3 (line_at x.stream.now e.place)) refl (held_at y.0 d q q') ((suffixed_fits x.stream.now x.ranking x.levels p.cursor target y.0 y.1 ∙ sym c.is_target.ensures) ∙ c.if-not-is_target.false) in
    let z = settled_end x.stream.now x.ranking 0 x.levels (First x p.cursor y.0) (Following x p.cursor y.0) P.assigned refl d ∙ ap (λ (z : ℕ). under x.stream.now x.ranking 0 x.levels z P.assigned d.place d.mark) (sym q) in
    rw (handed c.from_residual-in_err-more-in-37.result c.from_residual-in_err-more-in-37.ensures.1) (statement_assigns x p.cursor y.0 c.in-Some.ensures (either (37 ∷ 48 ∷ []) refl refl c.in-37.is) ∙ ap (wrap x.stream.now 16 opening p.cursor.place) (past (Holding x (First x p.cursor y.0) Expression (plus 1 ⨾ P.assigned)) h (ap (add none 1) (z ∙ c.in_err-more-in-37.ensures))))

pub expression_statement-returns-in_ok-more-in-37 : goal.expression_statement-returns-in_ok-more-in-37
unfolding read suffixed' suffix' primary' args' table' field' explist held_at
expression_statement-returns-in_ok-more-in-37 t c =
    let x = c.args.self.now in
    let p = c.args.at.now in
    let y = c.in_ok-last.ensures in
    let e = c.suffixed.new.at.cursor in
    let d = c.look_ahead.new.self in
    let tag = tag_word c.in_ok-last.last in
    let q = look_place x.stream.now e (sym c.in-Some.ensures) in
    let q' = look_note x.stream.now e (sym c.in-Some.ensures) in
    let h = keep_fine target (misfit 3 (line_at x.stream.now e.place)) refl (held_at y.0 d q q') ((suffixed_fits x.stream.now x.ranking x.levels p.cursor target y.0 y.1 ∙ sym c.is_target.ensures) ∙ c.if-not-is_target.false) in
    let z = settled_end x.stream.now x.ranking 0 x.levels (First x p.cursor y.0) (Following x p.cursor y.0) P.assigned refl d ∙ ap (λ (z : ℕ). under x.stream.now x.ranking 0 x.levels z P.assigned d.place d.mark) (sym q) in
    let g = c.in_ok-more-in-37.ensures.0 in
    alter (statement_assigns x p.cursor y.0 c.in-Some.ensures (either (37 ∷ 48 ∷ []) refl refl c.in-37.is)) (over 16 opening p.cursor.place c.line-line.result (refl, refl, refl) (revalue (omega arith) (both (Holding x (First x p.cursor y.0) Expression (plus 1 ⨾ P.assigned)) h (weighed 1 (alter z g)) (omega arith))) c.close.ensures c.line-line.ensures)

pub expression_statement-returns-in_default-kind : goal.expression_statement-returns-in_default-kind
unfolding read
expression_statement-returns-in_default-kind t c =
    let x = c.args.self.now in
    let p = c.args.at.now in
    let y = c.in_ok-last.ensures in
    let e = c.suffixed.new.at.cursor in
    let d = c.look_ahead.new.self in
    let tag = tag_word c.in_ok-last.last in
    let q = look_place x.stream.now e (sym c.in-Some.ensures) in
    let q' = look_note x.stream.now e (sym c.in-Some.ensures) in
    moved x.stream.now (still p.cursor.note) p.used 0 c.args.nodes.now c.call_statement-in_default-kind.new.nodes (record { cursor = d; used = c.suffixed.new.at.used }) c.call_statement-in_default-kind.result (statement_calls x p.cursor y.0 c.in-Some.ensures (nor c.in-Some.token.kind (37 ∷ 48 ∷ []) (λ z. grind arith) (λ z. grind arith))) (omega arith) (called p.used tag p.cursor.place c.line-line.result c.line-after.result c.call_statement-in_default-kind.new.nodes y.0 d q q' (suffixed_fits x.stream.now x.ranking x.levels p.cursor call' y.0 y.1) c.line-line.ensures c.line-after.ensures c.call_statement-in_default-kind.result c.call_statement-in_default-kind.ensures)

pub fields-field-requires : goal.fields-field-requires
fields-field-requires t c =
    let x = c.args.self.now in
    let p = c.args.at.now in
    let d = c.check_ahead.new.self in
    let q = check_place x.stream.now c.loop-at.at.cursor 0 54 c.check_ahead.ensures in
    (omega arith, ready_seen d c.loop-at.invariant.0.0 q)

pub fields-returns-in_err-field : goal.fields-returns-in_err-field
unfolding read
fields-returns-in_err-field t c =
    let x = c.args.self.now in
    let p = c.args.at.now in
    let d = c.check_ahead.new.self in
    let q = check_place x.stream.now c.loop-at.at.cursor 0 54 c.check_ahead.ensures in
    let g1 = fields_go_on x c.loop-at.count p c.loop-at.at c.args.nodes.now c.loop-at.nodes c.loop-at.invariant c.loop-at-test.ensures in
    rw (handed c.from_residual.result c.from_residual.ensures.1) (fails g1 (stop (Among x Separated) (field_there x d ∙ c.in_err-field.ensures)))

pub fields-returns-in_err-token : goal.fields-returns-in_err-token
unfolding read
fields-returns-in_err-token t c =
    let x = c.args.self.now in
    let p = c.args.at.now in
    let d = c.check_ahead.new.self in
    let q = check_place x.stream.now c.loop-at.at.cursor 0 54 c.check_ahead.ensures in
    let g1 = fields_go_on x c.loop-at.count p c.loop-at.at c.args.nodes.now c.loop-at.nodes c.loop-at.invariant c.loop-at-test.ensures in
    let f = c.in_ok-field.ensures in
    let g2 = field_read x (c.loop-at.count + 1) p (record { cursor = d; used = c.loop-at.at.used }) c.args.nodes.now c.loop-at.nodes g1 f (omega arith) in
    rw (handed c.from_residual-in_err-token.result c.from_residual-in_err-token.ensures.1) (fails g2 (next_fail x.stream.now (ranks x.ranking) 0 (readers x.stream.now (ranks x.ranking) x.levels) (hold 0 0 none) (under x.stream.now x.ranking 0 x.levels 0 P.fields) c.field.new.at.cursor (48 ∷ 45 ∷ []) (any ⨾ again') (word 54) (sym c.in_err-token.ensures)))

pub fields-loop-at-smaller : goal.fields-loop-at-smaller
fields-loop-at-smaller t c =
    let x = c.args.self.now in
    let p = c.args.at.now in
    let d = c.check_ahead.new.self in
    let q = check_place x.stream.now c.loop-at.at.cursor 0 54 c.check_ahead.ensures in
    let a = took_next x.stream.now c.get_next.new.self (sym c.in_ok-take_next-in-48.ensures) in
    let f = c.in_ok-field.ensures in
    let r = get_place x.stream.now c.field.new.at.cursor (sym c.in_ok-token.ensures) in
    omega (arith, f.later, f.at, a.place, r, q, c.loop-at.invariant.0.0.at)

pub fields-loop-at-preserved : goal.fields-loop-at-preserved
unfolding read
fields-loop-at-preserved t c =
    let x = c.args.self.now in
    let p = c.args.at.now in
    let d = c.check_ahead.new.self in
    let q = check_place x.stream.now c.loop-at.at.cursor 0 54 c.check_ahead.ensures in
    let g1 = fields_go_on x c.loop-at.count p c.loop-at.at c.args.nodes.now c.loop-at.nodes c.loop-at.invariant c.loop-at-test.ensures in
    let f = c.in_ok-field.ensures in
    let g2 = field_read x (c.loop-at.count + 1) p (record { cursor = d; used = c.loop-at.at.used }) c.args.nodes.now c.loop-at.nodes g1 f (omega arith) in
    let r = get_place x.stream.now c.field.new.at.cursor (sym c.in_ok-token.ensures) in
    let g3 = looks g2 (Among x (any ⨾ again')) c.get_next.new.self (next_in x.stream.now (ranks x.ranking) 0 (readers x.stream.now (ranks x.ranking) x.levels) (hold 0 0 none) (under x.stream.now x.ranking 0 x.levels 0 P.fields) c.field.new.at.cursor (48 ∷ 45 ∷ []) (any ⨾ again') (word 54) (sym c.in_ok-token.ensures) (either (48 ∷ 45 ∷ []) refl refl c.in-48.is)) r (get_note x.stream.now c.field.new.at.cursor (sym c.in_ok-token.ensures)) in
    let b = any_fine x.stream.now (ranks x.ranking) 0 (readers x.stream.now (ranks x.ranking) x.levels) (hold 0 0 none) (under x.stream.now x.ranking 0 x.levels 0 P.fields) c.get_next.new.self c.field.new.nodes c.field.new.at.used 0 x.formed (omega (arith, g3.room)) (sym c.in_ok-take_next-in-48.ensures) in
    ((record { at = b.at; room = b.room }, omega (arith, c.loop-at.invariant.0.1, q, r, f.later, b.later)), revalue_going (omega arith) (goes g3 (Among x again') refl b (omega arith)))

pub fields-returns-in_err-take_next-in-48 : goal.fields-returns-in_err-take_next-in-48
unfolding read
fields-returns-in_err-take_next-in-48 t c =
    let x = c.args.self.now in
    let p = c.args.at.now in
    let d = c.check_ahead.new.self in
    let q = check_place x.stream.now c.loop-at.at.cursor 0 54 c.check_ahead.ensures in
    let g1 = fields_go_on x c.loop-at.count p c.loop-at.at c.args.nodes.now c.loop-at.nodes c.loop-at.invariant c.loop-at-test.ensures in
    let f = c.in_ok-field.ensures in
    let g2 = field_read x (c.loop-at.count + 1) p (record { cursor = d; used = c.loop-at.at.used }) c.args.nodes.now c.loop-at.nodes g1 f (omega arith) in
    let r = get_place x.stream.now c.field.new.at.cursor (sym c.in_ok-token.ensures) in
    let g3 = looks g2 (Among x (any ⨾ again')) c.get_next.new.self (next_in x.stream.now (ranks x.ranking) 0 (readers x.stream.now (ranks x.ranking) x.levels) (hold 0 0 none) (under x.stream.now x.ranking 0 x.levels 0 P.fields) c.field.new.at.cursor (48 ∷ 45 ∷ []) (any ⨾ again') (word 54) (sym c.in_ok-token.ensures) (either (48 ∷ 45 ∷ []) refl refl c.in-48.is)) r (get_note x.stream.now c.field.new.at.cursor (sym c.in_ok-token.ensures)) in
    rw (handed c.from_residual-in_err-take_next-in-48.result c.from_residual-in_err-take_next-in-48.ensures.1) (fails g3 (stop (Among x again') (any_fail x.stream.now (ranks x.ranking) 0 (readers x.stream.now (ranks x.ranking) x.levels) (hold 0 0 none) (under x.stream.now x.ranking 0 x.levels 0 P.fields) c.get_next.new.self (sym c.in_err-take_next-in-48.ensures))))

pub fields-returns-in_err-expect_next : goal.fields-returns-in_err-expect_next
unfolding read
fields-returns-in_err-expect_next t c =
    let x = c.args.self.now in
    let p = c.args.at.now in
    let j : Closing x p c.loop-at-test.at c.args.nodes.now c.loop-at-test.nodes c.loop-at-test.count =
    elim c.loop-at-test.branch [
      | fields-else-loop-at-test w ↦ rw (w.at-is, w.nodes-is, w.count-is) (fields_close x c.loop-at.count p c.loop-at.at c.args.nodes.now c.loop-at.nodes c.loop-at.invariant w.loop-at-test.ensures)
      | fields-then-loop-at-test+in_ok-field+in_ok-token+in_default w ↦
          let d = c.check_ahead.new.self in
          let q = check_place x.stream.now c.loop-at.at.cursor 0 54 c.check_ahead.ensures in
          let g1 = fields_go_on x c.loop-at.count p c.loop-at.at c.args.nodes.now c.loop-at.nodes c.loop-at.invariant w.loop-at-test.ensures in
          let f = w.in_ok-field.ensures in
          let g2 = field_read x (c.loop-at.count + 1) p (record { cursor = d; used = c.loop-at.at.used }) c.args.nodes.now c.loop-at.nodes g1 f (omega arith) in
          let r = get_place x.stream.now w.field.new.at.cursor (sym w.in_ok-token.ensures) in
          let g3 = looks g2 (Among x (word 54)) w.get_next.new.self (next_out x.stream.now (ranks x.ranking) 0 (readers x.stream.now (ranks x.ranking) x.levels) (hold 0 0 none) (under x.stream.now x.ranking 0 x.levels 0 P.fields) w.field.new.at.cursor (48 ∷ 45 ∷ []) (any ⨾ again') (word 54) (sym w.in_ok-token.ensures) (nor w.in_ok-token.token.kind (48 ∷ 45 ∷ []) (λ z. grind arith) (λ z. grind arith))) r (get_note x.stream.now w.field.new.at.cursor (sym w.in_ok-token.ensures)) in
          rw (w.at-is, w.nodes-is, w.count-is) (g3, omega (arith, c.loop-at.invariant.0.1, q, r, f.later))
    ] in
    rw (handed c.from_residual-in_err-expect_next.result c.from_residual-in_err-expect_next.ensures.1) (fails j.0 (word_fail x.stream.now (ranks x.ranking) 0 (readers x.stream.now (ranks x.ranking) x.levels) (hold 0 0 none) (under x.stream.now x.ranking 0 x.levels 0 P.fields) c.loop-at-test.at.cursor 54 refl refl (sym c.in_err-expect_next.ensures)))

pub fields-returns : goal.fields-returns
unfolding read
fields-returns t c =
    let x = c.args.self.now in
    let p = c.args.at.now in
    let j : Closing x p c.loop-at-test.at c.args.nodes.now c.loop-at-test.nodes c.loop-at-test.count =
    elim c.loop-at-test.branch [
      | fields-else-loop-at-test w ↦ rw (w.at-is, w.nodes-is, w.count-is) (fields_close x c.loop-at.count p c.loop-at.at c.args.nodes.now c.loop-at.nodes c.loop-at.invariant w.loop-at-test.ensures)
      | fields-then-loop-at-test+in_ok-field+in_ok-token+in_default w ↦
          let d = c.check_ahead.new.self in
          let q = check_place x.stream.now c.loop-at.at.cursor 0 54 c.check_ahead.ensures in
          let g1 = fields_go_on x c.loop-at.count p c.loop-at.at c.args.nodes.now c.loop-at.nodes c.loop-at.invariant w.loop-at-test.ensures in
          let f = w.in_ok-field.ensures in
          let g2 = field_read x (c.loop-at.count + 1) p (record { cursor = d; used = c.loop-at.at.used }) c.args.nodes.now c.loop-at.nodes g1 f (omega arith) in
          let r = get_place x.stream.now w.field.new.at.cursor (sym w.in_ok-token.ensures) in
          let g3 = looks g2 (Among x (word 54)) w.get_next.new.self (next_out x.stream.now (ranks x.ranking) 0 (readers x.stream.now (ranks x.ranking) x.levels) (hold 0 0 none) (under x.stream.now x.ranking 0 x.levels 0 P.fields) w.field.new.at.cursor (48 ∷ 45 ∷ []) (any ⨾ again') (word 54) (sym w.in_ok-token.ensures) (nor w.in_ok-token.token.kind (48 ∷ 45 ∷ []) (λ z. grind arith) (λ z. grind arith))) r (get_note x.stream.now w.field.new.at.cursor (sym w.in_ok-token.ensures)) in
          rw (w.at-is, w.nodes-is, w.count-is) (g3, omega (arith, c.loop-at.invariant.0.1, q, r, f.later))
    ] in
    let b = word_fine x.stream.now (ranks x.ranking) 0 (readers x.stream.now (ranks x.ranking) x.levels) (hold 0 0 none) (under x.stream.now x.ranking 0 x.levels 0 P.fields) c.loop-at-test.at.cursor c.loop-at-test.nodes c.loop-at-test.at.used 0 x.formed (omega (arith, j.0.room)) 54 refl refl (sym c.in_ok-expect_next.ensures) in
    (lower (p.cursor.place + 1) (revalue (omega arith) (ends j.0 b (omega arith))) (omega (arith, j.0.later, b.later)), omega (arith, j.1, b.later))

pub for_statement-returns-in_err-expect_next : goal.for_statement-returns-in_err-expect_next
unfolding read forstat
for_statement-returns-in_err-expect_next t c =
    let x = c.args.self.now in
    let p = c.args.at.now in
    rw (handed c.from_residual.result c.from_residual.ensures.1) (lead_stop _ (stop _ (no_word x p.cursor 6 refl refl c.in_err-expect_next.ensures)))

pub for_statement-returns-in_err-name : goal.for_statement-returns-in_err-name
unfolding read forstat
for_statement-returns-in_err-name t c =
    let x = c.args.self.now in
    let p = c.args.at.now in
    let f1 = a_word x p.cursor c.args.nodes.now (p.used + 1) 0 (omega (arith, c.requires.room)) 6 refl refl c.in_ok-expect_next.ensures in
    rw (handed c.from_residual-in_err-name.result c.from_residual-in_err-name.ensures.1) (lead_stop _ (past _ f1 (no_name x c.expect_next.new.self c.in_err-name.ensures)))

pub for_statement-returns-in_err-token : goal.for_statement-returns-in_err-token
for_statement-returns-in_err-token t c =
    let x = c.args.self.now in
    let p = c.args.at.now in
    rw (handed c.from_residual-in_err-token.result c.from_residual-in_err-token.ensures.1) (for_ends x p.cursor c.in_ok-expect_next.ensures c.in_ok-name.ensures c.in_err-token.ensures)

pub for_statement-numeric_for-requires : goal.for_statement-numeric_for-requires
for_statement-numeric_for-requires t c =
    let x = c.args.self.now in
    let p = c.args.at.now in
    let a1 = took_kind x.stream.now p.cursor 6 (sym c.in_ok-expect_next.ensures) in
    let a2 = took_name x.stream.now c.expect_next.new.self (sym c.in_ok-name.ensures) in
    let q = get_place x.stream.now c.expect_name.new.self (sym c.in_ok-token.ensures) in
    let q' = get_note x.stream.now c.expect_name.new.self (sym c.in_ok-token.ensures) in
    let f2 = a_name x c.expect_next.new.self c.args.nodes.now (p.used + 1) 0 (omega (arith, c.requires.room, a1.place)) c.in_ok-name.ensures in
    let f = c.get_next.new.self in
    let y = paid a2 ∙ ap (λ (z : ℕ). payload x.stream.now (z - 1)) (sym q) in
    let w = weigh_fine x.stream.now (ranks x.ranking) 0 (readers x.stream.now (ranks x.ranking) x.levels) (hold 0 0 none) again f c.args.nodes.now (p.used + 1) 0 y (omega (arith, f2.at, q)) (omega (arith, c.requires.room, a1.place, a2.place, q)) in
    (omega arith, ready_at w (omega arith))

pub for_statement-returns-in_err-numeric_for-in-37 : goal.for_statement-returns-in_err-numeric_for-in-37
unfolding read
for_statement-returns-in_err-numeric_for-in-37 t c =
    let x = c.args.self.now in
    let p = c.args.at.now in
    let a1 = took_kind x.stream.now p.cursor 6 (sym c.in_ok-expect_next.ensures) in
    let a2 = took_name x.stream.now c.expect_next.new.self (sym c.in_ok-name.ensures) in
    let q = get_place x.stream.now c.expect_name.new.self (sym c.in_ok-token.ensures) in
    let q' = get_note x.stream.now c.expect_name.new.self (sym c.in_ok-token.ensures) in
    let f2 = a_name x c.expect_next.new.self c.args.nodes.now (p.used + 1) 0 (omega (arith, c.requires.room, a1.place)) c.in_ok-name.ensures in
    let f = c.get_next.new.self in
    let y = paid a2 ∙ ap (λ (z : ℕ). payload x.stream.now (z - 1)) (sym q) in
    let w = weigh_fine x.stream.now (ranks x.ranking) 0 (readers x.stream.now (ranks x.ranking) x.levels) (hold 0 0 none) again f c.args.nodes.now (p.used + 1) 0 y (omega (arith, f2.at, q)) (omega (arith, c.requires.room, a1.place, a2.place, q)) in
    rw (handed c.from_residual-in_err-numeric_for-in-37.result c.from_residual-in_err-numeric_for-in-37.ensures.1) (for_numeric x p.cursor c.in_ok-expect_next.ensures c.in_ok-name.ensures c.in_ok-token.ensures c.in-37.is ∙ ap (wrap x.stream.now 6 opening p.cursor.place) (past (rest x P.numeric) w c.in_err-numeric_for-in-37.ensures))

pub for_statement-generic_for-requires : goal.for_statement-generic_for-requires
for_statement-generic_for-requires t c =
    let x = c.args.self.now in
    let p = c.args.at.now in
    let a1 = took_kind x.stream.now p.cursor 6 (sym c.in_ok-expect_next.ensures) in
    let a2 = took_name x.stream.now c.expect_next.new.self (sym c.in_ok-name.ensures) in
    let q = get_place x.stream.now c.expect_name.new.self (sym c.in_ok-token.ensures) in
    let q' = get_note x.stream.now c.expect_name.new.self (sym c.in_ok-token.ensures) in
    let f2 = a_name x c.expect_next.new.self c.args.nodes.now (p.used + 1) 0 (omega (arith, c.requires.room, a1.place)) c.in_ok-name.ensures in
    let f = c.get_next.new.self in
    let y = paid a2 ∙ ap (λ (z : ℕ). payload x.stream.now (z - 1)) (sym q) in
    let w = leaf_fine x.stream.now (ranks x.ranking) 0 (readers x.stream.now (ranks x.ranking) x.levels) (hold 0 0 none) again f c.args.nodes.now (p.used + 1) 0 y (omega (arith, f2.at, q)) {u = p.used + 1 + 1} 30 (refl, refl, refl) refl (omega (arith, c.requires.room, a1.place, a2.place, q)) c.leaf.ensures in
    (omega arith, ready_at w (omega arith))

pub for_statement-returns-in_err-more-in-48 : goal.for_statement-returns-in_err-more-in-48
unfolding read
for_statement-returns-in_err-more-in-48 t c =
    let x = c.args.self.now in
    let p = c.args.at.now in
    let a1 = took_kind x.stream.now p.cursor 6 (sym c.in_ok-expect_next.ensures) in
    let a2 = took_name x.stream.now c.expect_next.new.self (sym c.in_ok-name.ensures) in
    let q = get_place x.stream.now c.expect_name.new.self (sym c.in_ok-token.ensures) in
    let q' = get_note x.stream.now c.expect_name.new.self (sym c.in_ok-token.ensures) in
    let f2 = a_name x c.expect_next.new.self c.args.nodes.now (p.used + 1) 0 (omega (arith, c.requires.room, a1.place)) c.in_ok-name.ensures in
    let f = c.get_next.new.self in
    let y = paid a2 ∙ ap (λ (z : ℕ). payload x.stream.now (z - 1)) (sym q) in
    let w = leaf_fine x.stream.now (ranks x.ranking) 0 (readers x.stream.now (ranks x.ranking) x.levels) (hold 0 0 none) again f c.args.nodes.now (p.used + 1) 0 y (omega (arith, f2.at, q)) {u = p.used + 1 + 1} 30 (refl, refl, refl) refl (omega (arith, c.requires.room, a1.place, a2.place, q)) c.leaf.ensures in
    rw (handed c.from_residual-in_err-more-in-48.result c.from_residual-in_err-more-in-48.ensures.1) (for_generic x p.cursor c.in_ok-expect_next.ensures c.in_ok-name.ensures c.in_ok-token.ensures (λ z. omega arith) (either (48 ∷ 10 ∷ []) refl refl c.in-48.is) ∙ ap (wrap x.stream.now 7 opening p.cursor.place) (past (rest x (plus 1 ⨾ P.generic)) w (ap (add none 1) c.in_err-more-in-48.ensures)))

pub for_statement-returns-in_ok-numeric_for-in-37 : goal.for_statement-returns-in_ok-numeric_for-in-37
unfolding read
for_statement-returns-in_ok-numeric_for-in-37 t c =
    let x = c.args.self.now in
    let p = c.args.at.now in
    let a1 = took_kind x.stream.now p.cursor 6 (sym c.in_ok-expect_next.ensures) in
    let a2 = took_name x.stream.now c.expect_next.new.self (sym c.in_ok-name.ensures) in
    let q = get_place x.stream.now c.expect_name.new.self (sym c.in_ok-token.ensures) in
    let q' = get_note x.stream.now c.expect_name.new.self (sym c.in_ok-token.ensures) in
    let f2 = a_name x c.expect_next.new.self c.args.nodes.now (p.used + 1) 0 (omega (arith, c.requires.room, a1.place)) c.in_ok-name.ensures in
    let f = c.get_next.new.self in
    let y = paid a2 ∙ ap (λ (z : ℕ). payload x.stream.now (z - 1)) (sym q) in
    let w = weigh_fine x.stream.now (ranks x.ranking) 0 (readers x.stream.now (ranks x.ranking) x.levels) (hold 0 0 none) again f c.args.nodes.now (p.used + 1) 0 y (omega (arith, f2.at, q)) (omega (arith, c.requires.room, a1.place, a2.place, q)) in
    let g = c.in_ok-numeric_for-in-37.ensures in
    let h = renoted (q' ∙ a2.note ∙ a1.note) (lower (p.cursor.place + 1) (revalue {w = c.in_ok-name.name.payload} (omega arith) (both (rest x P.numeric) w g (omega arith))) (omega (arith, g.later, q, a1.place, a2.place))) in
    alter (for_numeric x p.cursor c.in_ok-expect_next.ensures c.in_ok-name.ensures c.in_ok-token.ensures c.in-37.is) (over 6 opening p.cursor.place c.line-line.result (refl, refl, refl) h c.close.ensures c.line-line.ensures)

pub for_statement-returns-in_ok-more-in-48 : goal.for_statement-returns-in_ok-more-in-48
unfolding read
for_statement-returns-in_ok-more-in-48 t c =
    let x = c.args.self.now in
    let p = c.args.at.now in
    let a1 = took_kind x.stream.now p.cursor 6 (sym c.in_ok-expect_next.ensures) in
    let a2 = took_name x.stream.now c.expect_next.new.self (sym c.in_ok-name.ensures) in
    let q = get_place x.stream.now c.expect_name.new.self (sym c.in_ok-token.ensures) in
    let q' = get_note x.stream.now c.expect_name.new.self (sym c.in_ok-token.ensures) in
    let f2 = a_name x c.expect_next.new.self c.args.nodes.now (p.used + 1) 0 (omega (arith, c.requires.room, a1.place)) c.in_ok-name.ensures in
    let f = c.get_next.new.self in
    let y = paid a2 ∙ ap (λ (z : ℕ). payload x.stream.now (z - 1)) (sym q) in
    let w = leaf_fine x.stream.now (ranks x.ranking) 0 (readers x.stream.now (ranks x.ranking) x.levels) (hold 0 0 none) again f c.args.nodes.now (p.used + 1) 0 y (omega (arith, f2.at, q)) {u = p.used + 1 + 1} 30 (refl, refl, refl) refl (omega (arith, c.requires.room, a1.place, a2.place, q)) c.leaf.ensures in
    let g = c.in_ok-more-in-48.ensures.0 in
    let h = renoted (q' ∙ a2.note ∙ a1.note) (lower (p.cursor.place + 1) (revalue {w = c.in_ok-more-in-48.more + 1} (omega arith) (both (rest x (plus 1 ⨾ P.generic)) w (weighed 1 g) (omega arith))) (omega (arith, g.later, q, a1.place, a2.place))) in
    alter (for_generic x p.cursor c.in_ok-expect_next.ensures c.in_ok-name.ensures c.in_ok-token.ensures (λ z. omega arith) (either (48 ∷ 10 ∷ []) refl refl c.in-48.is)) (over 7 opening p.cursor.place c.line-line.result (refl, refl, refl) h c.close-in-48.ensures c.line-line.ensures)

pub for_statement-returns-in_default : goal.for_statement-returns-in_default
for_statement-returns-in_default t c =
    let x = c.args.self.now in
    let p = c.args.at.now in
    for_neither x p.cursor c.in_ok-expect_next.ensures c.in_ok-name.ensures c.in_ok-token.ensures (λ z. omega arith) (nor c.in_ok-token.token.kind (48 ∷ 10 ∷ []) (λ z. grind arith) (λ z. grind arith)) ∙ sym (ap fail c.unexpected.ensures)

pub function_statement-returns-in_err-expect_next : goal.function_statement-returns-in_err-expect_next
unfolding read functionstat
function_statement-returns-in_err-expect_next t c =
    let x = c.args.self.now in
    let p = c.args.at.now in
    rw (handed c.from_residual.result c.from_residual.ensures.1) (ap (wrap x.stream.now 9 opening p.cursor.place) ((stop _ (no_word x p.cursor 7 refl refl c.in_err-expect_next.ensures))))

pub function_statement-name-requires : goal.function_statement-name-requires
function_statement-name-requires t c =
    let x = c.args.self.now in
    let p = c.args.at.now in
    let f1 = a_word x p.cursor c.args.nodes.now (p.used + 1) 0 (omega (arith, c.requires.room)) 7 refl refl c.in_ok-expect_next.ensures in
    ready_at f1 (omega arith)

pub function_statement-returns-in_err-name : goal.function_statement-returns-in_err-name
unfolding read functionstat
function_statement-returns-in_err-name t c =
    let x = c.args.self.now in
    let p = c.args.at.now in
    let f1 = a_word x p.cursor c.args.nodes.now (p.used + 1) 0 (omega (arith, c.requires.room)) 7 refl refl c.in_ok-expect_next.ensures in
    rw (handed c.from_residual-in_err-name.result c.from_residual-in_err-name.ensures.1) (ap (wrap x.stream.now 9 opening p.cursor.place) ((past _ f1 (stop _ c.in_err-name.ensures))))

pub function_statement-returns-in_err-fields : goal.function_statement-returns-in_err-fields
unfolding read functionstat
function_statement-returns-in_err-fields t c =
    let x = c.args.self.now in
    let p = c.args.at.now in
    let f1 = a_word x p.cursor c.args.nodes.now (p.used + 1) 0 (omega (arith, c.requires.room)) 7 refl refl c.in_ok-expect_next.ensures in
    let f2 = c.in_ok-name.ensures in
    rw (handed c.from_residual-in_err-fields.result c.from_residual-in_err-fields.ensures.1) (ap (wrap x.stream.now 9 opening p.cursor.place) ((past _ f1 (past _ f2 (sym (then_assoc (at_cursor x (many ahead (44 ∷ []) (any ⨾ nameleaf ⨾ plus 2)) c.name.new.at.cursor) (rest x (opt ahead (46 ∷ []) (any ⨾ nameleaf ⨾ plus 1))) (rest x funcbody)) ∙ (stop (rest x funcbody) c.in_err-fields.ensures))))))

pub function_statement-returns-in_err-definition : goal.function_statement-returns-in_err-definition
unfolding read functionstat
function_statement-returns-in_err-definition t c =
    let x = c.args.self.now in
    let p = c.args.at.now in
    let f1 = a_word x p.cursor c.args.nodes.now (p.used + 1) 0 (omega (arith, c.requires.room)) 7 refl refl c.in_ok-expect_next.ensures in
    let f2 = c.in_ok-name.ensures in
    let f3 = c.in_ok-fields.ensures.0 in
    rw (handed c.from_residual-in_err-definition.result c.from_residual-in_err-definition.ensures.1) (ap (wrap x.stream.now 9 opening p.cursor.place) ((past _ f1 (past _ f2 (sym (then_assoc (at_cursor x (many ahead (44 ∷ []) (any ⨾ nameleaf ⨾ plus 2)) c.name.new.at.cursor) (rest x (opt ahead (46 ∷ []) (any ⨾ nameleaf ⨾ plus 1))) (rest x funcbody)) ∙ (past (rest x funcbody) f3 c.in_err-definition.ensures))))))

pub function_statement-returns : goal.function_statement-returns
unfolding read functionstat
function_statement-returns t c =
    let x = c.args.self.now in
    let p = c.args.at.now in
    let f1 = a_word x p.cursor c.args.nodes.now (p.used + 1) 0 (omega (arith, c.requires.room)) 7 refl refl c.in_ok-expect_next.ensures in
    let f2 = c.in_ok-name.ensures in
    let f3 = c.in_ok-fields.ensures.0 in
    let f4 = c.in_ok-definition.ensures in
    over 9 opening p.cursor.place c.line-line.result (refl, refl, refl) (revalue (omega arith) (both _ f1 (both _ f2 (alter (sym (then_assoc (at_cursor x (many ahead (44 ∷ []) (any ⨾ nameleaf ⨾ plus 2)) c.name.new.at.cursor) (rest x (opt ahead (46 ∷ []) (any ⨾ nameleaf ⨾ plus 1))) (rest x funcbody))) (both (rest x funcbody) f3 f4 (omega arith))) (omega arith)) (omega arith))) c.close.ensures c.line-line.ensures

pub generic_for-returns-in_err-names : goal.generic_for-returns-in_err-names
unfolding read
generic_for-returns-in_err-names t c =
    let x = c.args.self.now in
    let p = c.args.at.now in
    rw (handed c.from_residual.result c.from_residual.ensures.1) ((stop _ c.in_err-names.ensures))

pub generic_for-returns-in_err-expect_next : goal.generic_for-returns-in_err-expect_next
unfolding read
generic_for-returns-in_err-expect_next t c =
    let x = c.args.self.now in
    let p = c.args.at.now in
    let f1 = c.in_ok-names.ensures.0 in
    rw (handed c.from_residual-in_err-expect_next.result c.from_residual-in_err-expect_next.ensures.1) ((past _ f1 (stop _ (no_word x c.names.new.at.cursor 10 refl refl c.in_err-expect_next.ensures))))

pub generic_for-expressions-requires : goal.generic_for-expressions-requires
generic_for-expressions-requires t c =
    let x = c.args.self.now in
    let p = c.args.at.now in
    let f1 = c.in_ok-names.ensures.0 in
    let f2 = a_word x c.names.new.at.cursor c.names.new.nodes c.names.new.at.used 0 (omega (arith, f1.room)) 10 refl refl c.in_ok-expect_next.ensures in
    (omega arith, ready_at f2 (omega arith))

pub generic_for-returns-in_err-expressions : goal.generic_for-returns-in_err-expressions
unfolding read
generic_for-returns-in_err-expressions t c =
    let x = c.args.self.now in
    let p = c.args.at.now in
    let f1 = c.in_ok-names.ensures.0 in
    let f2 = a_word x c.names.new.at.cursor c.names.new.nodes c.names.new.at.used 0 (omega (arith, f1.room)) 10 refl refl c.in_ok-expect_next.ensures in
    rw (handed c.from_residual-in_err-expressions.result c.from_residual-in_err-expressions.ensures.1) ((past _ f1 (past _ f2 (stop _ (light_fail (exps_light x.stream.now x.ranking 0 x.levels (hold 0 0 none) again c.expect_next.new.self) c.in_err-expressions.ensures)))))

pub generic_for-returns-in_err-loop_body : goal.generic_for-returns-in_err-loop_body
unfolding read
generic_for-returns-in_err-loop_body t c =
    let x = c.args.self.now in
    let p = c.args.at.now in
    let f1 = c.in_ok-names.ensures.0 in
    let f2 = a_word x c.names.new.at.cursor c.names.new.nodes c.names.new.at.used 0 (omega (arith, f1.room)) 10 refl refl c.in_ok-expect_next.ensures in
    let f3 = light_fine (exps_light x.stream.now x.ranking 0 x.levels (hold 0 0 none) again c.expect_next.new.self) c.in_ok-expressions.ensures.0 in
    rw (handed c.from_residual-in_err-loop_body.result c.from_residual-in_err-loop_body.ensures.1) ((past _ f1 (past _ f2 (past _ f3 c.in_err-loop_body.ensures))))

pub generic_for-returns : goal.generic_for-returns
unfolding read
generic_for-returns t c =
    let x = c.args.self.now in
    let p = c.args.at.now in
    let f1 = c.in_ok-names.ensures.0 in
    let f2 = a_word x c.names.new.at.cursor c.names.new.nodes c.names.new.at.used 0 (omega (arith, f1.room)) 10 refl refl c.in_ok-expect_next.ensures in
    let f3 = light_fine (exps_light x.stream.now x.ranking 0 x.levels (hold 0 0 none) again c.expect_next.new.self) c.in_ok-expressions.ensures.0 in
    let f4 = c.in_ok-loop_body.ensures in
    (lower (p.cursor.place + 1) (revalue (omega arith) (both _ f1 (both _ f2 (both _ f3 f4 (omega arith)) (omega arith)) (omega arith))) (omega (arith, f1.later, f2.later, f3.later, f4.later)), omega (arith, c.in_ok-names.ensures.1, f2.later, f3.later, f4.later))

pub initial_values-returns-then-not-check_ahead : goal.initial_values-returns-then-not-check_ahead
unfolding read
initial_values-returns-then-not-check_ahead t c =
    let x = c.args.self.now in
    let p = c.args.at.now in
    let q = check_place x.stream.now p.cursor 0 37 c.check_ahead.ensures in
    let q' = check_note x.stream.now p.cursor 0 37 c.check_ahead.ensures in
    looked c.args.nodes.now p.used 0 p.cursor c.check_ahead.new.self (check_out x.stream.now (ranks x.ranking) 0 (readers x.stream.now (ranks x.ranking) x.levels) (hold 0 0 none) again p.cursor 37 (any ⨾ explist 0) empty (λ z. omega arith) c.if-not-check_ahead.ensures refl) q q' c.requires.at c.requires.room

pub initial_values-returns-in_err-take_next : goal.initial_values-returns-in_err-take_next
unfolding read
initial_values-returns-in_err-take_next t c =
    let x = c.args.self.now in
    let p = c.args.at.now in
    rw (handed c.from_residual.result c.from_residual.ensures.1) (check_in x.stream.now (ranks x.ranking) 0 (readers x.stream.now (ranks x.ranking) x.levels) (hold 0 0 none) again p.cursor 37 (any ⨾ explist 0) empty (λ z. omega arith) c.if-not-check_ahead.ensures refl ∙ stop _ (no_token x c.check_ahead.new.self c.in_err-take_next.ensures))

pub initial_values-expressions-requires : goal.initial_values-expressions-requires
initial_values-expressions-requires t c =
    let x = c.args.self.now in
    let p = c.args.at.now in
    let q = check_place x.stream.now p.cursor 0 37 c.check_ahead.ensures in
    let f1 = a_token x c.check_ahead.new.self c.args.nodes.now p.used 0 (omega (arith, q, c.requires.room)) c.in_ok-take_next.ensures in
    (omega arith, ready_at f1 (omega arith))

pub initial_values-returns-in_err-expressions : goal.initial_values-returns-in_err-expressions
unfolding read
initial_values-returns-in_err-expressions t c =
    let x = c.args.self.now in
    let p = c.args.at.now in
    let q = check_place x.stream.now p.cursor 0 37 c.check_ahead.ensures in
    let f1 = a_token x c.check_ahead.new.self c.args.nodes.now p.used 0 (omega (arith, q, c.requires.room)) c.in_ok-take_next.ensures in
    rw (handed c.from_residual-in_err-expressions.result c.from_residual-in_err-expressions.ensures.1) (check_in x.stream.now (ranks x.ranking) 0 (readers x.stream.now (ranks x.ranking) x.levels) (hold 0 0 none) again p.cursor 37 (any ⨾ explist 0) empty (λ z. omega arith) c.if-not-check_ahead.ensures refl ∙ past _ f1 (light_fail (exps_light x.stream.now x.ranking 0 x.levels (hold 0 0 none) again c.take_next.new.self) c.in_err-expressions.ensures))

pub initial_values-returns : goal.initial_values-returns
unfolding read
initial_values-returns t c =
    let x = c.args.self.now in
    let p = c.args.at.now in
    let q = check_place x.stream.now p.cursor 0 37 c.check_ahead.ensures in
    let q' = check_note x.stream.now p.cursor 0 37 c.check_ahead.ensures in
    let f1 = a_token x c.check_ahead.new.self c.args.nodes.now p.used 0 (omega (arith, q, c.requires.room)) c.in_ok-take_next.ensures in
    alter (check_in x.stream.now (ranks x.ranking) 0 (readers x.stream.now (ranks x.ranking) x.levels) (hold 0 0 none) again p.cursor 37 (any ⨾ explist 0) empty (λ z. omega arith) c.if-not-check_ahead.ensures refl) (lower p.cursor.place (renoted q' (both _ f1 (light_fine (exps_light x.stream.now x.ranking 0 x.levels (hold 0 0 none) again c.take_next.new.self) c.in_ok-expressions.ensures.0) (omega arith))) (omega (arith, q, f1.later, c.in_ok-expressions.ensures.0.later)))

pub local_function-returns-in_err-take_next : goal.local_function-returns-in_err-take_next
unfolding read localfunction
local_function-returns-in_err-take_next t c =
    let x = c.args.self.now in
    let p = c.args.at.now in
    rw (handed c.from_residual.result c.from_residual.ensures.1) (ap (wrap x.stream.now 10 opening p.cursor.place) ((stop _ (no_token x p.cursor c.in_err-take_next.ensures))))

pub local_function-returns-in_err-expect_next : goal.local_function-returns-in_err-expect_next
unfolding read localfunction
local_function-returns-in_err-expect_next t c =
    let x = c.args.self.now in
    let p = c.args.at.now in
    let f1 = a_token x p.cursor c.args.nodes.now (p.used + 1) 0 (omega (arith, c.requires.room)) c.in_ok-take_next.ensures in
    rw (handed c.from_residual-in_err-expect_next.result c.from_residual-in_err-expect_next.ensures.1) (ap (wrap x.stream.now 10 opening p.cursor.place) ((past _ f1 (stop _ (no_word x c.take_next.new.self 7 refl refl c.in_err-expect_next.ensures)))))

pub local_function-returns-in_err-name : goal.local_function-returns-in_err-name
unfolding read localfunction
local_function-returns-in_err-name t c =
    let x = c.args.self.now in
    let p = c.args.at.now in
    let f1 = a_token x p.cursor c.args.nodes.now (p.used + 1) 0 (omega (arith, c.requires.room)) c.in_ok-take_next.ensures in
    let f2 = a_word x c.take_next.new.self c.args.nodes.now (p.used + 1) 0 (omega (arith, f1.room)) 7 refl refl c.in_ok-expect_next.ensures in
    rw (handed c.from_residual-in_err-name.result c.from_residual-in_err-name.ensures.1) (ap (wrap x.stream.now 10 opening p.cursor.place) ((past _ f1 (past _ f2 (stop _ (no_name x c.expect_next.new.self c.in_err-name.ensures))))))

pub local_function-definition-requires : goal.local_function-definition-requires
local_function-definition-requires t c =
    let x = c.args.self.now in
    let p = c.args.at.now in
    let f1 = a_token x p.cursor c.args.nodes.now (p.used + 1) 0 (omega (arith, c.requires.room)) c.in_ok-take_next.ensures in
    let f2 = a_word x c.take_next.new.self c.args.nodes.now (p.used + 1) 0 (omega (arith, f1.room)) 7 refl refl c.in_ok-expect_next.ensures in
    let f3 = a_name x c.expect_next.new.self c.args.nodes.now (p.used + 1) 0 (omega (arith, f2.room)) c.in_ok-name.ensures in
    (omega arith, ready_at f3 (omega arith))

pub local_function-returns-in_err-definition : goal.local_function-returns-in_err-definition
unfolding read localfunction
local_function-returns-in_err-definition t c =
    let x = c.args.self.now in
    let p = c.args.at.now in
    let f1 = a_token x p.cursor c.args.nodes.now (p.used + 1) 0 (omega (arith, c.requires.room)) c.in_ok-take_next.ensures in
    let f2 = a_word x c.take_next.new.self c.args.nodes.now (p.used + 1) 0 (omega (arith, f1.room)) 7 refl refl c.in_ok-expect_next.ensures in
    let f3 = a_name x c.expect_next.new.self c.args.nodes.now (p.used + 1) 0 (omega (arith, f2.room)) c.in_ok-name.ensures in
    let f4 = weight x c.expect_next.new.self c.args.nodes.now (p.used + 1) 0 f3 c.in_ok-name.ensures in
    rw (handed c.from_residual-in_err-definition.result c.from_residual-in_err-definition.ensures.1) (ap (wrap x.stream.now 10 opening p.cursor.place) ((past _ f1 (past _ f2 (past _ f3 (past (rest x funcbody) f4 c.in_err-definition.ensures))))))

pub local_function-returns : goal.local_function-returns
unfolding read localfunction
local_function-returns t c =
    let x = c.args.self.now in
    let p = c.args.at.now in
    let f1 = a_token x p.cursor c.args.nodes.now (p.used + 1) 0 (omega (arith, c.requires.room)) c.in_ok-take_next.ensures in
    let f2 = a_word x c.take_next.new.self c.args.nodes.now (p.used + 1) 0 (omega (arith, f1.room)) 7 refl refl c.in_ok-expect_next.ensures in
    let f3 = a_name x c.expect_next.new.self c.args.nodes.now (p.used + 1) 0 (omega (arith, f2.room)) c.in_ok-name.ensures in
    let f4 = weight x c.expect_next.new.self c.args.nodes.now (p.used + 1) 0 f3 c.in_ok-name.ensures in
    let f5 = c.in_ok-definition.ensures in
    over 10 opening p.cursor.place c.line-line.result (refl, refl, refl) (revalue (omega arith) (both _ f1 (both _ f2 (both _ f3 (both (rest x funcbody) f4 f5 (omega arith)) (omega arith)) (omega arith)) (omega arith))) c.close.ensures c.line-line.ensures

pub local_statement-returns-in_err-expect_next : goal.local_statement-returns-in_err-expect_next
unfolding read localstat
local_statement-returns-in_err-expect_next t c =
    let x = c.args.self.now in
    let p = c.args.at.now in
    rw (handed c.from_residual.result c.from_residual.ensures.1) (ap (wrap x.stream.now 11 opening p.cursor.place) ((stop _ (no_word x p.cursor 11 refl refl c.in_err-expect_next.ensures))))

pub local_statement-name_list-requires : goal.local_statement-name_list-requires
local_statement-name_list-requires t c =
    let x = c.args.self.now in
    let p = c.args.at.now in
    let f1 = a_word x p.cursor c.args.nodes.now (p.used + 1) 0 (omega (arith, c.requires.room)) 11 refl refl c.in_ok-expect_next.ensures in
    ready_at f1 (omega arith)

pub local_statement-returns-in_err-names : goal.local_statement-returns-in_err-names
unfolding read localstat
local_statement-returns-in_err-names t c =
    let x = c.args.self.now in
    let p = c.args.at.now in
    let f1 = a_word x p.cursor c.args.nodes.now (p.used + 1) 0 (omega (arith, c.requires.room)) 11 refl refl c.in_ok-expect_next.ensures in
    rw (handed c.from_residual-in_err-names.result c.from_residual-in_err-names.ensures.1) (ap (wrap x.stream.now 11 opening p.cursor.place) ((past _ f1 (sym (then_assoc3 (at_cursor x nameleaf c.expect_next.new.self) (rest x (plus 1)) (rest x P.names) (rest x P.initial)) ∙ (stop (rest x P.initial) c.in_err-names.ensures)))))

pub local_statement-returns-in_err-initial_values : goal.local_statement-returns-in_err-initial_values
unfolding read localstat
local_statement-returns-in_err-initial_values t c =
    let x = c.args.self.now in
    let p = c.args.at.now in
    let f1 = a_word x p.cursor c.args.nodes.now (p.used + 1) 0 (omega (arith, c.requires.room)) 11 refl refl c.in_ok-expect_next.ensures in
    let f2 = c.in_ok-names.ensures.0 in
    rw (handed c.from_residual-in_err-initial_values.result c.from_residual-in_err-initial_values.ensures.1) (ap (wrap x.stream.now 11 opening p.cursor.place) ((past _ f1 (sym (then_assoc3 (at_cursor x nameleaf c.expect_next.new.self) (rest x (plus 1)) (rest x P.names) (rest x P.initial)) ∙ (past (rest x P.initial) f2 c.in_err-initial_values.ensures)))))

pub local_statement-returns : goal.local_statement-returns
unfolding read localstat
local_statement-returns t c =
    let x = c.args.self.now in
    let p = c.args.at.now in
    let f1 = a_word x p.cursor c.args.nodes.now (p.used + 1) 0 (omega (arith, c.requires.room)) 11 refl refl c.in_ok-expect_next.ensures in
    let f2 = c.in_ok-names.ensures.0 in
    let f3 = c.in_ok-initial_values.ensures in
    over 11 opening p.cursor.place c.line-line.result (refl, refl, refl) (revalue (omega arith) (both _ f1 (alter (sym (then_assoc3 (at_cursor x nameleaf c.expect_next.new.self) (rest x (plus 1)) (rest x P.names) (rest x P.initial))) (both (rest x P.initial) f2 f3 (omega arith))) (omega arith))) c.close.ensures c.line-line.ensures

pub numeric_for-returns-in_err-take_next : goal.numeric_for-returns-in_err-take_next
unfolding read
numeric_for-returns-in_err-take_next t c =
    let x = c.args.self.now in
    let p = c.args.at.now in
    rw (handed c.from_residual.result c.from_residual.ensures.1) ((stop _ (no_token x p.cursor c.in_err-take_next.ensures)))

pub numeric_for-expression-requires : goal.numeric_for-expression-requires
numeric_for-expression-requires t c =
    let x = c.args.self.now in
    let p = c.args.at.now in
    let f1 = a_token x p.cursor c.args.nodes.now p.used 0 (omega (arith, c.requires.room)) c.in_ok-take_next.ensures in
    (omega arith, ready_at f1 (omega arith))

pub numeric_for-returns-in_err-expression : goal.numeric_for-returns-in_err-expression
unfolding read
numeric_for-returns-in_err-expression t c =
    let x = c.args.self.now in
    let p = c.args.at.now in
    let f1 = a_token x p.cursor c.args.nodes.now p.used 0 (omega (arith, c.requires.room)) c.in_ok-take_next.ensures in
    rw (handed c.from_residual-in_err-expression.result c.from_residual-in_err-expression.ensures.1) ((past _ f1 (stop _ c.in_err-expression.ensures)))

pub numeric_for-returns-in_err-expect_next : goal.numeric_for-returns-in_err-expect_next
unfolding read
numeric_for-returns-in_err-expect_next t c =
    let x = c.args.self.now in
    let p = c.args.at.now in
    let f1 = a_token x p.cursor c.args.nodes.now p.used 0 (omega (arith, c.requires.room)) c.in_ok-take_next.ensures in
    let f2 = c.in_ok-expression.ensures in
    rw (handed c.from_residual-in_err-expect_next.result c.from_residual-in_err-expect_next.ensures.1) ((past _ f1 (past _ f2 (stop _ (no_word x c.expression.new.at.cursor 48 refl refl c.in_err-expect_next.ensures)))))

pub numeric_for-expression-requires-2 : goal.numeric_for-expression-requires-2
numeric_for-expression-requires-2 t c =
    let x = c.args.self.now in
    let p = c.args.at.now in
    let f1 = a_token x p.cursor c.args.nodes.now p.used 0 (omega (arith, c.requires.room)) c.in_ok-take_next.ensures in
    let f2 = c.in_ok-expression.ensures in
    let f3 = a_word x c.expression.new.at.cursor c.expression.new.nodes c.expression.new.at.used 0 (omega (arith, f2.room)) 48 refl refl c.in_ok-expect_next.ensures in
    (omega arith, ready_at f3 (omega arith))

pub numeric_for-returns-in_err-expression-2 : goal.numeric_for-returns-in_err-expression-2
unfolding read
numeric_for-returns-in_err-expression-2 t c =
    let x = c.args.self.now in
    let p = c.args.at.now in
    let f1 = a_token x p.cursor c.args.nodes.now p.used 0 (omega (arith, c.requires.room)) c.in_ok-take_next.ensures in
    let f2 = c.in_ok-expression.ensures in
    let f3 = a_word x c.expression.new.at.cursor c.expression.new.nodes c.expression.new.at.used 0 (omega (arith, f2.room)) 48 refl refl c.in_ok-expect_next.ensures in
    rw (handed c.from_residual-in_err-expression-2.result c.from_residual-in_err-expression-2.ensures.1) ((past _ f1 (past _ f2 (past _ f3 (stop _ c.in_err-expression-2.ensures)))))

pub numeric_for-returns-in_err-step : goal.numeric_for-returns-in_err-step
unfolding read
numeric_for-returns-in_err-step t c =
    let x = c.args.self.now in
    let p = c.args.at.now in
    let f1 = a_token x p.cursor c.args.nodes.now p.used 0 (omega (arith, c.requires.room)) c.in_ok-take_next.ensures in
    let f2 = c.in_ok-expression.ensures in
    let f3 = a_word x c.expression.new.at.cursor c.expression.new.nodes c.expression.new.at.used 0 (omega (arith, f2.room)) 48 refl refl c.in_ok-expect_next.ensures in
    let f4 = c.in_ok-expression-2.ensures in
    rw (handed c.from_residual-in_err-step.result c.from_residual-in_err-step.ensures.1) ((past _ f1 (past _ f2 (past _ f3 (past _ f4 (stop _ c.in_err-step.ensures))))))

pub numeric_for-returns : goal.numeric_for-returns
unfolding read
numeric_for-returns t c =
    let x = c.args.self.now in
    let p = c.args.at.now in
    let f1 = a_token x p.cursor c.args.nodes.now p.used 0 (omega (arith, c.requires.room)) c.in_ok-take_next.ensures in
    let f2 = c.in_ok-expression.ensures in
    let f3 = a_word x c.expression.new.at.cursor c.expression.new.nodes c.expression.new.at.used 0 (omega (arith, f2.room)) 48 refl refl c.in_ok-expect_next.ensures in
    let f4 = c.in_ok-expression-2.ensures in
    let f5 = c.in_ok-step.ensures in
    (onward 0 c.loop_body.new.nodes _ f1 c.loop_body.new.at c.loop_body.result (onward 0 c.loop_body.new.nodes _ f2 c.loop_body.new.at c.loop_body.result (onward 0 c.loop_body.new.nodes _ f3 c.loop_body.new.at c.loop_body.result (onward 0 c.loop_body.new.nodes _ f4 c.loop_body.new.at c.loop_body.result (onward 0 c.loop_body.new.nodes _ f5 c.loop_body.new.at c.loop_body.result c.loop_body.ensures (omega arith)) (omega arith)) (omega arith)) (omega arith)) (omega arith))

pub repeat_statement-returns-in_err-expect_next : goal.repeat_statement-returns-in_err-expect_next
unfolding read repeatstat
repeat_statement-returns-in_err-expect_next t c =
    let x = c.args.self.now in
    let p = c.args.at.now in
    rw (handed c.from_residual.result c.from_residual.ensures.1) (ap (wrap x.stream.now 8 opening p.cursor.place) ((stop _ (no_word x p.cursor 16 refl refl c.in_err-expect_next.ensures))))

pub repeat_statement-block-requires : goal.repeat_statement-block-requires
repeat_statement-block-requires t c =
    let x = c.args.self.now in
    let p = c.args.at.now in
    let f1 = a_word x p.cursor c.args.nodes.now (p.used + 1) 0 (omega (arith, c.requires.room)) 16 refl refl c.in_ok-expect_next.ensures in
    (omega arith, ready_at f1 (omega arith))

pub repeat_statement-returns-in_err-block : goal.repeat_statement-returns-in_err-block
unfolding read repeatstat
repeat_statement-returns-in_err-block t c =
    let x = c.args.self.now in
    let p = c.args.at.now in
    let f1 = a_word x p.cursor c.args.nodes.now (p.used + 1) 0 (omega (arith, c.requires.room)) 16 refl refl c.in_ok-expect_next.ensures in
    rw (handed c.from_residual-in_err-block.result c.from_residual-in_err-block.ensures.1) (ap (wrap x.stream.now 8 opening p.cursor.place) ((past _ f1 (stop _ c.in_err-block.ensures))))

pub repeat_statement-returns-in_err-expect_next-2 : goal.repeat_statement-returns-in_err-expect_next-2
unfolding read repeatstat
repeat_statement-returns-in_err-expect_next-2 t c =
    let x = c.args.self.now in
    let p = c.args.at.now in
    let f1 = a_word x p.cursor c.args.nodes.now (p.used + 1) 0 (omega (arith, c.requires.room)) 16 refl refl c.in_ok-expect_next.ensures in
    let f2 = c.in_ok-block.ensures in
    rw (handed c.from_residual-in_err-expect_next-2.result c.from_residual-in_err-expect_next-2.ensures.1) (ap (wrap x.stream.now 8 opening p.cursor.place) ((past _ f1 (past _ f2 (stop _ (no_word x c.block.new.at.cursor 20 refl refl c.in_err-expect_next-2.ensures))))))

pub repeat_statement-expression-requires : goal.repeat_statement-expression-requires
repeat_statement-expression-requires t c =
    let x = c.args.self.now in
    let p = c.args.at.now in
    let f1 = a_word x p.cursor c.args.nodes.now (p.used + 1) 0 (omega (arith, c.requires.room)) 16 refl refl c.in_ok-expect_next.ensures in
    let f2 = c.in_ok-block.ensures in
    let f3 = a_word x c.block.new.at.cursor c.block.new.nodes c.block.new.at.used 0 (omega (arith, f2.room)) 20 refl refl c.in_ok-expect_next-2.ensures in
    (omega arith, ready_at f3 (omega arith))

pub repeat_statement-returns-in_err-expression : goal.repeat_statement-returns-in_err-expression
unfolding read repeatstat
repeat_statement-returns-in_err-expression t c =
    let x = c.args.self.now in
    let p = c.args.at.now in
    let f1 = a_word x p.cursor c.args.nodes.now (p.used + 1) 0 (omega (arith, c.requires.room)) 16 refl refl c.in_ok-expect_next.ensures in
    let f2 = c.in_ok-block.ensures in
    let f3 = a_word x c.block.new.at.cursor c.block.new.nodes c.block.new.at.used 0 (omega (arith, f2.room)) 20 refl refl c.in_ok-expect_next-2.ensures in
    rw (handed c.from_residual-in_err-expression.result c.from_residual-in_err-expression.ensures.1) (ap (wrap x.stream.now 8 opening p.cursor.place) ((past _ f1 (past _ f2 (past _ f3 c.in_err-expression.ensures)))))

pub repeat_statement-returns : goal.repeat_statement-returns
unfolding read repeatstat
repeat_statement-returns t c =
    let x = c.args.self.now in
    let p = c.args.at.now in
    let f1 = a_word x p.cursor c.args.nodes.now (p.used + 1) 0 (omega (arith, c.requires.room)) 16 refl refl c.in_ok-expect_next.ensures in
    let f2 = c.in_ok-block.ensures in
    let f3 = a_word x c.block.new.at.cursor c.block.new.nodes c.block.new.at.used 0 (omega (arith, f2.room)) 20 refl refl c.in_ok-expect_next-2.ensures in
    let f4 = c.in_ok-expression.ensures in
    over 8 opening p.cursor.place c.line-line.result (refl, refl, refl) (revalue (omega arith) (both _ f1 (both _ f2 (both _ f3 f4 (omega arith)) (omega arith)) (omega arith))) c.close.ensures c.line-line.ensures

pub step-returns-then-not-check_ahead : goal.step-returns-then-not-check_ahead
unfolding read
step-returns-then-not-check_ahead t c =
    let x = c.args.self.now in
    let p = c.args.at.now in
    let q = check_place x.stream.now p.cursor 0 48 c.check_ahead.ensures in
    let q' = check_note x.stream.now p.cursor 0 48 c.check_ahead.ensures in
    looked c.args.nodes.now p.used 0 p.cursor c.check_ahead.new.self (check_out x.stream.now (ranks x.ranking) 0 (readers x.stream.now (ranks x.ranking) x.levels) (hold 0 0 none) again p.cursor 48 (any ⨾ expr) empty (λ z. omega arith) c.if-not-check_ahead.ensures refl) q q' c.requires.at c.requires.room

pub step-returns-in_err-take_next : goal.step-returns-in_err-take_next
unfolding read
step-returns-in_err-take_next t c =
    let x = c.args.self.now in
    let p = c.args.at.now in
    rw (handed c.from_residual.result c.from_residual.ensures.1) (check_in x.stream.now (ranks x.ranking) 0 (readers x.stream.now (ranks x.ranking) x.levels) (hold 0 0 none) again p.cursor 48 (any ⨾ expr) empty (λ z. omega arith) c.if-not-check_ahead.ensures refl ∙ stop _ (no_token x c.check_ahead.new.self c.in_err-take_next.ensures))

pub step-expression-requires : goal.step-expression-requires
step-expression-requires t c =
    let x = c.args.self.now in
    let p = c.args.at.now in
    let q = check_place x.stream.now p.cursor 0 48 c.check_ahead.ensures in
    let f1 = a_token x c.check_ahead.new.self c.args.nodes.now p.used 0 (omega (arith, q, c.requires.room)) c.in_ok-take_next.ensures in
    (omega arith, ready_at f1 (omega arith))

pub step-returns : goal.step-returns
unfolding read
step-returns t c =
    let x = c.args.self.now in
    let p = c.args.at.now in
    let q = check_place x.stream.now p.cursor 0 48 c.check_ahead.ensures in
    let q' = check_note x.stream.now p.cursor 0 48 c.check_ahead.ensures in
    let f1 = a_token x c.check_ahead.new.self c.args.nodes.now p.used 0 (omega (arith, q, c.requires.room)) c.in_ok-take_next.ensures in
    moved x.stream.now q' p.used 0 c.args.nodes.now c.expression.new.nodes c.expression.new.at c.expression.result (check_in x.stream.now (ranks x.ranking) 0 (readers x.stream.now (ranks x.ranking) x.levels) (hold 0 0 none) again p.cursor 48 (any ⨾ expr) empty (λ z. omega arith) c.if-not-check_ahead.ensures refl) (omega (arith, q)) (onward 0 c.expression.new.nodes _ f1 c.expression.new.at c.expression.result c.expression.ensures (omega arith))

pub table-returns-in_err-expect_next : goal.table-returns-in_err-expect_next
unfolding read table'
table-returns-in_err-expect_next t c =
    let x = c.args.self.now in
    let p = c.args.at.now in
    rw (handed c.from_residual.result c.from_residual.ensures.1) (ap (wrap x.stream.now 27 unlined p.cursor.place) ((stop _ (no_word x p.cursor 53 refl refl c.in_err-expect_next.ensures))))

pub table-fields-requires : goal.table-fields-requires
table-fields-requires t c =
    let x = c.args.self.now in
    let p = c.args.at.now in
    let f1 = a_word x p.cursor c.args.nodes.now (p.used + 1) 0 (omega (arith, c.requires.room)) 53 refl refl c.in_ok-expect_next.ensures in
    (omega arith, ready_at f1 (omega arith))

pub table-returns-in_err-fields : goal.table-returns-in_err-fields
unfolding read table'
table-returns-in_err-fields t c =
    let x = c.args.self.now in
    let p = c.args.at.now in
    let f1 = a_word x p.cursor c.args.nodes.now (p.used + 1) 0 (omega (arith, c.requires.room)) 53 refl refl c.in_ok-expect_next.ensures in
    rw (handed c.from_residual-in_err-fields.result c.from_residual-in_err-fields.ensures.1) (ap (wrap x.stream.now 27 unlined p.cursor.place) ((past _ f1 c.in_err-fields.ensures)))

pub table-returns : goal.table-returns
unfolding read table'
table-returns t c =
    let x = c.args.self.now in
    let p = c.args.at.now in
    let f1 = a_word x p.cursor c.args.nodes.now (p.used + 1) 0 (omega (arith, c.requires.room)) 53 refl refl c.in_ok-expect_next.ensures in
    let f2 = c.in_ok-fields.ensures.0 in
    over 27 unlined p.cursor.place 0 (refl, refl, refl) (revalue (omega arith) (both _ f1 f2 (omega arith))) c.close.ensures refl

pub targets-returns-in_err-take_next : goal.targets-returns-in_err-take_next
unfolding read suffixed' suffix' primary' args' table' field' explist
targets-returns-in_err-take_next t c =
    let x = c.args.self.now in
    let p = c.args.at.now in
    let d = c.check_ahead.new.self in
    let q = check_place x.stream.now c.loop-at.at.cursor 0 48 c.check_ahead.ensures in
    rw (handed c.from_residual.result c.from_residual.ensures.1) (λ e h. many_fails x e 48 (λ z. omega arith) (any ⨾ kept' target 3 suffixed' ⨾ plus 1) refl 0 c.loop-at.count p c.loop-at.at c.args.nodes.now c.loop-at.nodes (c.loop-at.invariant.2 e h) c.loop-at-test.ensures (stop (Turn x e (kept' target 3 suffixed' ⨾ plus 1)) (any_fail x.stream.now (ranks x.ranking) 0 (readers x.stream.now (ranks x.ranking) x.levels) (hold 0 e none) (under x.stream.now x.ranking 0 x.levels e P.targets) d (sym c.in_err-take_next.ensures))))

pub targets-suffixed-requires : goal.targets-suffixed-requires
targets-suffixed-requires t c =
    let x = c.args.self.now in
    let p = c.args.at.now in
    let d = c.check_ahead.new.self in
    let q = check_place x.stream.now c.loop-at.at.cursor 0 48 c.check_ahead.ensures in
    (omega arith, ready_at (a_token x d c.loop-at.nodes c.loop-at.at.used 0 (omega (arith, c.loop-at.invariant.0.0.room, q)) c.in_ok-take_next.ensures) (omega arith))

pub targets-returns-in_err-last : goal.targets-returns-in_err-last
unfolding read suffixed' suffix' primary' args' table' field' explist
targets-returns-in_err-last t c =
    let x = c.args.self.now in
    let p = c.args.at.now in
    let d = c.check_ahead.new.self in
    let q = check_place x.stream.now c.loop-at.at.cursor 0 48 c.check_ahead.ensures in
    rw (handed c.from_residual-in_err-last.result c.from_residual-in_err-last.ensures.1) (λ e h. let f1 = any_fine x.stream.now (ranks x.ranking) 0 (readers x.stream.now (ranks x.ranking) x.levels) (hold 0 e none) (under x.stream.now x.ranking 0 x.levels e P.targets) d c.loop-at.nodes c.loop-at.at.used 0 x.formed (omega (arith, c.loop-at.invariant.0.0.room, q)) (sym c.in_ok-take_next.ensures) in let s = settled x.stream.now x.ranking 0 x.levels (hold 0 e none) (under x.stream.now x.ranking 0 x.levels e P.targets) suffixed' refl c.take_next.new.self in many_fails x e 48 (λ z. omega arith) (any ⨾ kept' target 3 suffixed' ⨾ plus 1) refl 0 c.loop-at.count p c.loop-at.at c.args.nodes.now c.loop-at.nodes (c.loop-at.invariant.2 e h) c.loop-at-test.ensures (past (Turn x e (kept' target 3 suffixed' ⨾ plus 1)) f1 (stop (Turn x e (plus 1)) (ap (keep target (misfit 3 (line_at x.stream.now e))) (s ∙ c.in_err-last.ensures)))))

pub targets-returns-then-not-is_target : goal.targets-returns-then-not-is_target
unfolding read suffixed' suffix' primary' args' table' field' explist
targets-returns-then-not-is_target t c =
    let x = c.args.self.now in
    let p = c.args.at.now in
    let d = c.check_ahead.new.self in
    let q = check_place x.stream.now c.loop-at.at.cursor 0 48 c.check_ahead.ensures in
    let y = c.in_ok-last.ensures in
    λ e h. let f1 = any_fine x.stream.now (ranks x.ranking) 0 (readers x.stream.now (ranks x.ranking) x.levels) (hold 0 e none) (under x.stream.now x.ranking 0 x.levels e P.targets) d c.loop-at.nodes c.loop-at.at.used 0 x.formed (omega (arith, c.loop-at.invariant.0.0.room, q)) (sym c.in_ok-take_next.ensures) in let s = settled x.stream.now x.ranking 0 x.levels (hold 0 e none) (under x.stream.now x.ranking 0 x.levels e P.targets) suffixed' refl c.take_next.new.self in many_fails x e 48 (λ z. omega arith) (any ⨾ kept' target 3 suffixed' ⨾ plus 1) refl 0 c.loop-at.count p c.loop-at.at c.args.nodes.now c.loop-at.nodes (c.loop-at.invariant.2 e h) c.loop-at-test.ensures (past (Turn x e (kept' target 3 suffixed' ⨾ plus 1)) f1 (stop (Turn x e (plus 1)) (keep_fail target (misfit 3 (line_at x.stream.now e)) s y.0 ((suffixed_fits x.stream.now x.ranking x.levels c.take_next.new.self target y.0 y.1 ∙ sym c.is_target.ensures) ∙ c.if-not-is_target.true)))) ∙ ap (λ (z : ℕ). fail (misfit 3 z)) (sym h) ∙ ap fail (sym c.misfit.ensures)

pub targets-loop-at-smaller : goal.targets-loop-at-smaller
targets-loop-at-smaller t c =
    let x = c.args.self.now in
    let p = c.args.at.now in
    let d = c.check_ahead.new.self in
    let q = check_place x.stream.now c.loop-at.at.cursor 0 48 c.check_ahead.ensures in
    let y = c.in_ok-last.ensures in
    let a = took_next x.stream.now d (sym c.in_ok-take_next.ensures) in
    omega (arith, y.0.later, y.0.at, a.place, q)

pub targets-loop-at-preserved : goal.targets-loop-at-preserved
unfolding read suffixed' suffix' primary' args' table' field' explist
targets-loop-at-preserved t c =
    let x = c.args.self.now in
    let p = c.args.at.now in
    let d = c.check_ahead.new.self in
    let q = check_place x.stream.now c.loop-at.at.cursor 0 48 c.check_ahead.ensures in
    let y = c.in_ok-last.ensures in
    let a = took_next x.stream.now d (sym c.in_ok-take_next.ensures) in
    ((ready_at y.0 (omega arith), omega (arith, y.0.later, a.place, q, c.loop-at.invariant.0.1)), kept y.0 ∙ c.loop-at.invariant.1, λ e h. let f1 = any_fine x.stream.now (ranks x.ranking) 0 (readers x.stream.now (ranks x.ranking) x.levels) (hold 0 e none) (under x.stream.now x.ranking 0 x.levels e P.targets) d c.loop-at.nodes c.loop-at.at.used 0 x.formed (omega (arith, c.loop-at.invariant.0.0.room, q)) (sym c.in_ok-take_next.ensures) in let s = settled x.stream.now x.ranking 0 x.levels (hold 0 e none) (under x.stream.now x.ranking 0 x.levels e P.targets) suffixed' refl c.take_next.new.self in ((ready_at y.0 (omega arith), omega (arith, y.0.later, a.place, q, c.loop-at.invariant.0.1)), many_turns x e 48 (λ z. omega arith) (any ⨾ kept' target 3 suffixed' ⨾ plus 1) refl 0 c.loop-at.count p c.loop-at.at c.args.nodes.now c.loop-at.nodes (c.loop-at.invariant.2 e h) c.loop-at-test.ensures (both (Turn x e (kept' target 3 suffixed' ⨾ plus 1)) f1 (both (Turn x e (plus 1)) (keep_fine target (misfit 3 (line_at x.stream.now e)) s y.0 ((suffixed_fits x.stream.now x.ranking x.levels c.take_next.new.self target y.0 y.1 ∙ sym c.is_target.ensures) ∙ c.if-not-is_target.false)) (weighs _ _ 0 1 _ y.0.at y.0.room) (omega arith)) (omega arith)) (omega arith) y.0.room))

pub targets-returns : goal.targets-returns
unfolding read suffixed' suffix' primary' args' table' field' explist
targets-returns t c =
    let x = c.args.self.now in
    let p = c.args.at.now in
    let d = c.check_ahead.new.self in
    let q = check_place x.stream.now c.loop-at.at.cursor 0 48 c.check_ahead.ensures in
    λ e h. (many_ends x e 48 (λ z. omega arith) (any ⨾ kept' target 3 suffixed' ⨾ plus 1) refl 0 c.loop-at.count p c.loop-at.at c.args.nodes.now c.loop-at.nodes (c.loop-at.invariant.2 e h) c.loop-at-test.ensures, omega (arith, q, c.loop-at.invariant.0.1))

pub item-returns-in_err-expression : goal.item-returns-in_err-expression
unfolding read
item-returns-in_err-expression t c =
    let x = c.args.self.now in
    let p = c.args.at.now in
    rw (handed c.from_residual.result c.from_residual.ensures.1) (ap (wrap x.stream.now 36 unlined p.cursor.place) c.in_err-expression.ensures)

pub item-returns : goal.item-returns
unfolding read
item-returns t c =
    let x = c.args.self.now in
    let p = c.args.at.now in
    over 36 unlined p.cursor.place 0 (refl, refl, refl) c.in_ok-expression.ensures c.close.ensures refl

pub named_field-returns-in_err-name : goal.named_field-returns-in_err-name
unfolding read
named_field-returns-in_err-name t c =
    let x = c.args.self.now in
    let p = c.args.at.now in
    rw (handed c.from_residual.result c.from_residual.ensures.1) (ap (wrap x.stream.now 37 unlined p.cursor.place) (stop _ (no_name x p.cursor c.in_err-name.ensures)))

pub named_field-returns-in_err-expect_next : goal.named_field-returns-in_err-expect_next
unfolding read
named_field-returns-in_err-expect_next t c =
    let x = c.args.self.now in
    let p = c.args.at.now in
    let n = a_name x p.cursor c.args.nodes.now (p.used + 1) 0 (omega (arith, c.requires.room)) c.in_ok-name.ensures in
    let v = weight x p.cursor c.args.nodes.now (p.used + 1) 0 n c.in_ok-name.ensures in
    rw (handed c.from_residual-in_err-expect_next.result c.from_residual-in_err-expect_next.ensures.1) (ap (wrap x.stream.now 37 unlined p.cursor.place) (past _ n (past (rest x (word 37 ⨾ expr)) v (stop _ (no_word x c.expect_name.new.self 37 refl refl c.in_err-expect_next.ensures)))))

pub named_field-expression-requires : goal.named_field-expression-requires
named_field-expression-requires t c =
    let x = c.args.self.now in
    let p = c.args.at.now in
    let n = a_name x p.cursor c.args.nodes.now (p.used + 1) 0 (omega (arith, c.requires.room)) c.in_ok-name.ensures in
    let v = weight x p.cursor c.args.nodes.now (p.used + 1) 0 n c.in_ok-name.ensures in
    let k = a_word x c.expect_name.new.self c.args.nodes.now (p.used + 1) 0 (omega (arith, v.room)) 37 refl refl c.in_ok-expect_next.ensures in
    (omega arith, ready_at k (omega arith))

pub named_field-returns-in_err-expression : goal.named_field-returns-in_err-expression
unfolding read
named_field-returns-in_err-expression t c =
    let x = c.args.self.now in
    let p = c.args.at.now in
    let n = a_name x p.cursor c.args.nodes.now (p.used + 1) 0 (omega (arith, c.requires.room)) c.in_ok-name.ensures in
    let v = weight x p.cursor c.args.nodes.now (p.used + 1) 0 n c.in_ok-name.ensures in
    let k = a_word x c.expect_name.new.self c.args.nodes.now (p.used + 1) 0 (omega (arith, v.room)) 37 refl refl c.in_ok-expect_next.ensures in
    rw (handed c.from_residual-in_err-expression.result c.from_residual-in_err-expression.ensures.1) (ap (wrap x.stream.now 37 unlined p.cursor.place) (past _ n (past (rest x (word 37 ⨾ expr)) v (past _ k c.in_err-expression.ensures))))

pub named_field-returns : goal.named_field-returns
unfolding read
named_field-returns t c =
    let x = c.args.self.now in
    let p = c.args.at.now in
    let n = a_name x p.cursor c.args.nodes.now (p.used + 1) 0 (omega (arith, c.requires.room)) c.in_ok-name.ensures in
    let v = weight x p.cursor c.args.nodes.now (p.used + 1) 0 n c.in_ok-name.ensures in
    let k = a_word x c.expect_name.new.self c.args.nodes.now (p.used + 1) 0 (omega (arith, v.room)) 37 refl refl c.in_ok-expect_next.ensures in
    over 37 unlined p.cursor.place 0 (refl, refl, refl) (revalue (omega arith) (both _ n (both (rest x (word 37 ⨾ expr)) v (both _ k c.in_ok-expression.ensures (omega arith)) (omega arith)) (omega arith))) c.close.ensures refl

pub indexed_field-returns-in_err-take_next : goal.indexed_field-returns-in_err-take_next
unfolding read
indexed_field-returns-in_err-take_next t c =
    let x = c.args.self.now in
    let p = c.args.at.now in
    rw (handed c.from_residual.result c.from_residual.ensures.1) (ap (wrap x.stream.now 38 unlined p.cursor.place) (stop _ (no_token x p.cursor c.in_err-take_next.ensures)))

pub indexed_field-expression-requires : goal.indexed_field-expression-requires
indexed_field-expression-requires t c =
    let x = c.args.self.now in
    let p = c.args.at.now in
    let k = a_token x p.cursor c.args.nodes.now (p.used + 1) 0 (omega (arith, c.requires.room)) c.in_ok-take_next.ensures in
    (omega arith, ready_at k (omega arith))

pub indexed_field-returns-in_err-expression : goal.indexed_field-returns-in_err-expression
unfolding read
indexed_field-returns-in_err-expression t c =
    let x = c.args.self.now in
    let p = c.args.at.now in
    let k = a_token x p.cursor c.args.nodes.now (p.used + 1) 0 (omega (arith, c.requires.room)) c.in_ok-take_next.ensures in
    rw (handed c.from_residual-in_err-expression.result c.from_residual-in_err-expression.ensures.1) (ap (wrap x.stream.now 38 unlined p.cursor.place) (past _ k (stop _ c.in_err-expression.ensures)))

pub indexed_field-returns-in_err-expect_next : goal.indexed_field-returns-in_err-expect_next
unfolding read
indexed_field-returns-in_err-expect_next t c =
    let x = c.args.self.now in
    let p = c.args.at.now in
    let k = a_token x p.cursor c.args.nodes.now (p.used + 1) 0 (omega (arith, c.requires.room)) c.in_ok-take_next.ensures in
    let e = c.in_ok-expression.ensures in
    rw (handed c.from_residual-in_err-expect_next.result c.from_residual-in_err-expect_next.ensures.1) (ap (wrap x.stream.now 38 unlined p.cursor.place) (past _ k (past _ e (stop _ (no_word x c.expression.new.at.cursor 52 refl refl c.in_err-expect_next.ensures)))))

pub indexed_field-returns-in_err-expect_next-2 : goal.indexed_field-returns-in_err-expect_next-2
unfolding read
indexed_field-returns-in_err-expect_next-2 t c =
    let x = c.args.self.now in
    let p = c.args.at.now in
    let k = a_token x p.cursor c.args.nodes.now (p.used + 1) 0 (omega (arith, c.requires.room)) c.in_ok-take_next.ensures in
    let e = c.in_ok-expression.ensures in
    let b = a_word x c.expression.new.at.cursor c.expression.new.nodes c.expression.new.at.used 0 (omega (arith, e.room)) 52 refl refl c.in_ok-expect_next.ensures in
    rw (handed c.from_residual-in_err-expect_next-2.result c.from_residual-in_err-expect_next-2.ensures.1) (ap (wrap x.stream.now 38 unlined p.cursor.place) (past _ k (past _ e (past _ b (stop _ (no_word x c.expect_next.new.self 37 refl refl c.in_err-expect_next-2.ensures))))))

pub indexed_field-expression-requires-2 : goal.indexed_field-expression-requires-2
indexed_field-expression-requires-2 t c =
    let x = c.args.self.now in
    let e = c.in_ok-expression.ensures in
    let b = a_word x c.expression.new.at.cursor c.expression.new.nodes c.expression.new.at.used 0 (omega (arith, e.room)) 52 refl refl c.in_ok-expect_next.ensures in
    let q = a_word x c.expect_next.new.self c.expression.new.nodes c.expression.new.at.used 0 (omega (arith, b.room)) 37 refl refl c.in_ok-expect_next-2.ensures in
    (omega arith, ready_at q (omega arith))

pub indexed_field-returns-in_err-expression-2 : goal.indexed_field-returns-in_err-expression-2
unfolding read
indexed_field-returns-in_err-expression-2 t c =
    let x = c.args.self.now in
    let p = c.args.at.now in
    let k = a_token x p.cursor c.args.nodes.now (p.used + 1) 0 (omega (arith, c.requires.room)) c.in_ok-take_next.ensures in
    let e = c.in_ok-expression.ensures in
    let b = a_word x c.expression.new.at.cursor c.expression.new.nodes c.expression.new.at.used 0 (omega (arith, e.room)) 52 refl refl c.in_ok-expect_next.ensures in
    let q = a_word x c.expect_next.new.self c.expression.new.nodes c.expression.new.at.used 0 (omega (arith, b.room)) 37 refl refl c.in_ok-expect_next-2.ensures in
    rw (handed c.from_residual-in_err-expression-2.result c.from_residual-in_err-expression-2.ensures.1) (ap (wrap x.stream.now 38 unlined p.cursor.place) (past _ k (past _ e (past _ b (past _ q c.in_err-expression-2.ensures)))))

pub indexed_field-returns : goal.indexed_field-returns
unfolding read
indexed_field-returns t c =
    let x = c.args.self.now in
    let p = c.args.at.now in
    let k = a_token x p.cursor c.args.nodes.now (p.used + 1) 0 (omega (arith, c.requires.room)) c.in_ok-take_next.ensures in
    let e = c.in_ok-expression.ensures in
    let b = a_word x c.expression.new.at.cursor c.expression.new.nodes c.expression.new.at.used 0 (omega (arith, e.room)) 52 refl refl c.in_ok-expect_next.ensures in
    let q = a_word x c.expect_next.new.self c.expression.new.nodes c.expression.new.at.used 0 (omega (arith, b.room)) 37 refl refl c.in_ok-expect_next-2.ensures in
    over 38 unlined p.cursor.place 0 (refl, refl, refl) (revalue (omega arith) (both _ k (both _ e (both _ b (both _ q c.in_ok-expression-2.ensures (omega arith)) (omega arith)) (omega arith)) (omega arith))) c.close.ensures refl

-- what decides between the fields
abbrev field_rows : List Row
field_rows = (51, P.keyed) ∷ []

field_is : (x : Script) (c : Cursor) {t : Token} {d : Cursor} {k : ℕ} → (Ok t, d) ≡ get_next x.stream.now c → t.kind ≡ k → at_cursor x field' c ≡ at_cursor x (pick ((58, on second (37 ∷ []) P.fielded P.item) ∷ field_rows) P.item k) d
unfolding field'
field_is x c y q = by_kind x.stream.now (ranks x.ranking) 0 (readers x.stream.now (ranks x.ranking) x.levels) (hold 0 0 none) again c (58, on second (37 ∷ []) P.fielded P.item) field_rows P.item (sym y) q

pub field-returns-in_err-token : goal.field-returns-in_err-token
unfolding field'
field-returns-in_err-token t c =
    let x = c.args.self.now in
    let p = c.args.at.now in
    rw (handed c.from_residual.result c.from_residual.ensures.1) (by_none x.stream.now (ranks x.ranking) 0 (readers x.stream.now (ranks x.ranking) x.levels) (hold 0 0 none) again p.cursor (58, on second (37 ∷ []) P.fielded P.item) field_rows P.item (sym c.in_err-token.ensures))

pub field-named_field-requires : goal.field-named_field-requires
field-named_field-requires t c =
    let x = c.args.self.now in
    let p = c.args.at.now in
    let g = get_place x.stream.now p.cursor (sym c.in_ok-token.ensures) in
    let k = check_place x.stream.now c.get_next.new.self 1 37 c.if-check_ahead.ensures ∙ g in
    (omega arith, ready_seen c.check_ahead.new.self c.requires k)

pub field-item-requires : goal.field-item-requires
field-item-requires t c =
    let x = c.args.self.now in
    let p = c.args.at.now in
    let g = get_place x.stream.now p.cursor (sym c.in_ok-token.ensures) in
    let k = check_place x.stream.now c.get_next.new.self 1 37 c.if-check_ahead.ensures ∙ g in
    (omega arith, ready_seen c.check_ahead.new.self c.requires k)

pub field-indexed_field-requires : goal.field-indexed_field-requires
field-indexed_field-requires t c =
    let x = c.args.self.now in
    let p = c.args.at.now in
    let g = get_place x.stream.now p.cursor (sym c.in_ok-token.ensures) in
    (omega arith, ready_seen c.get_next.new.self c.requires g)

pub field-item-requires-in_default : goal.field-item-requires-in_default
field-item-requires-in_default t c =
    let x = c.args.self.now in
    let p = c.args.at.now in
    let g = get_place x.stream.now p.cursor (sym c.in_ok-token.ensures) in
    (omega arith, ready_seen c.get_next.new.self c.requires g)

pub field-returns-then-check_ahead : goal.field-returns-then-check_ahead
field-returns-then-check_ahead t c =
    let x = c.args.self.now in
    let p = c.args.at.now in
    let g = get_place x.stream.now p.cursor (sym c.in_ok-token.ensures) in
    let k = check_place x.stream.now c.get_next.new.self 1 37 c.if-check_ahead.ensures ∙ g in
    let m = get_note x.stream.now p.cursor (sym c.in_ok-token.ensures) in
    let o = check_note x.stream.now c.get_next.new.self 1 37 c.if-check_ahead.ensures ∙ m in
    moved x.stream.now o p.used 0 c.args.nodes.now c.named_field.new.nodes c.named_field.new.at c.named_field.result (field_is x p.cursor c.in_ok-token.ensures c.in-58.is ∙ second_in x.stream.now (ranks x.ranking) 0 (readers x.stream.now (ranks x.ranking) x.levels) (hold 0 0 none) again c.get_next.new.self 37 P.fielded P.item (λ z. omega arith) c.if-check_ahead.ensures refl) (omega (arith, k)) c.named_field.ensures

pub field-returns-else-check_ahead : goal.field-returns-else-check_ahead
field-returns-else-check_ahead t c =
    let x = c.args.self.now in
    let p = c.args.at.now in
    let g = get_place x.stream.now p.cursor (sym c.in_ok-token.ensures) in
    let k = check_place x.stream.now c.get_next.new.self 1 37 c.if-check_ahead.ensures ∙ g in
    let m = get_note x.stream.now p.cursor (sym c.in_ok-token.ensures) in
    let o = check_note x.stream.now c.get_next.new.self 1 37 c.if-check_ahead.ensures ∙ m in
    moved x.stream.now o p.used 0 c.args.nodes.now c.item.new.nodes c.item.new.at c.item.result (field_is x p.cursor c.in_ok-token.ensures c.in-58.is ∙ second_out x.stream.now (ranks x.ranking) 0 (readers x.stream.now (ranks x.ranking) x.levels) (hold 0 0 none) again c.get_next.new.self 37 P.fielded P.item (λ z. omega arith) c.if-check_ahead.ensures refl) (omega (arith, k)) c.item.ensures

pub field-returns-in-51 : goal.field-returns-in-51
field-returns-in-51 t c =
    let x = c.args.self.now in
    let p = c.args.at.now in
    let g = get_place x.stream.now p.cursor (sym c.in_ok-token.ensures) in
    let m = get_note x.stream.now p.cursor (sym c.in_ok-token.ensures) in
    moved x.stream.now m p.used 0 c.args.nodes.now c.indexed_field.new.nodes c.indexed_field.new.at c.indexed_field.result (field_is x p.cursor c.in_ok-token.ensures c.in-51.is) (omega (arith, g)) c.indexed_field.ensures

pub field-returns-in_default : goal.field-returns-in_default
unfolding field'
field-returns-in_default t c =
    let x = c.args.self.now in
    let p = c.args.at.now in
    let g = get_place x.stream.now p.cursor (sym c.in_ok-token.ensures) in
    let m = get_note x.stream.now p.cursor (sym c.in_ok-token.ensures) in
    moved x.stream.now m p.used 0 c.args.nodes.now c.item-in_default.new.nodes c.item-in_default.new.at c.item-in_default.result (by_others x.stream.now (ranks x.ranking) 0 (readers x.stream.now (ranks x.ranking) x.levels) (hold 0 0 none) again p.cursor (58, on second (37 ∷ []) P.fielded P.item) field_rows P.item (sym c.in_ok-token.ensures) (λ z. omega arith) (λ z. omega arith)) (omega (arith, g)) c.item-in_default.ensures

pub expression-returns-in_err-head : goal.expression-returns-in_err-head
unfolding read expression' head' simple' suffixed suffix primary args table' field' funcbody block' retstat explist parlist
expression-returns-in_err-head t c =
    let x = c.args.self.now in
    let p = c.args.at.now in
    let dn = exps_down x.stream.now x.ranking c.args.limit x.levels p.cursor c.if-self-eq0.false in
    let hd = settled x.stream.now x.ranking c.args.limit (x.levels - 1) (hold 0 0 none) (loop x.stream.now (length x.stream.now) (read x.stream.now (ranks x.ranking) c.args.limit (readers x.stream.now (ranks x.ranking) (x.levels - 1)) (hold 0 0 none) expression')) head' refl p.cursor in
    rw (handed c.from_residual.result c.from_residual.ensures.1) (dn ∙ ap (wrap x.stream.now 17 unlined p.cursor.place) (stop (read x.stream.now (ranks x.ranking) c.args.limit (readers x.stream.now (ranks x.ranking) (x.levels - 1)) (hold 0 0 none) tails' (loop x.stream.now (length x.stream.now) (read x.stream.now (ranks x.ranking) c.args.limit (readers x.stream.now (ranks x.ranking) (x.levels - 1)) (hold 0 0 none) expression'))) (hd ∙ c.in_err-head.ensures)))

pub expression-returns-in_err-tails : goal.expression-returns-in_err-tails
unfolding read expression' tails' head' simple' suffixed suffix primary args table' field' funcbody block' retstat explist parlist
expression-returns-in_err-tails t c =
    let x = c.args.self.now in
    let p = c.args.at.now in
    let dn = exps_down x.stream.now x.ranking c.args.limit x.levels p.cursor c.if-self-eq0.false in
    let hd = settled x.stream.now x.ranking c.args.limit (x.levels - 1) (hold 0 0 none) (loop x.stream.now (length x.stream.now) (read x.stream.now (ranks x.ranking) c.args.limit (readers x.stream.now (ranks x.ranking) (x.levels - 1)) (hold 0 0 none) expression')) head' refl p.cursor in
    rw (handed c.from_residual-in_err-tails.result c.from_residual-in_err-tails.ensures.1) (dn ∙ ap (wrap x.stream.now 17 unlined p.cursor.place) (past (read x.stream.now (ranks x.ranking) c.args.limit (readers x.stream.now (ranks x.ranking) (x.levels - 1)) (hold 0 0 none) tails' (loop x.stream.now (length x.stream.now) (read x.stream.now (ranks x.ranking) c.args.limit (readers x.stream.now (ranks x.ranking) (x.levels - 1)) (hold 0 0 none) expression'))) (alter hd c.in_ok-head.ensures) c.in_err-tails.ensures))

pub expression-returns : goal.expression-returns
unfolding read expression' tails' head' simple' suffixed suffix primary args table' field' funcbody block' retstat explist parlist
expression-returns t c =
    let x = c.args.self.now in
    let p = c.args.at.now in
    let dn = exps_down x.stream.now x.ranking c.args.limit x.levels p.cursor c.if-self-eq0.false in
    let hd = settled x.stream.now x.ranking c.args.limit (x.levels - 1) (hold 0 0 none) (loop x.stream.now (length x.stream.now) (read x.stream.now (ranks x.ranking) c.args.limit (readers x.stream.now (ranks x.ranking) (x.levels - 1)) (hold 0 0 none) expression')) head' refl p.cursor in
    alter dn (over_expression (eqb c.args.limit 0) p.cursor.note c.begin_chain.new.note c.end_chain.new.note p.cursor.place c.begin_chain.ensures c.end_chain.ensures (revalue (omega arith) (both (read x.stream.now (ranks x.ranking) c.args.limit (readers x.stream.now (ranks x.ranking) (x.levels - 1)) (hold 0 0 none) tails' (loop x.stream.now (length x.stream.now) (read x.stream.now (ranks x.ranking) c.args.limit (readers x.stream.now (ranks x.ranking) (x.levels - 1)) (hold 0 0 none) expression'))) (alter hd c.in_ok-head.ensures) c.in_ok-tails.ensures.0 (omega arith))) c.close.ensures)

pub head-returns-in_err-token : goal.head-returns-in_err-token
unfolding head'
head-returns-in_err-token t c =
    let x = c.args.self.now in
    let p = c.args.at.now in
    rw (handed c.from_residual.result c.from_residual.ensures.1) (next_fail x.stream.now (ranks x.ranking) 0 (readers x.stream.now (ranks x.ranking) x.levels) (hold 0 0 none) again p.cursor (13 ∷ []) _ _ (sym c.in_err-token.ensures))

pub head-simple-requires : goal.head-simple-requires
head-simple-requires t c =
    let x = c.args.self.now in
    let p = c.args.at.now in
    let g = get_place x.stream.now p.cursor (sym c.in_ok-token.ensures) in
    (omega arith, ready_seen c.get_next.new.self c.requires g)

pub head-returns-in_default : goal.head-returns-in_default
head-returns-in_default t c =
    let x = c.args.self.now in
    let p = c.args.at.now in
    let g = get_place x.stream.now p.cursor (sym c.in_ok-token.ensures) in
    let m = get_note x.stream.now p.cursor (sym c.in_ok-token.ensures) in
    moved x.stream.now m p.used 0 c.args.nodes.now c.simple.new.nodes c.simple.new.at c.simple.result (head_out x.stream.now (ranks x.ranking) 0 (readers x.stream.now (ranks x.ranking) x.levels) (hold 0 0 none) again p.cursor (sym c.in_ok-token.ensures) (sym c.in_default.ensures)) (omega (arith, g)) c.simple.ensures

pub head-returns-in_err-take_next : goal.head-returns-in_err-take_next
unfolding read
head-returns-in_err-take_next t c =
    let x = c.args.self.now in
    let p = c.args.at.now in
    let hi = head_in x.stream.now (ranks x.ranking) 0 (readers x.stream.now (ranks x.ranking) x.levels) (hold 0 0 none) again p.cursor (sym c.in_ok-token.ensures) c.in-Some.operator (sym c.in-Some.ensures) in
    rw (handed c.from_residual-in_err-take_next.result c.from_residual-in_err-take_next.ensures.1) (hi ∙ ap (wrap x.stream.now 18 unlined c.get_next.new.self.place) (stop _ (no_token x c.get_next.new.self c.in_err-take_next.ensures)))

pub head-expression-requires : goal.head-expression-requires
head-expression-requires t c =
    let x = c.args.self.now in
    let p = c.args.at.now in
    let g = get_place x.stream.now p.cursor (sym c.in_ok-token.ensures) in
    let m = get_note x.stream.now p.cursor (sym c.in_ok-token.ensures) in
    let k = renoted m (a_token x c.get_next.new.self c.args.nodes.now (p.used + 1) 1 (omega (arith, c.requires.room, g)) c.in_ok-take_next.ensures) in
    (omega arith, ready_at k (omega arith))

pub head-returns-in_err-expression : goal.head-returns-in_err-expression
unfolding read
head-returns-in_err-expression t c =
    let x = c.args.self.now in
    let p = c.args.at.now in
    let g = get_place x.stream.now p.cursor (sym c.in_ok-token.ensures) in
    let m = get_note x.stream.now p.cursor (sym c.in_ok-token.ensures) in
    let hi = head_in x.stream.now (ranks x.ranking) 0 (readers x.stream.now (ranks x.ranking) x.levels) (hold 0 0 none) again p.cursor (sym c.in_ok-token.ensures) c.in-Some.operator (sym c.in-Some.ensures) in
    let k = renoted m (a_token x c.get_next.new.self c.args.nodes.now (p.used + 1) 1 (omega (arith, c.requires.room, g)) c.in_ok-take_next.ensures) in
    rw (handed c.from_residual-in_err-expression.result c.from_residual-in_err-expression.ensures.1) (hi ∙ ap (wrap x.stream.now 18 unlined c.get_next.new.self.place) (past _ k (ap (add none c.in-Some.operator) c.in_err-expression.ensures)))

pub head-returns : goal.head-returns
unfolding read
head-returns t c =
    let x = c.args.self.now in
    let p = c.args.at.now in
    let g = get_place x.stream.now p.cursor (sym c.in_ok-token.ensures) in
    let m = get_note x.stream.now p.cursor (sym c.in_ok-token.ensures) in
    let hi = head_in x.stream.now (ranks x.ranking) 0 (readers x.stream.now (ranks x.ranking) x.levels) (hold 0 0 none) again p.cursor (sym c.in_ok-token.ensures) c.in-Some.operator (sym c.in-Some.ensures) in
    let k = renoted m (a_token x c.get_next.new.self c.args.nodes.now (p.used + 1) 1 (omega (arith, c.requires.room, g)) c.in_ok-take_next.ensures) in
    let a = took_next x.stream.now c.get_next.new.self (sym c.in_ok-take_next.ensures) in
    let e = c.in_ok-expression.ensures in
    let f = alter (ap (λ (z : Out). then z (rest x (plus c.in-Some.operator ⨾ exp' 12))) (any_says x.stream.now (ranks x.ranking) 0 (readers x.stream.now (ranks x.ranking) x.levels) (hold 0 0 none) again c.get_next.new.self (sym c.in_ok-take_next.ensures)) ∙ add_none _) (weighed c.in-Some.operator (renoted (a.note ∙ m) e)) in
    lower (p.cursor.place + 1) (alter hi (over_held 18 p.cursor.note unlined c.get_next.new.self.place 0 (λ v l k. refl) (revalue (omega arith) f) c.close.ensures refl)) (omega (arith, g, k.later, e.later))

pub tail-returns-in_err-token : goal.tail-returns-in_err-token
unfolding read
tail-returns-in_err-token t c =
    let x = c.args.self.now in
    let p = c.args.at.now in
    rw (handed c.from_residual.result c.from_residual.ensures.1) (ap (wrap x.stream.now 19 unlined p.cursor.place) (stop _ (no_token x p.cursor c.in_err-token.ensures)))

pub tail-expression-requires : goal.tail-expression-requires
tail-expression-requires t c =
    let x = c.args.self.now in
    let p = c.args.at.now in
    let k = a_token x p.cursor c.args.nodes.now (p.used + 1) 1 (omega (arith, c.requires.0.room)) c.in_ok-token.ensures in
    (omega arith, record { at = k.at; room = omega (arith, k.room) })

pub tail-returns-in_err-expression : goal.tail-returns-in_err-expression
unfolding read
tail-returns-in_err-expression t c =
    let x = c.args.self.now in
    let p = c.args.at.now in
    let a = took_next x.stream.now p.cursor (sym c.in_ok-token.ensures) in
    let k = a_token x p.cursor c.args.nodes.now (p.used + 1) 1 (omega (arith, c.requires.0.room)) c.in_ok-token.ensures in
    let i : p.cursor.place ≡ c.take_next.new.self.place - 1 = omega (arith, a.place) in
    let q = c.requires.1 ∙ ap (λ (z : ℕ). (ranks x.ranking).right (kind_at x.stream.now z)) i in
    let r = ap (λ (z : ℕ). (readers x.stream.now (ranks x.ranking) x.levels).exps z c.take_next.new.self.place c.take_next.new.self.mark) (sym q) in
    rw (handed c.from_residual-in_err-expression.result c.from_residual-in_err-expression.ensures.1) (ap (wrap x.stream.now 19 unlined p.cursor.place) (past _ k (ap (add none (code (kind_at x.stream.now (c.take_next.new.self.place - 1)))) (r ∙ c.in_err-expression.ensures))))

pub tail-returns : goal.tail-returns
unfolding read
tail-returns t c =
    let x = c.args.self.now in
    let p = c.args.at.now in
    let a = took_next x.stream.now p.cursor (sym c.in_ok-token.ensures) in
    let i : p.cursor.place ≡ c.take_next.new.self.place - 1 = omega (arith, a.place) in
    let q = c.requires.1 ∙ ap (λ (z : ℕ). (ranks x.ranking).right (kind_at x.stream.now z)) i in
    let r = ap (λ (z : ℕ). (readers x.stream.now (ranks x.ranking) x.levels).exps z c.take_next.new.self.place c.take_next.new.self.mark) (sym q) in
    let e = c.in_ok-expression.ensures in
    let o = c.requires.2 ∙ ap (λ (z : ℕ). code (kind_at x.stream.now z)) i in
    let h = c.hear-at.ensures ∙ ap (λ (z : Note). hears z c.in_ok-token.token.kind p.cursor.place) a.note ∙ ap (λ (z : Token). hears p.cursor.note z.kind p.cursor.place) a.token in
    let f = weighed (code (kind_at x.stream.now (c.take_next.new.self.place - 1))) (alter r (renoted h (held_of c.args.limit c.requires.3 e))) in
    let b = alter (ap (λ (z : Out). then z (rest x (coded' ⨾ operand'))) (any_says x.stream.now (ranks x.ranking) 0 (readers x.stream.now (ranks x.ranking) x.levels) (hold 0 0 none) again p.cursor (sym c.in_ok-token.ensures)) ∙ add_none _) f in
    over_held 19 p.cursor.note unlined p.cursor.place 0 (λ v l k. refl) (revalue (omega (arith, o)) (lower (p.cursor.place + 1) b (omega (arith, e.later, a.place)))) c.close.ensures refl

-- what decides between the simple expressions
abbrev simple_rows : List Row
simple_rows = (55, any ⨾ leaf 20) ∷ (57, any ⨾ leaf 22) ∷ (12, any ⨾ leaf 23) ∷ (19, any ⨾ leaf 24) ∷ (5, any ⨾ leaf 25) ∷ (36, any ⨾ leaf 26) ∷ (53, table') ∷ (7, any ⨾ funcbody) ∷ []

simple_is : (x : Script) (c : Cursor) {t : Token} {d : Cursor} {k : ℕ} → (Ok t, d) ≡ get_next x.stream.now c → t.kind ≡ k → at_cursor x simple' c ≡ at_cursor x (pick ((56, any ⨾ leaf 21) ∷ simple_rows) suffixed k) d
unfolding simple'
simple_is x c y q = by_kind x.stream.now (ranks x.ranking) 0 (readers x.stream.now (ranks x.ranking) x.levels) (hold 0 0 none) again c (56, any ⨾ leaf 21) simple_rows suffixed (sym y) q

simple_else : (x : Script) (c : Cursor) {t : Token} {d : Cursor} → (Ok t, d) ≡ get_next x.stream.now c → Unlike t.kind (kinds ((56, any ⨾ leaf 21) ∷ simple_rows)) (at_cursor x simple' c ≡ at_cursor x suffixed d)
unfolding simple'
simple_else x c y = by_others x.stream.now (ranks x.ranking) 0 (readers x.stream.now (ranks x.ranking) x.levels) (hold 0 0 none) again c (56, any ⨾ leaf 21) simple_rows suffixed (sym y)

pub simple-returns-in_err-token : goal.simple-returns-in_err-token
unfolding simple'
simple-returns-in_err-token t c =
    let x = c.args.self.now in
    let p = c.args.at.now in
    rw (handed c.from_residual.result c.from_residual.ensures.1) (by_none x.stream.now (ranks x.ranking) 0 (readers x.stream.now (ranks x.ranking) x.levels) (hold 0 0 none) again p.cursor (56, any ⨾ leaf 21) simple_rows suffixed (sym c.in_err-token.ensures))

pub simple-leaf-requires : goal.simple-leaf-requires
simple-leaf-requires t c =
    let x = c.args.self.now in
    let p = c.args.at.now in
    let g = get_place x.stream.now p.cursor (sym c.in_ok-token.ensures) in
    (ready_seen c.get_next.new.self c.requires g, (refl, refl, refl))

pub simple-leaf-requires-in-55 : goal.simple-leaf-requires-in-55
simple-leaf-requires-in-55 t c =
    let x = c.args.self.now in
    let p = c.args.at.now in
    let g = get_place x.stream.now p.cursor (sym c.in_ok-token.ensures) in
    (ready_seen c.get_next.new.self c.requires g, (refl, refl, refl))

pub simple-leaf-requires-in-57 : goal.simple-leaf-requires-in-57
simple-leaf-requires-in-57 t c =
    let x = c.args.self.now in
    let p = c.args.at.now in
    let g = get_place x.stream.now p.cursor (sym c.in_ok-token.ensures) in
    (ready_seen c.get_next.new.self c.requires g, (refl, refl, refl))

pub simple-leaf-requires-in-12 : goal.simple-leaf-requires-in-12
simple-leaf-requires-in-12 t c =
    let x = c.args.self.now in
    let p = c.args.at.now in
    let g = get_place x.stream.now p.cursor (sym c.in_ok-token.ensures) in
    (ready_seen c.get_next.new.self c.requires g, (refl, refl, refl))

pub simple-leaf-requires-in-19 : goal.simple-leaf-requires-in-19
simple-leaf-requires-in-19 t c =
    let x = c.args.self.now in
    let p = c.args.at.now in
    let g = get_place x.stream.now p.cursor (sym c.in_ok-token.ensures) in
    (ready_seen c.get_next.new.self c.requires g, (refl, refl, refl))

pub simple-leaf-requires-in-5 : goal.simple-leaf-requires-in-5
simple-leaf-requires-in-5 t c =
    let x = c.args.self.now in
    let p = c.args.at.now in
    let g = get_place x.stream.now p.cursor (sym c.in_ok-token.ensures) in
    (ready_seen c.get_next.new.self c.requires g, (refl, refl, refl))

pub simple-leaf-requires-in-36 : goal.simple-leaf-requires-in-36
simple-leaf-requires-in-36 t c =
    let x = c.args.self.now in
    let p = c.args.at.now in
    let g = get_place x.stream.now p.cursor (sym c.in_ok-token.ensures) in
    (ready_seen c.get_next.new.self c.requires g, (refl, refl, refl))

pub simple-table-requires : goal.simple-table-requires
simple-table-requires t c =
    let x = c.args.self.now in
    let p = c.args.at.now in
    let g = get_place x.stream.now p.cursor (sym c.in_ok-token.ensures) in
    (omega arith, ready_seen c.get_next.new.self c.requires g)

pub simple-suffixed-requires : goal.simple-suffixed-requires
simple-suffixed-requires t c =
    let x = c.args.self.now in
    let p = c.args.at.now in
    let g = get_place x.stream.now p.cursor (sym c.in_ok-token.ensures) in
    (omega arith, ready_seen c.get_next.new.self c.requires g)

pub simple-returns-in_err-take_next-in-7 : goal.simple-returns-in_err-take_next-in-7
unfolding read
simple-returns-in_err-take_next-in-7 t c =
    let x = c.args.self.now in
    let p = c.args.at.now in
    rw (handed c.from_residual-in_err-take_next-in-7.result c.from_residual-in_err-take_next-in-7.ensures.1) (simple_is x p.cursor c.in_ok-token.ensures c.in-7.is ∙ stop _ (no_token x c.get_next.new.self c.in_err-take_next-in-7.ensures))

pub simple-definition-requires : goal.simple-definition-requires
simple-definition-requires t c =
    let x = c.args.self.now in
    let p = c.args.at.now in
    let g = get_place x.stream.now p.cursor (sym c.in_ok-token.ensures) in
    let m = get_note x.stream.now p.cursor (sym c.in_ok-token.ensures) in
    let k = renoted m (a_token x c.get_next.new.self c.args.nodes.now p.used 0 (omega (arith, c.requires.room, g)) c.in_ok-take_next-in-7.ensures) in
    (omega arith, ready_at k (omega arith))

pub simple-returns-in_err-suffixed-in_default : goal.simple-returns-in_err-suffixed-in_default
simple-returns-in_err-suffixed-in_default t c =
    let x = c.args.self.now in
    let p = c.args.at.now in
    rw (handed c.from_residual-in_err-suffixed-in_default.result c.from_residual-in_err-suffixed-in_default.ensures.1) (simple_else x p.cursor c.in_ok-token.ensures (λ z. omega arith) (λ z. omega arith) (λ z. omega arith) (λ z. omega arith) (λ z. omega arith) (λ z. omega arith) (λ z. omega arith) (λ z. omega arith) (λ z. omega arith) ∙ c.in_err-suffixed-in_default.ensures)

pub simple-returns-in-56 : goal.simple-returns-in-56
simple-returns-in-56 t c =
    let x = c.args.self.now in
    let p = c.args.at.now in
    let g = get_place x.stream.now p.cursor (sym c.in_ok-token.ensures) in
    let m = get_note x.stream.now p.cursor (sym c.in_ok-token.ensures) in
    moved x.stream.now m p.used 0 c.args.nodes.now c.leaf.new.nodes c.leaf.new.at c.leaf.result (simple_is x p.cursor c.in_ok-token.ensures c.in-56.is) (omega (arith, g)) c.leaf.ensures

pub simple-returns-in-55 : goal.simple-returns-in-55
simple-returns-in-55 t c =
    let x = c.args.self.now in
    let p = c.args.at.now in
    let g = get_place x.stream.now p.cursor (sym c.in_ok-token.ensures) in
    let m = get_note x.stream.now p.cursor (sym c.in_ok-token.ensures) in
    moved x.stream.now m p.used 0 c.args.nodes.now c.leaf-in-55.new.nodes c.leaf-in-55.new.at c.leaf-in-55.result (simple_is x p.cursor c.in_ok-token.ensures c.in-55.is) (omega (arith, g)) c.leaf-in-55.ensures

pub simple-returns-in-57 : goal.simple-returns-in-57
simple-returns-in-57 t c =
    let x = c.args.self.now in
    let p = c.args.at.now in
    let g = get_place x.stream.now p.cursor (sym c.in_ok-token.ensures) in
    let m = get_note x.stream.now p.cursor (sym c.in_ok-token.ensures) in
    moved x.stream.now m p.used 0 c.args.nodes.now c.leaf-in-57.new.nodes c.leaf-in-57.new.at c.leaf-in-57.result (simple_is x p.cursor c.in_ok-token.ensures c.in-57.is) (omega (arith, g)) c.leaf-in-57.ensures

pub simple-returns-in-12 : goal.simple-returns-in-12
simple-returns-in-12 t c =
    let x = c.args.self.now in
    let p = c.args.at.now in
    let g = get_place x.stream.now p.cursor (sym c.in_ok-token.ensures) in
    let m = get_note x.stream.now p.cursor (sym c.in_ok-token.ensures) in
    moved x.stream.now m p.used 0 c.args.nodes.now c.leaf-in-12.new.nodes c.leaf-in-12.new.at c.leaf-in-12.result (simple_is x p.cursor c.in_ok-token.ensures c.in-12.is) (omega (arith, g)) c.leaf-in-12.ensures

pub simple-returns-in-19 : goal.simple-returns-in-19
simple-returns-in-19 t c =
    let x = c.args.self.now in
    let p = c.args.at.now in
    let g = get_place x.stream.now p.cursor (sym c.in_ok-token.ensures) in
    let m = get_note x.stream.now p.cursor (sym c.in_ok-token.ensures) in
    moved x.stream.now m p.used 0 c.args.nodes.now c.leaf-in-19.new.nodes c.leaf-in-19.new.at c.leaf-in-19.result (simple_is x p.cursor c.in_ok-token.ensures c.in-19.is) (omega (arith, g)) c.leaf-in-19.ensures

pub simple-returns-in-5 : goal.simple-returns-in-5
simple-returns-in-5 t c =
    let x = c.args.self.now in
    let p = c.args.at.now in
    let g = get_place x.stream.now p.cursor (sym c.in_ok-token.ensures) in
    let m = get_note x.stream.now p.cursor (sym c.in_ok-token.ensures) in
    moved x.stream.now m p.used 0 c.args.nodes.now c.leaf-in-5.new.nodes c.leaf-in-5.new.at c.leaf-in-5.result (simple_is x p.cursor c.in_ok-token.ensures c.in-5.is) (omega (arith, g)) c.leaf-in-5.ensures

pub simple-returns-in-36 : goal.simple-returns-in-36
simple-returns-in-36 t c =
    let x = c.args.self.now in
    let p = c.args.at.now in
    let g = get_place x.stream.now p.cursor (sym c.in_ok-token.ensures) in
    let m = get_note x.stream.now p.cursor (sym c.in_ok-token.ensures) in
    moved x.stream.now m p.used 0 c.args.nodes.now c.leaf-in-36.new.nodes c.leaf-in-36.new.at c.leaf-in-36.result (simple_is x p.cursor c.in_ok-token.ensures c.in-36.is) (omega (arith, g)) c.leaf-in-36.ensures

pub simple-returns-in-53 : goal.simple-returns-in-53
simple-returns-in-53 t c =
    let x = c.args.self.now in
    let p = c.args.at.now in
    let g = get_place x.stream.now p.cursor (sym c.in_ok-token.ensures) in
    let m = get_note x.stream.now p.cursor (sym c.in_ok-token.ensures) in
    moved x.stream.now m p.used 0 c.args.nodes.now c.table.new.nodes c.table.new.at c.table.result (simple_is x p.cursor c.in_ok-token.ensures c.in-53.is) (omega (arith, g)) c.table.ensures

pub simple-returns-in_ok-take_next-in-7 : goal.simple-returns-in_ok-take_next-in-7
unfolding read
simple-returns-in_ok-take_next-in-7 t c =
    let x = c.args.self.now in
    let p = c.args.at.now in
    let g = get_place x.stream.now p.cursor (sym c.in_ok-token.ensures) in
    let m = get_note x.stream.now p.cursor (sym c.in_ok-token.ensures) in
    let k = renoted m (a_token x c.get_next.new.self c.args.nodes.now p.used 0 (omega (arith, c.requires.room, g)) c.in_ok-take_next-in-7.ensures) in
    moved x.stream.now (still p.cursor.note) p.used 0 c.args.nodes.now c.definition.new.nodes c.definition.new.at c.definition.result (simple_is x p.cursor c.in_ok-token.ensures c.in-7.is) (omega (arith, g)) (onward 0 c.definition.new.nodes _ k c.definition.new.at c.definition.result c.definition.ensures (omega arith))

pub simple-returns-in_ok-suffixed-in_default : goal.simple-returns-in_ok-suffixed-in_default
simple-returns-in_ok-suffixed-in_default t c =
    let x = c.args.self.now in
    let p = c.args.at.now in
    let g = get_place x.stream.now p.cursor (sym c.in_ok-token.ensures) in
    let m = get_note x.stream.now p.cursor (sym c.in_ok-token.ensures) in
    let y = c.in_ok-suffixed-in_default.ensures.0 in
    lower (p.cursor.place + 1) (alter (simple_else x p.cursor c.in_ok-token.ensures (λ z. omega arith) (λ z. omega arith) (λ z. omega arith) (λ z. omega arith) (λ z. omega arith) (λ z. omega arith) (λ z. omega arith) (λ z. omega arith) (λ z. omega arith)) (renoted m y)) (omega (arith, y.later, g))

-- the expressions after the first
abbrev more_expressions : Term
more_expressions = any ⨾ plus 1 ⨾ expr

pub expressions-returns-in_err-expression : goal.expressions-returns-in_err-expression
unfolding read explist
expressions-returns-in_err-expression t c =
    let x = c.args.self.now in
    rw (handed c.from_residual.result c.from_residual.ensures.1) (ap (add none 1) (stop (rest x (many check (48 ∷ []) more_expressions)) c.in_err-expression.ensures))

pub expressions-returns-in_err-take_next : goal.expressions-returns-in_err-take_next
unfolding read explist
expressions-returns-in_err-take_next t c =
    let x = c.args.self.now in
    let e = c.in_ok-expression.ensures in
    rw (handed c.from_residual-in_err-take_next.result c.from_residual-in_err-take_next.ensures.1) (ap (add none 1) (past (rest x (many check (48 ∷ []) more_expressions)) e (many_fails x 0 48 (λ z. omega arith) more_expressions refl 0 (c.loop-at.count - 1) c.expression.new.at c.loop-at.at c.expression.new.nodes c.loop-at.nodes c.loop-at.invariant.0 c.loop-at-test.ensures (stop _ (no_token x c.check_ahead.new.self c.in_err-take_next.ensures)))))

pub expressions-expression-requires-in-loop-at : goal.expressions-expression-requires-in-loop-at
expressions-expression-requires-in-loop-at t c =
    let x = c.args.self.now in
    let i = many_place x 0 48 (λ z. omega arith) more_expressions refl 0 (c.loop-at.count - 1) c.expression.new.at c.loop-at.at c.expression.new.nodes c.loop-at.nodes c.loop-at.invariant.0 c.loop-at-test.ensures in
    let k = a_token x c.check_ahead.new.self c.loop-at.nodes c.loop-at.at.used 1 (omega (arith, c.loop-at.invariant.0.0.0.room, i)) c.in_ok-take_next.ensures in
    (omega arith, ready_at k (omega arith))

pub expressions-returns-in_err-expression-2 : goal.expressions-returns-in_err-expression-2
unfolding read explist
expressions-returns-in_err-expression-2 t c =
    let x = c.args.self.now in
    let e = c.in_ok-expression.ensures in
    let i = many_place x 0 48 (λ z. omega arith) more_expressions refl 0 (c.loop-at.count - 1) c.expression.new.at c.loop-at.at c.expression.new.nodes c.loop-at.nodes c.loop-at.invariant.0 c.loop-at-test.ensures in
    let k = a_token x c.check_ahead.new.self c.loop-at.nodes c.loop-at.at.used 1 (omega (arith, c.loop-at.invariant.0.0.0.room, i)) c.in_ok-take_next.ensures in
    rw (handed c.from_residual-in_err-expression-2.result c.from_residual-in_err-expression-2.ensures.1) (ap (add none 1) (past (rest x (many check (48 ∷ []) more_expressions)) e (many_fails x 0 48 (λ z. omega arith) more_expressions refl 0 (c.loop-at.count - 1) c.expression.new.at c.loop-at.at c.expression.new.nodes c.loop-at.nodes c.loop-at.invariant.0 c.loop-at-test.ensures (past _ k (ap (add none 1) c.in_err-expression-2.ensures)))))

pub expressions-loop-at-smaller : goal.expressions-loop-at-smaller
expressions-loop-at-smaller t c =
    let x = c.args.self.now in
    let i = many_place x 0 48 (λ z. omega arith) more_expressions refl 0 (c.loop-at.count - 1) c.expression.new.at c.loop-at.at c.expression.new.nodes c.loop-at.nodes c.loop-at.invariant.0 c.loop-at-test.ensures in
    let k = a_token x c.check_ahead.new.self c.loop-at.nodes c.loop-at.at.used 1 (omega (arith, c.loop-at.invariant.0.0.0.room, i)) c.in_ok-take_next.ensures in
    let f = c.in_ok-expression-2.ensures in
    omega (arith, i, k.later, f.later, f.at)

pub expressions-loop-at-preserved : goal.expressions-loop-at-preserved
unfolding read
expressions-loop-at-preserved t c =
    let x = c.args.self.now in
    let i = many_place x 0 48 (λ z. omega arith) more_expressions refl 0 (c.loop-at.count - 1) c.expression.new.at c.loop-at.at c.expression.new.nodes c.loop-at.nodes c.loop-at.invariant.0 c.loop-at-test.ensures in
    let k = a_token x c.check_ahead.new.self c.loop-at.nodes c.loop-at.at.used 1 (omega (arith, c.loop-at.invariant.0.0.0.room, i)) c.in_ok-take_next.ensures in
    let f = c.in_ok-expression-2.ensures in
    let z = many_turns x 0 48 (λ z. omega arith) more_expressions refl 0 (c.loop-at.count - 1) c.expression.new.at c.loop-at.at c.expression.new.nodes c.loop-at.nodes c.loop-at.invariant.0 c.loop-at-test.ensures (both _ k (weighed 1 f) (omega arith)) (omega arith) f.room in
    (((ready_at f (omega arith), omega (arith, i, k.later, f.later, c.loop-at.invariant.0.0.1, c.loop-at.invariant.1)), revalue_going (omega (arith, c.loop-at.invariant.1)) z), omega arith)

pub expressions-returns : goal.expressions-returns
unfolding read explist
expressions-returns t c =
    let x = c.args.self.now in
    let e = c.in_ok-expression.ensures in
    let i = check_place x.stream.now c.loop-at.at.cursor 0 48 c.loop-at-test.ensures in
    let z = many_ends x 0 48 (λ z. omega arith) more_expressions refl 0 (c.loop-at.count - 1) c.expression.new.at c.loop-at.at c.expression.new.nodes c.loop-at.nodes c.loop-at.invariant.0 c.loop-at-test.ensures in
    (revalue (omega (arith, c.loop-at.invariant.1)) (weighed 1 (both (rest x (many check (48 ∷ []) more_expressions)) e z (omega arith))), omega (arith, i, e.later, c.loop-at.invariant.0.0.1, c.loop-at.invariant.1))

pub tails-returns-in_default-get_binary_operator : goal.tails-returns-in_default-get_binary_operator
unfolding read tail' tails'
tails-returns-in_default-get_binary_operator t c =
    let x = c.args.self.now in
    let i = look_place x.stream.now c.loop-token.at.cursor (sym c.in-Some.ensures) in
    let j = look_note x.stream.now c.loop-token.at.cursor (sym c.in-Some.ensures) in
    let w : (ranks x.ranking).left c.in-Some.token.kind ≤ c.args.limit = omega (arith, binary_none x.ranking c.in-Some.token.kind (sym c.in_default-get_binary_operator.ensures)) in
    let e = looping x.stream.now x.ranking c.args.limit x.levels 0 tail' refl c.loop-token.at.cursor c.loop-token.invariant.0.0.at ∙ operator_out x.stream.now (ranks x.ranking) c.args.limit (readers x.stream.now (ranks x.ranking) x.levels) (hold 0 0 none) (under x.stream.now x.ranking c.args.limit x.levels 0 (iter tail')) c.loop-token.at.cursor (plus 1 ⨾ P.operation ⨾ again') empty (sym c.in-Some.ensures) w in
    (revalue (omega arith) (ends c.loop-token.invariant.1 (looked c.loop-token.nodes c.loop-token.at.used 0 c.loop-token.at.cursor c.look_ahead.new.self e i j c.loop-token.invariant.0.0.at c.loop-token.invariant.0.0.room) (omega arith)), omega (arith, i, c.loop-token.invariant.0.1))

pub tails-returns-then-priority-limit : goal.tails-returns-then-priority-limit
unfolding read tail' tails'
tails-returns-then-priority-limit t c =
    let x = c.args.self.now in
    let i = look_place x.stream.now c.loop-token.at.cursor (sym c.in-Some.ensures) in
    let j = look_note x.stream.now c.loop-token.at.cursor (sym c.in-Some.ensures) in
    let z : c.binary_priority-priority.result.left ≤ c.args.limit = c.if-priority-limit.true in
    let q = (ap (λ (z : Priority). z.left) c.binary_priority-priority.ensures) in
    let w : (ranks x.ranking).left c.in-Some.token.kind ≤ c.args.limit = omega (arith, z, q) in
    let e = looping x.stream.now x.ranking c.args.limit x.levels 0 tail' refl c.loop-token.at.cursor c.loop-token.invariant.0.0.at ∙ operator_out x.stream.now (ranks x.ranking) c.args.limit (readers x.stream.now (ranks x.ranking) x.levels) (hold 0 0 none) (under x.stream.now x.ranking c.args.limit x.levels 0 (iter tail')) c.loop-token.at.cursor (plus 1 ⨾ P.operation ⨾ again') empty (sym c.in-Some.ensures) w in
    (revalue (omega arith) (ends c.loop-token.invariant.1 (looked c.loop-token.nodes c.loop-token.at.used 0 c.loop-token.at.cursor c.look_ahead.new.self e i j c.loop-token.invariant.0.0.at c.loop-token.invariant.0.0.room) (omega arith)), omega (arith, i, c.loop-token.invariant.0.1))

pub tails-tail-requires : goal.tails-tail-requires
tails-tail-requires t c =
    let x = c.args.self.now in
    let i = look_place x.stream.now c.loop-token.at.cursor (sym c.in-Some.ensures) in
    let j = look_note x.stream.now c.loop-token.at.cursor (sym c.in-Some.ensures) in
    let q = saw_kind x.stream.now c.loop-token.at.cursor (sym c.in-Some.ensures) in
    (omega arith, (ready_seen c.look_ahead.new.self c.loop-token.invariant.0.0 i, ap (λ (z : Priority). z.right) c.binary_priority-priority.ensures ∙ ap (ranks x.ranking).right q, sym (binary_found c.in-Some.token.kind c.in-Some-get_binary_operator.operator (sym c.in-Some-get_binary_operator.ensures)) ∙ ap code q, ap (λ (z : Priority). eqb z.right 0) c.binary_priority-priority.ensures ∙ binary_right x.ranking c.in-Some.token.kind c.in-Some-get_binary_operator.operator (sym c.in-Some-get_binary_operator.ensures)))

pub tails-returns-in_err-tail : goal.tails-returns-in_err-tail
unfolding read tail' tails'
tails-returns-in_err-tail t c =
    let x = c.args.self.now in
    let i = look_place x.stream.now c.loop-token.at.cursor (sym c.in-Some.ensures) in
    let j = look_note x.stream.now c.loop-token.at.cursor (sym c.in-Some.ensures) in
    let z : c.args.limit < c.binary_priority-priority.result.left = c.if-priority-limit.false in
    let q = (ap (λ (z : Priority). z.left) c.binary_priority-priority.ensures) in
    let w : c.args.limit < (ranks x.ranking).left c.in-Some.token.kind = omega (arith, z, q) in
    let e = looping x.stream.now x.ranking c.args.limit x.levels 0 tail' refl c.loop-token.at.cursor c.loop-token.invariant.0.0.at ∙ operator_in x.stream.now (ranks x.ranking) c.args.limit (readers x.stream.now (ranks x.ranking) x.levels) (hold 0 0 none) (under x.stream.now x.ranking c.args.limit x.levels 0 (iter tail')) c.loop-token.at.cursor (plus 1 ⨾ P.operation ⨾ again') empty (sym c.in-Some.ensures) w in
    let st = settled x.stream.now x.ranking c.args.limit x.levels (hold 0 0 none) (under x.stream.now x.ranking c.args.limit x.levels 0 (iter tail')) P.operation refl c.look_ahead.new.self in
    let k = renoted j (weighs {s = x.stream.now} c.loop-token.nodes c.loop-token.at.used 0 1 c.look_ahead.new.self (omega (arith, c.loop-token.invariant.0.0.at, i)) (omega (arith, c.loop-token.invariant.0.0.room, i))) in
    rw (handed c.from_residual.result c.from_residual.ensures.1) (fails c.loop-token.invariant.1 (e ∙ past (read x.stream.now (ranks x.ranking) c.args.limit (readers x.stream.now (ranks x.ranking) x.levels) (hold 0 0 none) (P.operation ⨾ again') (under x.stream.now x.ranking c.args.limit x.levels 0 (iter tail'))) k (stop (under x.stream.now x.ranking c.args.limit x.levels 0 (iter tail')) (st ∙ c.in_err-tail.ensures))))

pub tails-loop-token-smaller : goal.tails-loop-token-smaller
tails-loop-token-smaller t c =
    let x = c.args.self.now in
    let i = look_place x.stream.now c.loop-token.at.cursor (sym c.in-Some.ensures) in
    let j = look_note x.stream.now c.loop-token.at.cursor (sym c.in-Some.ensures) in
    let f = c.in_ok-tail.ensures in
    omega (arith, i, f.later, f.at)

pub tails-loop-token-preserved : goal.tails-loop-token-preserved
unfolding read tail' tails'
tails-loop-token-preserved t c =
    let x = c.args.self.now in
    let i = look_place x.stream.now c.loop-token.at.cursor (sym c.in-Some.ensures) in
    let j = look_note x.stream.now c.loop-token.at.cursor (sym c.in-Some.ensures) in
    let z : c.args.limit < c.binary_priority-priority.result.left = c.if-priority-limit.false in
    let q = (ap (λ (z : Priority). z.left) c.binary_priority-priority.ensures) in
    let w : c.args.limit < (ranks x.ranking).left c.in-Some.token.kind = omega (arith, z, q) in
    let e = looping x.stream.now x.ranking c.args.limit x.levels 0 tail' refl c.loop-token.at.cursor c.loop-token.invariant.0.0.at ∙ operator_in x.stream.now (ranks x.ranking) c.args.limit (readers x.stream.now (ranks x.ranking) x.levels) (hold 0 0 none) (under x.stream.now x.ranking c.args.limit x.levels 0 (iter tail')) c.loop-token.at.cursor (plus 1 ⨾ P.operation ⨾ again') empty (sym c.in-Some.ensures) w in
    let st = settled x.stream.now x.ranking c.args.limit x.levels (hold 0 0 none) (under x.stream.now x.ranking c.args.limit x.levels 0 (iter tail')) P.operation refl c.look_ahead.new.self in
    let k = renoted j (weighs {s = x.stream.now} c.loop-token.nodes c.loop-token.at.used 0 1 c.look_ahead.new.self (omega (arith, c.loop-token.invariant.0.0.at, i)) (omega (arith, c.loop-token.invariant.0.0.room, i))) in
    let f = alter st c.in_ok-tail.ensures in
    let g = goes c.loop-token.invariant.1 (read x.stream.now (ranks x.ranking) c.args.limit (readers x.stream.now (ranks x.ranking) x.levels) (hold 0 0 none) (P.operation ⨾ again') (under x.stream.now x.ranking c.args.limit x.levels 0 (iter tail'))) e k (omega (arith, i)) in
    ((ready_at f (omega arith), omega (arith, i, f.later, c.loop-token.invariant.0.1)), revalue_going (omega arith) (goes g (under x.stream.now x.ranking c.args.limit x.levels 0 (iter tail')) refl f (omega arith)))

pub tails-returns : goal.tails-returns
unfolding read tail' tails'
tails-returns t c =
    let x = c.args.self.now in
    let y = sym c.in_default.ensures in
    let i = end_place x.stream.now c.loop-token.at.cursor y in
    let j = end_note x.stream.now c.loop-token.at.cursor y in
    let e = looping x.stream.now x.ranking c.args.limit x.levels 0 tail' refl c.loop-token.at.cursor c.loop-token.invariant.0.0.at ∙ operator_end x.stream.now (ranks x.ranking) c.args.limit (readers x.stream.now (ranks x.ranking) x.levels) (hold 0 0 none) (under x.stream.now x.ranking c.args.limit x.levels 0 (iter tail')) c.loop-token.at.cursor (plus 1 ⨾ P.operation ⨾ again') empty y (end_left x.ranking) in
    (revalue (omega arith) (ends c.loop-token.invariant.1 (looked c.loop-token.nodes c.loop-token.at.used 0 c.loop-token.at.cursor c.look_ahead.new.self e i j c.loop-token.invariant.0.0.at c.loop-token.invariant.0.0.room) (omega arith)), omega (arith, i, c.loop-token.invariant.0.1))

-- the arguments, and a primary, by the kind of the token that was got
abbrev ArgumentRows : List Row
ArgumentRows = (53, plus 1 ⨾ node 17 here unlined table') ∷ (57, plus 1 ⨾ node 17 here unlined (any ⨾ leaf 22)) ∷ []

arguments_of : (x : Script) (c : Cursor) {t : Token} {d : Cursor} {k : ℕ} → (Ok t, d) ≡ get_next x.stream.now c → t.kind ≡ k → at_cursor x (args 1) c ≡ at_cursor x (pick ((49, P.list) ∷ ArgumentRows) (refuse 62) k) d
unfolding args
arguments_of x c y q = by_kind x.stream.now (ranks x.ranking) 0 (readers x.stream.now (ranks x.ranking) x.levels) (hold 0 0 none) again c (49, P.list) ArgumentRows (refuse 62) (sym y) q

abbrev Grouped : Term
Grouped = node 31 here unlined (any ⨾ expr ⨾ word 50)

primary_of : (x : Script) (c : Cursor) {t : Token} {d : Cursor} {k : ℕ} → (Ok t, d) ≡ take_next x.stream.now c → t.kind ≡ k → at_cursor x primary c ≡ at_cursor x (pick ((49, Grouped) ∷ (58, any ⨾ leaf 30) ∷ []) (refuse 61) k) (read_ahead x.stream.now c 1)
unfolding primary
primary_of x c y q = by_kind x.stream.now (ranks x.ranking) 0 (readers x.stream.now (ranks x.ranking) x.levels) (hold 0 0 none) again c (49, Grouped) ((58, any ⨾ leaf 30) ∷ []) (refuse 61) (take_gets x.stream.now c (sym y)) q

-- with more room, a number of things likewise
roomier_sum : (s : List ℕ) (q : Note) (start low used more more' : ℕ) (n n' : List ℕ) (o : Out) (p : Place) (r : Result ℕ Refusal) → more ≤ more' → Sums s q start low used more n n' o p r → Sums s q start low used more' n n' o p r
roomier_sum s q start low used more more' n n' o p (Ok v) l f = (roomier more' f.0 l, f.1)
roomier_sum s q start low used more more' n n' o p (Err e) l f = f

-- a call, by the kind of its first token
call_of : (x : Script) (c : Cursor) (k : ℕ) → k ≡ kind x.stream.now c.place → (k ≡ 49) ⊎ ((k ≡ 53) ⊎ (k ≡ 57)) → (member k first_suffix ≡ true) × (at_cursor x suffix c ≡ at_cursor x P.call c)
call_of x c k e (inl q) = (among first_suffix q, call_is x.stream.now x.ranking x.levels c 49 (sym e ∙ q) (λ z. omega arith) refl)
call_of x c k e (inr (inl q)) = (among first_suffix q, call_is x.stream.now x.ranking x.levels c 53 (sym e ∙ q) (λ z. omega arith) refl)
call_of x c k e (inr (inr q)) = (among first_suffix q, call_is x.stream.now x.ranking x.levels c 57 (sym e ∙ q) (λ z. omega arith) refl)

-- the suffixes: a turn, by the token that the look saw; their end, at another token and at the end of the stream
abbrev SuffixLoop : Term
SuffixLoop = many ahead first_suffix (plus 1 ⨾ suffix)

abbrev suffixes_from : Script → Reader
suffixes_from x = under x.stream.now x.ranking 0 x.levels 0 SuffixLoop

module _ (x : Script) (p : Place) (r : Ready x.stream.now p 0) {d : Cursor} where
  suffix_in : {t : Token} → (Some t, d) ≡ look_ahead x.stream.now p.cursor 0 → member t.kind first_suffix ≡ true → suffixes_from x p.cursor.place p.cursor.mark ≡ then (add none 1 (at_cursor x suffix d)) (suffixes_from x)
  unfolding read suffix args explist table' field'
  suffix_in y m =
      looping x.stream.now x.ranking 0 x.levels 0 (on ahead first_suffix ((plus 1 ⨾ suffix) ⨾ again') empty) refl p.cursor r.at
      ∙ look_in x.stream.now (ranks x.ranking) 0 (readers x.stream.now (ranks x.ranking) x.levels) (hold 0 0 none) (suffixes_from x) p.cursor first_suffix ((plus 1 ⨾ suffix) ⨾ again') empty (sym y) m
      ∙ ap (λ (o : Out). then (add none 1 o) (suffixes_from x)) (settled x.stream.now x.ranking 0 x.levels (hold 0 0 none) (suffixes_from x) suffix refl d)

  suffix_out : {t : Token} → (Some t, d) ≡ look_ahead x.stream.now p.cursor 0 → member t.kind first_suffix ≡ false → suffixes_from x p.cursor.place p.cursor.mark ≡ fine d.place d.mark none 0
  unfolding read suffix args explist table' field'
  suffix_out y m =
      looping x.stream.now x.ranking 0 x.levels 0 (on ahead first_suffix ((plus 1 ⨾ suffix) ⨾ again') empty) refl p.cursor r.at
      ∙ look_out x.stream.now (ranks x.ranking) 0 (readers x.stream.now (ranks x.ranking) x.levels) (hold 0 0 none) (suffixes_from x) p.cursor first_suffix ((plus 1 ⨾ suffix) ⨾ again') empty (sym y) m

  suffix_end : (None, d) ≡ look_ahead x.stream.now p.cursor 0 → suffixes_from x p.cursor.place p.cursor.mark ≡ fine d.place d.mark none 0
  unfolding read suffix args explist table' field'
  suffix_end y =
      looping x.stream.now x.ranking 0 x.levels 0 (on ahead first_suffix ((plus 1 ⨾ suffix) ⨾ again') empty) refl p.cursor r.at
      ∙ end_out x.stream.now (ranks x.ranking) 0 (readers x.stream.now (ranks x.ranking) x.levels) (hold 0 0 none) (suffixes_from x) p.cursor first_suffix ((plus 1 ⨾ suffix) ⨾ again') empty (sym y) refl

-- where the loop over the suffixes ends, by either way out of it
abbrev SuffixesEnded : Script → Place → List ℕ → Place → List ℕ → Type 0
SuffixesEnded x p n p' n' = (suffixes_from x p.cursor.place p.cursor.mark ≡ fine p'.cursor.place p'.cursor.mark none 0) × (p'.cursor.place ≡ p.cursor.place) × (p'.cursor.note ≡ p.cursor.note) × (p'.used ≡ p.used) × (n' ≡ n)

suffixes_ended : (x : Script) (p p' : Place) (n n' : List ℕ) (d : Cursor) → p' ≡ record { cursor = d; used = p.used } → suffixes_from x p.cursor.place p.cursor.mark ≡ fine d.place d.mark none 0 → d.place ≡ p.cursor.place → d.note ≡ p.cursor.note → n' ≡ n
    → SuffixesEnded x p n p' n'
suffixes_ended x p p' n n' d e q a b f =
    (q ∙ ap (λ (z : Place). fine z.cursor.place z.cursor.mark none 0) (sym e), ap (λ (z : Place). z.cursor.place) e ∙ a, ap (λ (z : Place). z.cursor.note) e ∙ b, ap (λ (z : Place). z.used) e, f)

-- an array and a number of records by other names
named_so : {s : List ℕ} {q : Note} {low used more : ℕ} {n n₁ n₂ : List ℕ} {o : Out} {c : Cursor} {u w v : ℕ} → w ≡ u → n₂ ≡ n₁ → Fine s q low used more n n₁ o c u v → Fine s q low used more n n₂ o c w v
named_so e a f = record { trees = f.trees; says = f.says; grown = e ∙ f.grown; laid = a ∙ f.laid; at = f.at; later = f.later; room = omega (arith, e, f.room); noted = f.noted }

pub arguments-returns-in_err-token : goal.arguments-returns-in_err-token
unfolding read args
arguments-returns-in_err-token t c =
    let x = c.args.self.now in
    rw (handed c.from_residual.result c.from_residual.ensures.1) (by_none x.stream.now (ranks x.ranking) 0 (readers x.stream.now (ranks x.ranking) x.levels) (hold 0 0 none) again c.args.at.now.cursor (49, P.list) ArgumentRows (refuse 62) (sym c.in_err-token.ensures))

pub arguments-bracketed-requires : goal.arguments-bracketed-requires
arguments-bracketed-requires t c = (omega arith, ready_seen c.get_next.new.self c.requires (get_place c.args.self.now.stream.now c.args.at.now.cursor (sym c.in_ok-token.ensures)))

pub arguments-table-requires : goal.arguments-table-requires
arguments-table-requires t c = (omega arith, ready_open (ready_seen c.get_next.new.self c.requires (get_place c.args.self.now.stream.now c.args.at.now.cursor (sym c.in_ok-token.ensures))))

pub arguments-returns-in_err-table-in-53 : goal.arguments-returns-in_err-table-in-53
unfolding read
arguments-returns-in_err-table-in-53 t c =
    rw (handed c.from_residual-in_err-table-in-53.result c.from_residual-in_err-table-in-53.ensures.1)
    (arguments_of c.args.self.now c.args.at.now.cursor c.in_ok-token.ensures c.in-53.is ∙ ap (add none 1) (ap (wrap c.args.self.now.stream.now 17 unlined c.get_next.new.self.place) c.in_err-table-in-53.ensures))

pub arguments-leaf-requires : goal.arguments-leaf-requires
arguments-leaf-requires t c = (ready_open (ready_seen c.get_next.new.self c.requires (get_place c.args.self.now.stream.now c.args.at.now.cursor (sym c.in_ok-token.ensures))), (refl, refl, refl))

pub arguments-returns-in_err-leaf-in-57 : goal.arguments-returns-in_err-leaf-in-57
unfolding read
arguments-returns-in_err-leaf-in-57 t c =
    rw (handed c.from_residual-in_err-leaf-in-57.result c.from_residual-in_err-leaf-in-57.ensures.1)
    (arguments_of c.args.self.now c.args.at.now.cursor c.in_ok-token.ensures c.in-57.is ∙ ap (add none 1) (ap (wrap c.args.self.now.stream.now 17 unlined c.get_next.new.self.place) c.in_err-leaf-in-57.ensures))

pub arguments-returns-in-49 : goal.arguments-returns-in-49
arguments-returns-in-49 t c =
    let s = c.args.self.now.stream.now in
    let p = get_place s c.args.at.now.cursor (sym c.in_ok-token.ensures) in
    moved_sum s (get_note s c.args.at.now.cursor (sym c.in_ok-token.ensures)) c.args.at.now.used 0 c.args.nodes.now c.bracketed.new.nodes c.bracketed.new.at c.bracketed.result (arguments_of c.args.self.now c.args.at.now.cursor c.in_ok-token.ensures c.in-49.is) (omega (arith, p)) (omega (arith, p)) c.bracketed.ensures

pub arguments-returns-in_ok-table-in-53 : goal.arguments-returns-in_ok-table-in-53
unfolding read
arguments-returns-in_ok-table-in-53 t c =
    let x = c.args.self.now in
    let d = c.get_next.new.self in
    let p = get_place x.stream.now c.args.at.now.cursor (sym c.in_ok-token.ensures) in
    let f = c.in_ok-table-in-53.ensures in
    let g = weighed 1 (renoted (get_note x.stream.now c.args.at.now.cursor (sym c.in_ok-token.ensures)) (over_own d.place f (table_quiet x.stream.now x.ranking x.levels d f.says d.note) c.close.ensures)) in
    (lower (c.args.at.now.cursor.place + 1) (alter (arguments_of x c.args.at.now.cursor c.in_ok-token.ensures c.in-53.is) g) (omega (arith, p, f.later)), omega (arith, p, f.later))

pub arguments-returns-in_ok-leaf-in-57 : goal.arguments-returns-in_ok-leaf-in-57
unfolding read
arguments-returns-in_ok-leaf-in-57 t c =
    let x = c.args.self.now in
    let d = c.get_next.new.self in
    let p = get_place x.stream.now c.args.at.now.cursor (sym c.in_ok-token.ensures) in
    let f = c.in_ok-leaf-in-57.ensures in
    let g = weighed 1 (renoted (get_note x.stream.now c.args.at.now.cursor (sym c.in_ok-token.ensures)) (over_own d.place f (text_quiet x.stream.now x.ranking x.levels d f.says d.note) c.close-in-57.ensures)) in
    (lower (c.args.at.now.cursor.place + 1) (alter (arguments_of x c.args.at.now.cursor c.in_ok-token.ensures c.in-57.is) g) (omega (arith, p, f.later)), omega (arith, p, f.later))

pub arguments-returns-in_default : goal.arguments-returns-in_default
unfolding read args
arguments-returns-in_default t c =
    let x = c.args.self.now in
    by_others x.stream.now (ranks x.ranking) 0 (readers x.stream.now (ranks x.ranking) x.levels) (hold 0 0 none) again c.args.at.now.cursor (49, P.list) ArgumentRows (refuse 62) (sym c.in_ok-token.ensures) (λ z. omega arith) (λ z. omega arith) (λ z. omega arith)
    ∙ refused x.stream.now (ranks x.ranking) 0 (readers x.stream.now (ranks x.ranking) x.levels) (hold 0 0 none) again c.args.at.now.cursor 62 (sym c.in_ok-token.ensures) ∙ ap fail (sym c.unexpected.ensures)

pub bracketed-returns-in_err-take_next : goal.bracketed-returns-in_err-take_next
unfolding read
bracketed-returns-in_err-take_next t c = rw (handed c.from_residual.result c.from_residual.ensures.1) (stop _ (no_token c.args.self.now c.args.at.now.cursor c.in_err-take_next.ensures))

pub bracketed-listed-requires : goal.bracketed-listed-requires
bracketed-listed-requires t c =
    let f = a_token c.args.self.now c.args.at.now.cursor c.args.nodes.now c.args.at.now.used 0 (omega (arith, c.requires.room)) c.in_ok-take_next.ensures in
    (omega arith, ready_at f (omega arith))

pub bracketed-returns-in_err-count : goal.bracketed-returns-in_err-count
unfolding read
bracketed-returns-in_err-count t c =
    let f = a_token c.args.self.now c.args.at.now.cursor c.args.nodes.now c.args.at.now.used 0 (omega (arith, c.requires.room)) c.in_ok-take_next.ensures in
    rw (handed c.from_residual-in_err-count.result c.from_residual-in_err-count.ensures.1) (past _ f (stop _ c.in_err-count.ensures))

pub bracketed-returns-in_err-expect_next : goal.bracketed-returns-in_err-expect_next
unfolding read
bracketed-returns-in_err-expect_next t c =
    let f = a_token c.args.self.now c.args.at.now.cursor c.args.nodes.now c.args.at.now.used 0 (omega (arith, c.requires.room)) c.in_ok-take_next.ensures in
    rw (handed c.from_residual-in_err-expect_next.result c.from_residual-in_err-expect_next.ensures.1) (past _ f (past _ (c.in_ok-count.ensures).0 (no_word c.args.self.now c.listed.new.at.cursor 50 refl refl c.in_err-expect_next.ensures)))

pub bracketed-returns : goal.bracketed-returns
unfolding read
bracketed-returns t c =
    let x = c.args.self.now in
    let f = a_token x c.args.at.now.cursor c.args.nodes.now c.args.at.now.used 0 (omega (arith, c.requires.room)) c.in_ok-take_next.ensures in
    let g = c.in_ok-count.ensures in
    let h = a_word x c.listed.new.at.cursor c.listed.new.nodes c.listed.new.at.used 0 (omega (arith, g.0.room)) 50 refl refl c.in_ok-expect_next.ensures in
    (revalue (omega arith) (both _ f (both _ g.0 h (omega arith)) (omega arith)), omega (arith, f.later, g.1, h.later))

pub call-returns-in_err-count : goal.call-returns-in_err-count
unfolding read
call-returns-in_err-count t c = rw (handed c.from_residual.result c.from_residual.ensures.1) (ap (wrap c.args.self.now.stream.now 34 unlined c.args.at.now.cursor.place) c.in_err-count.ensures)

pub call-returns : goal.call-returns
unfolding read
call-returns t c = over 34 unlined c.args.at.now.cursor.place 0 (refl, refl, refl) (c.in_ok-count.ensures).0 c.close.ensures refl

pub index-returns-in_err-take_next : goal.index-returns-in_err-take_next
unfolding read
index-returns-in_err-take_next t c = rw (handed c.from_residual.result c.from_residual.ensures.1) (ap (wrap c.args.self.now.stream.now 33 unlined c.args.at.now.cursor.place) (stop _ (no_token c.args.self.now c.args.at.now.cursor c.in_err-take_next.ensures)))

pub index-expression-requires : goal.index-expression-requires
index-expression-requires t c =
    let f = a_token c.args.self.now c.args.at.now.cursor c.args.nodes.now (c.args.at.now.used + 1) 0 (omega (arith, c.requires.room)) c.in_ok-take_next.ensures in
    (omega arith, ready_at f (omega arith))

pub index-returns-in_err-expression : goal.index-returns-in_err-expression
unfolding read
index-returns-in_err-expression t c =
    let f = a_token c.args.self.now c.args.at.now.cursor c.args.nodes.now (c.args.at.now.used + 1) 0 (omega (arith, c.requires.room)) c.in_ok-take_next.ensures in
    rw (handed c.from_residual-in_err-expression.result c.from_residual-in_err-expression.ensures.1) (ap (wrap c.args.self.now.stream.now 33 unlined c.args.at.now.cursor.place) (past _ f (stop _ c.in_err-expression.ensures)))

pub index-returns-in_err-expect_next : goal.index-returns-in_err-expect_next
unfolding read
index-returns-in_err-expect_next t c =
    let f = a_token c.args.self.now c.args.at.now.cursor c.args.nodes.now (c.args.at.now.used + 1) 0 (omega (arith, c.requires.room)) c.in_ok-take_next.ensures in
    let g = c.in_ok-expression.ensures in
    rw (handed c.from_residual-in_err-expect_next.result c.from_residual-in_err-expect_next.ensures.1) (ap (wrap c.args.self.now.stream.now 33 unlined c.args.at.now.cursor.place) (past _ f (past _ g (no_word c.args.self.now c.expression.new.at.cursor 52 refl refl c.in_err-expect_next.ensures))))

pub index-returns : goal.index-returns
unfolding read
index-returns t c =
    let x = c.args.self.now in
    let f = a_token x c.args.at.now.cursor c.args.nodes.now (c.args.at.now.used + 1) 0 (omega (arith, c.requires.room)) c.in_ok-take_next.ensures in
    let g = c.in_ok-expression.ensures in
    let h = a_word x c.expression.new.at.cursor c.expression.new.nodes c.expression.new.at.used 0 (omega (arith, g.room)) 52 refl refl c.in_ok-expect_next.ensures in
    over 33 unlined c.args.at.now.cursor.place 0 (refl, refl, refl) (both _ f (both _ g h (omega arith)) (omega arith)) c.close.ensures refl

pub listed-returns-in_err-token : goal.listed-returns-in_err-token
unfolding read
listed-returns-in_err-token t c =
    let x = c.args.self.now in
    rw (handed c.from_residual.result c.from_residual.ensures.1) (next_fail x.stream.now (ranks x.ranking) 0 (readers x.stream.now (ranks x.ranking) x.levels) (hold 0 0 none) again c.args.at.now.cursor (50 ∷ []) empty (explist 1) (sym c.in_err-token.ensures))

pub listed-returns-then-token-eq-RIGHT_PAREN : goal.listed-returns-then-token-eq-RIGHT_PAREN
unfolding read
listed-returns-then-token-eq-RIGHT_PAREN t c =
    let x = c.args.self.now in
    let d = c.args.at.now.cursor in
    let p = get_place x.stream.now d (sym c.in_ok-token.ensures) in
    let e = next_in x.stream.now (ranks x.ranking) 0 (readers x.stream.now (ranks x.ranking) x.levels) (hold 0 0 none) again d (50 ∷ []) empty (explist 1) (sym c.in_ok-token.ensures) (one c.if-token-eq-RIGHT_PAREN.true) in
    (looked c.args.nodes.now c.args.at.now.used 1 d c.get_next.new.self e p (get_note x.stream.now d (sym c.in_ok-token.ensures)) c.requires.at c.requires.room, omega (arith, p))

pub listed-expressions-requires : goal.listed-expressions-requires
listed-expressions-requires t c = (omega arith, ready_seen c.get_next.new.self c.requires (get_place c.args.self.now.stream.now c.args.at.now.cursor (sym c.in_ok-token.ensures)))

pub listed-returns : goal.listed-returns
listed-returns t c =
    let x = c.args.self.now in
    let d = c.args.at.now.cursor in
    let p = get_place x.stream.now d (sym c.in_ok-token.ensures) in
    let e = next_out x.stream.now (ranks x.ranking) 0 (readers x.stream.now (ranks x.ranking) x.levels) (hold 0 0 none) again d (50 ∷ []) empty (explist 1) (sym c.in_ok-token.ensures) (other c.if-token-eq-RIGHT_PAREN.false) in
    roomier_sum x.stream.now d.note d.place d.place c.args.at.now.used 0 1 c.args.nodes.now c.expressions.new.nodes (at_cursor x P.listed d) c.expressions.new.at c.expressions.result (omega arith)
    (moved_sum x.stream.now (get_note x.stream.now d (sym c.in_ok-token.ensures)) c.args.at.now.used 0 c.args.nodes.now c.expressions.new.nodes c.expressions.new.at c.expressions.result e (omega (arith, p)) (omega (arith, p)) c.expressions.ensures)

pub method_call-returns-in_err-take_next : goal.method_call-returns-in_err-take_next
unfolding read
method_call-returns-in_err-take_next t c = rw (handed c.from_residual.result c.from_residual.ensures.1) (ap (wrap c.args.self.now.stream.now 35 unlined c.args.at.now.cursor.place) (stop _ (no_token c.args.self.now c.args.at.now.cursor c.in_err-take_next.ensures)))

pub method_call-returns-in_err-name : goal.method_call-returns-in_err-name
unfolding read
method_call-returns-in_err-name t c =
    let x = c.args.self.now in
    let f = a_token x c.args.at.now.cursor c.args.nodes.now (c.args.at.now.used + 1) 0 (omega (arith, c.requires.room)) c.in_ok-take_next.ensures in
    rw (handed c.from_residual-in_err-name.result c.from_residual-in_err-name.ensures.1) (ap (wrap x.stream.now 35 unlined c.args.at.now.cursor.place) (past _ f (stop _ (no_name x c.take_next.new.self c.in_err-name.ensures))))

pub method_call-arguments-requires : goal.method_call-arguments-requires
method_call-arguments-requires t c =
    let x = c.args.self.now in
    let f = a_token x c.args.at.now.cursor c.args.nodes.now (c.args.at.now.used + 1) 0 (omega (arith, c.requires.room)) c.in_ok-take_next.ensures in
    let g = a_name x c.take_next.new.self c.args.nodes.now (c.args.at.now.used + 1) 0 (omega (arith, f.room)) c.in_ok-name.ensures in
    (omega arith, ready_at g (omega arith))

pub method_call-returns-in_err-arguments : goal.method_call-returns-in_err-arguments
unfolding read
method_call-returns-in_err-arguments t c =
    let x = c.args.self.now in
    let f = a_token x c.args.at.now.cursor c.args.nodes.now (c.args.at.now.used + 1) 0 (omega (arith, c.requires.room)) c.in_ok-take_next.ensures in
    let g = a_name x c.take_next.new.self c.args.nodes.now (c.args.at.now.used + 1) 0 (omega (arith, f.room)) c.in_ok-name.ensures in
    let h = weight x c.take_next.new.self c.args.nodes.now (c.args.at.now.used + 1) 0 g c.in_ok-name.ensures in
    let l = args_light x.stream.now x.ranking 0 x.levels (hold 0 0 none) again c.expect_name.new.self in
    rw (handed c.from_residual-in_err-arguments.result c.from_residual-in_err-arguments.ensures.1) (ap (wrap x.stream.now 35 unlined c.args.at.now.cursor.place) (past _ f (past _ g (past (rest x (args 0)) h (light_fail l c.in_err-arguments.ensures)))))

pub method_call-returns : goal.method_call-returns
unfolding read
method_call-returns t c =
    let x = c.args.self.now in
    let f = a_token x c.args.at.now.cursor c.args.nodes.now (c.args.at.now.used + 1) 0 (omega (arith, c.requires.room)) c.in_ok-take_next.ensures in
    let g = a_name x c.take_next.new.self c.args.nodes.now (c.args.at.now.used + 1) 0 (omega (arith, f.room)) c.in_ok-name.ensures in
    let h = weight x c.take_next.new.self c.args.nodes.now (c.args.at.now.used + 1) 0 g c.in_ok-name.ensures in
    let l = args_light x.stream.now x.ranking 0 x.levels (hold 0 0 none) again c.expect_name.new.self in
    let k = light_fine l (c.in_ok-arguments.ensures).0 in
    over 35 unlined c.args.at.now.cursor.place 0 (refl, refl, refl) (revalue (omega arith) (both _ f (both _ g (both (rest x (args 0)) h k (omega arith)) (omega arith)) (omega arith))) c.close.ensures refl

pub primary-returns-in_err-token : goal.primary-returns-in_err-token
unfolding primary
primary-returns-in_err-token t c =
    let x = c.args.self.now in
    rw (handed c.from_residual.result c.from_residual.ensures.1) (by_none x.stream.now (ranks x.ranking) 0 (readers x.stream.now (ranks x.ranking) x.levels) (hold 0 0 none) again c.args.at.now.cursor (49, Grouped) ((58, any ⨾ leaf 30) ∷ []) (refuse 61) (take_fails x.stream.now c.args.at.now.cursor (sym c.in_err-token.ensures)))

pub primary-expression-requires : goal.primary-expression-requires
primary-expression-requires t c =
    let f = a_token c.args.self.now c.args.at.now.cursor c.args.nodes.now (c.args.at.now.used + 1) 0 (omega (arith, c.requires.room)) c.in_ok-token.ensures in
    (omega arith, ready_at f (omega arith))

pub primary-returns-in_err-expression-in-49 : goal.primary-returns-in_err-expression-in-49
unfolding read
primary-returns-in_err-expression-in-49 t c =
    let x = c.args.self.now in
    let d = c.args.at.now.cursor in
    let f = a_token x (read_ahead x.stream.now d 1) c.args.nodes.now (c.args.at.now.used + 1) 0 (omega (arith, c.requires.room)) (sym (take_takes x.stream.now d (sym c.in_ok-token.ensures))) in
    rw (handed c.from_residual-in_err-expression-in-49.result c.from_residual-in_err-expression-in-49.ensures.1)
    (primary_of x d c.in_ok-token.ensures c.in-49.is ∙ ap (wrap x.stream.now 31 unlined d.place) (past _ f (stop _ c.in_err-expression-in-49.ensures)))

pub primary-returns-in_err-expect_next-in-49 : goal.primary-returns-in_err-expect_next-in-49
unfolding read
primary-returns-in_err-expect_next-in-49 t c =
    let x = c.args.self.now in
    let d = c.args.at.now.cursor in
    let f = a_token x (read_ahead x.stream.now d 1) c.args.nodes.now (c.args.at.now.used + 1) 0 (omega (arith, c.requires.room)) (sym (take_takes x.stream.now d (sym c.in_ok-token.ensures))) in
    let g = c.in_ok-expression-in-49.ensures in
    rw (handed c.from_residual-in_err-expect_next-in-49.result c.from_residual-in_err-expect_next-in-49.ensures.1)
    (primary_of x d c.in_ok-token.ensures c.in-49.is ∙ ap (wrap x.stream.now 31 unlined d.place) (past _ f (past _ g (no_word x c.expression.new.at.cursor 50 refl refl c.in_err-expect_next-in-49.ensures))))

pub primary-returns-in_ok-expect_next-in-49 : goal.primary-returns-in_ok-expect_next-in-49
unfolding read
primary-returns-in_ok-expect_next-in-49 t c =
    let x = c.args.self.now in
    let d = c.args.at.now.cursor in
    let f = a_token x (read_ahead x.stream.now d 1) c.args.nodes.now (c.args.at.now.used + 1) 0 (omega (arith, c.requires.room)) (sym (take_takes x.stream.now d (sym c.in_ok-token.ensures))) in
    let g = c.in_ok-expression-in-49.ensures in
    let h = a_word x c.expression.new.at.cursor c.expression.new.nodes c.expression.new.at.used 0 (omega (arith, g.room)) 50 refl refl c.in_ok-expect_next-in-49.ensures in
    let e = primary_of x d c.in_ok-token.ensures c.in-49.is in
    let b = both _ f (both _ g h (omega arith)) (omega arith) in
    let r = alter e (over 31 unlined d.place 0 (refl, refl, refl) b c.close.ensures refl) in
    (r, tag_is r 31 (ap (last_from 0) e ∙ ap (λ (z : Out). last_from 0 (wrap x.stream.now 31 unlined d.place z)) b.says))

pub primary-returns-in-58 : goal.primary-returns-in-58
unfolding read
primary-returns-in-58 t c =
    let x = c.args.self.now in
    let s = x.stream.now in
    let d = c.args.at.now.cursor in
    let k = take_takes s d (sym c.in_ok-token.ensures) in
    let e = primary_of x d c.in_ok-token.ensures c.in-58.is in
    let y = any_says s (ranks x.ranking) 0 (readers s (ranks x.ranking) x.levels) (hold 0 0 none) again (read_ahead s d 1) k in
    let r = alter e (leaf_after s (ranks x.ranking) 0 (readers s (ranks x.ranking) x.levels) (hold 0 0 none) again (read_ahead s d 1) c.args.nodes.now c.args.at.now.used 0 30 (refl, refl, refl) x.formed (omega (arith, c.requires.room)) c.leaf.ensures any y (took_next s (read_ahead s d 1) k)) in
    (r, tag_is r 30 (ap (last_from 0) e ∙ ap (λ (z : Out). last_from 0 (then z (rest x (leaf 30)))) y))

pub primary-returns-in_default : goal.primary-returns-in_default
unfolding primary
primary-returns-in_default t c =
    let x = c.args.self.now in
    let d = c.args.at.now.cursor in
    let k = take_gets x.stream.now d (sym c.in_ok-token.ensures) in
    by_others x.stream.now (ranks x.ranking) 0 (readers x.stream.now (ranks x.ranking) x.levels) (hold 0 0 none) again d (49, Grouped) ((58, any ⨾ leaf 30) ∷ []) (refuse 61) k (λ z. omega arith) (λ z. omega arith)
    ∙ refused x.stream.now (ranks x.ranking) 0 (readers x.stream.now (ranks x.ranking) x.levels) (hold 0 0 none) again d 61 k ∙ ap fail (sym c.unexpected.ensures)

pub suffix-returns-in_err-field_name-in-44 : goal.suffix-returns-in_err-field_name-in-44
suffix-returns-in_err-field_name-in-44 t c =
    let x = c.args.self.now in
    rw (handed c.from_residual.result c.from_residual.ensures.1) (among first_suffix c.in-44.is, dotted_is x.stream.now x.ranking x.levels c.args.at.now.cursor (sym c.requires.1 ∙ c.in-44.is) ∙ c.in_err-field_name-in-44.ensures)

pub suffix-returns-in_err-index-in-51 : goal.suffix-returns-in_err-index-in-51
suffix-returns-in_err-index-in-51 t c =
    let x = c.args.self.now in
    rw (handed c.from_residual-in_err-index-in-51.result c.from_residual-in_err-index-in-51.ensures.1) (among first_suffix c.in-51.is, index_is x.stream.now x.ranking x.levels c.args.at.now.cursor (sym c.requires.1 ∙ c.in-51.is) ∙ c.in_err-index-in-51.ensures)

pub suffix-returns-in_err-method_call-in-46 : goal.suffix-returns-in_err-method_call-in-46
suffix-returns-in_err-method_call-in-46 t c =
    let x = c.args.self.now in
    rw (handed c.from_residual-in_err-method_call-in-46.result c.from_residual-in_err-method_call-in-46.ensures.1) (among first_suffix c.in-46.is, method_is x.stream.now x.ranking x.levels c.args.at.now.cursor (sym c.requires.1 ∙ c.in-46.is) ∙ c.in_err-method_call-in-46.ensures)

pub suffix-returns-in_err-call-in-49 : goal.suffix-returns-in_err-call-in-49
suffix-returns-in_err-call-in-49 t c =
    let k = call_of c.args.self.now c.args.at.now.cursor c.args.kind c.requires.1 c.in-49.is in
    rw (handed c.from_residual-in_err-call-in-49.result c.from_residual-in_err-call-in-49.ensures.1) (k.0, k.1 ∙ c.in_err-call-in-49.ensures)

pub suffix-returns-in_ok-field_name-in-44 : goal.suffix-returns-in_ok-field_name-in-44
unfolding read
suffix-returns-in_ok-field_name-in-44 t c =
    let x = c.args.self.now in
    let d = c.args.at.now.cursor in
    suffix_part c.args.kind 32 unlined d.place (at_cursor x (any ⨾ named ⨾ weigh) d) (among first_suffix c.in-44.is) (dotted_is x.stream.now x.ranking x.levels d (sym c.requires.1 ∙ c.in-44.is)) c.in_ok-field_name-in-44.ensures

pub suffix-returns-in_ok-index-in-51 : goal.suffix-returns-in_ok-index-in-51
unfolding read
suffix-returns-in_ok-index-in-51 t c =
    let x = c.args.self.now in
    let d = c.args.at.now.cursor in
    suffix_part c.args.kind 33 unlined d.place (at_cursor x (any ⨾ expr ⨾ word 52) d) (among first_suffix c.in-51.is) (index_is x.stream.now x.ranking x.levels d (sym c.requires.1 ∙ c.in-51.is)) c.in_ok-index-in-51.ensures

pub suffix-returns-in_ok-method_call-in-46 : goal.suffix-returns-in_ok-method_call-in-46
unfolding read
suffix-returns-in_ok-method_call-in-46 t c =
    let x = c.args.self.now in
    let d = c.args.at.now.cursor in
    suffix_part c.args.kind 35 unlined d.place (at_cursor x (any ⨾ named ⨾ weigh ⨾ args 0) d) (among first_suffix c.in-46.is) (method_is x.stream.now x.ranking x.levels d (sym c.requires.1 ∙ c.in-46.is)) c.in_ok-method_call-in-46.ensures

pub suffix-returns-in_ok-call-in-49 : goal.suffix-returns-in_ok-call-in-49
unfolding read
suffix-returns-in_ok-call-in-49 t c =
    let x = c.args.self.now in
    let d = c.args.at.now.cursor in
    let k = call_of x d c.args.kind c.requires.1 c.in-49.is in
    suffix_part c.args.kind 34 unlined d.place (at_cursor x (args 1) d) k.0 k.1 c.in_ok-call-in-49.ensures

pub suffixed-returns-in_err-last : goal.suffixed-returns-in_err-last
unfolding read suffixed
suffixed-returns-in_err-last t c = rw (handed c.from_residual.result c.from_residual.ensures.1) (ap (wrap c.args.self.now.stream.now 29 unlined c.args.at.now.cursor.place) (stop _ c.in_err-last.ensures))

pub suffixed-loop-token-init : goal.suffixed-loop-token-init
unfolding begin
suffixed-loop-token-init t c =
    let f = (c.in_ok-last.ensures).0 in
    ((ready_at f (omega arith), omega arith), (begin _ _ 0 _ _ refl f.at f.room, refl))

pub suffixed-suffix-requires : goal.suffixed-suffix-requires
suffixed-suffix-requires t c =
    let s = c.args.self.now.stream.now in
    (omega arith, (ready_seen c.look_ahead.new.self c.loop-token.invariant.0.0 (look_place s c.loop-token.at.cursor (sym c.in-Some.ensures)), saw_kind s c.loop-token.at.cursor (sym c.in-Some.ensures)))

pub suffixed-returns-in_err-tag : goal.suffixed-returns-in_err-tag
unfolding read suffixed
suffixed-returns-in_err-tag t c =
    let x = c.args.self.now in
    let i = c.loop-token.invariant in
    let z = c.in_err-tag.ensures in
    rw (handed c.from_residual-in_err-tag.result c.from_residual-in_err-tag.ensures.1)
    (ap (wrap x.stream.now 29 unlined c.args.at.now.cursor.place) (past (suffixes_from x) (c.in_ok-last.ensures).0 (fails i.1.0 (suffix_in x c.loop-token.at i.0.0 c.in-Some.ensures z.0 ∙ stop (suffixes_from x) (ap (add none 1) z.1)))))

pub suffixed-loop-token-smaller : goal.suffixed-loop-token-smaller
suffixed-loop-token-smaller t c =
    let z = rw c.in-Some-2.is at c.in_ok-tag.ensures in
    omega (arith, look_place c.args.self.now.stream.now c.loop-token.at.cursor (sym c.in-Some.ensures), z.1.0.later, z.1.0.at)

pub suffixed-loop-token-preserved : goal.suffixed-loop-token-preserved
unfolding renoted
suffixed-loop-token-preserved t c =
    let x = c.args.self.now in
    let i = c.loop-token.invariant in
    let z = rw c.in-Some-2.is at c.in_ok-tag.ensures in
    let p = look_place x.stream.now c.loop-token.at.cursor (sym c.in-Some.ensures) in
    let f = renoted (look_note x.stream.now c.loop-token.at.cursor (sym c.in-Some.ensures)) z.1.0 in
    let b = tag_word c.in_ok-last.last in (
      (ready_at f (omega arith), omega (arith, p, f.later, i.0.1)),
      turns_last i.1.0 1 (suffix_in x c.loop-token.at i.0.0 c.in-Some.ensures z.0) f (omega (arith, p)) f.room b (tag_word c.in-Some-2.tag) (z.1.1 ∙ suffix_tag x.stream.now x.ranking x.levels c.look_ahead.new.self (last_tag b i.1.0.trees) f),
    )

pub suffixed-returns : goal.suffixed-returns
unfolding read suffixed
suffixed-returns t c =
    let x = c.args.self.now in
    let s = x.stream.now in
    let p = c.loop-token.at in
    let i = c.loop-token.invariant in
    let m = c.match-look_ahead in
    let d = c.look_ahead.new.self in
    let g = c.in_ok-last.ensures in
    let y : SuffixesEnded x p c.loop-token.nodes m.at m.nodes =
    elim m.branch [
      | suffixed-in-Some+in_ok-tag+in_default-2 w ↦
          let z = rw w.in_default-2.is at w.in_ok-tag.ensures in
          suffixes_ended x p m.at c.loop-token.nodes m.nodes d (w.at-is ∙ z.1.1) (suffix_out x p i.0.0 w.in-Some.ensures z.0) (look_place s p.cursor (sym w.in-Some.ensures)) (look_note s p.cursor (sym w.in-Some.ensures)) (w.nodes-is ∙ z.1.0)
      | suffixed-in_default w ↦
          suffixes_ended x p m.at c.loop-token.nodes m.nodes d w.at-is (suffix_end x p i.0.0 w.in_default.ensures) (end_place s p.cursor (sym w.in_default.ensures)) (end_note s p.cursor (sym w.in_default.ensures)) w.nodes-is
    ] in
    let e = named_so y.3 y.4 (ends i.1.0 (looked c.loop-token.nodes p.used 0 p.cursor m.at.cursor y.0 y.1 y.2 i.0.0.at i.0.0.room) (omega arith)) in
    let f = over 29 unlined c.args.at.now.cursor.place 0 (refl, refl, refl) (revalue {w = c.loop-token.count} (omega arith) (both (suffixes_from x) g.0 e (omega arith))) c.close.ensures refl in
    (f, parts_last (suffixes_from x) g.0 i.1.0 m.at.cursor y.0 29 unlined c.args.at.now.cursor.place f (tag_word c.in_ok-last.last) (tag_word c.loop-token.last) g.1 i.1.1)

-- The members of the descent meet their contracts, one after the other.
