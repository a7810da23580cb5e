-- The productions are well made. Assumes nothing: computed.
use mathlib.Core.Path.{◌≡◌, refl}
use mathlib.Core.Bool.{true, ◌&&◌}
use Rattle.grammar.specs.Productions.{explist, retstat, block, parlist, funcbody, field, table, args, suffix, primary, suffixed, simple, head, tail, tails, expression}
use Rattle.grammar.specs.Productions.{ifstat, whilestat, dostat, forstat, repeatstat, functionstat, localfunction, localstat, label, breakstat, gotostat, exprstat, statement}
use Rattle.grammar.proofs.Form.{wellmade, guarded, consumes, plain, closed}

pub expression_made : (wellmade expression && guarded expression && consumes expression) ≡ true
unfolding explist retstat block parlist funcbody field table args suffix primary suffixed simple head tail tails expression
expression_made = refl

pub statement_made : (wellmade statement && guarded statement && consumes statement) ≡ true
unfolding explist retstat block parlist funcbody field table args suffix primary suffixed ifstat whilestat dostat forstat repeatstat functionstat localfunction localstat label breakstat gotostat exprstat statement
statement_made = refl

pub block_made : (wellmade block && guarded block) ≡ true
unfolding explist retstat block
block_made = refl

pub tail_made : (wellmade tail && guarded tail) ≡ true
unfolding tail
tail_made = refl

pub head_made : (wellmade head && consumes head) ≡ true
unfolding explist retstat block parlist funcbody field table args suffix primary suffixed simple head
head_made = refl

pub statement_plain : plain statement ≡ true
unfolding explist retstat block parlist funcbody field table args suffix primary suffixed ifstat whilestat dostat forstat repeatstat functionstat localfunction localstat label breakstat gotostat exprstat statement
statement_plain = refl

pub simple_plain : plain simple ≡ true
unfolding explist retstat block parlist funcbody field table args suffix primary suffixed simple
simple_plain = refl

pub block_plain : plain block ≡ true
unfolding explist retstat block
block_plain = refl

pub simple_closed : closed simple ≡ true
unfolding explist retstat block parlist funcbody field table args suffix primary suffixed simple
simple_closed = refl
