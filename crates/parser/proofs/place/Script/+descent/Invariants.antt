-- What falls at each turn of the descent, the levels first, and what its loops keep.
use Prim.Native.Nat.{ℕ, ◌+◌, ◌-◌, ◌*◌, ◌≤◌}
use mathlib.Core.Path.{◌≡◌}
use mathlib.Core.List.{[], ◌∷◌}
use lib.ListN.{length}
use Rattle.stream.specs.Words.{records, line as line_at}
use Rattle.tree.specs.Tags.{tag_word}
use Rattle.grammar.specs.Term.{any, plus, check, ahead, many, iter, ◌⨾◌}
use Rattle.grammar.specs.Productions.{suffix as suffix', expr, tail as tail'}
use Rattle.parser.specs.Contract.{Ready, under}
use Rattle.parser.specs.Parts as P
use Rattle.parser.proofs.Kit.{Going}
use Rattle.parser.proofs.Loops.{Turning}
use Rattle.parser.proofs.LastPart.{last_tag}
use Rattle.parser.proofs.place.Script.+descent.Given as goal

abbrev pub decreases-arguments : goal.decreases-arguments
decreases-arguments l = l.self.now.levels * 16 + 5

abbrev pub decreases-arm : goal.decreases-arm
decreases-arm l = l.self.now.levels * 16 + 6

abbrev pub decreases-arms : goal.decreases-arms
decreases-arms l = l.self.now.levels * 16 + 7

abbrev pub decreases-assigned : goal.decreases-assigned
decreases-assigned l = l.self.now.levels * 16 + 10

abbrev pub decreases-block : goal.decreases-block
decreases-block l = l.self.now.levels * 16 + 5

abbrev pub decreases-bracketed : goal.decreases-bracketed
decreases-bracketed l = l.self.now.levels * 16 + 3

abbrev pub decreases-call : goal.decreases-call
decreases-call l = l.self.now.levels * 16 + 6

abbrev pub decreases-definition : goal.decreases-definition
decreases-definition l = l.self.now.levels * 16 + 7

abbrev pub decreases-do_statement : goal.decreases-do_statement
decreases-do_statement l = l.self.now.levels * 16 + 7

abbrev pub decreases-ended_block : goal.decreases-ended_block
decreases-ended_block l = l.self.now.levels * 16 + 6

abbrev pub decreases-expression : goal.decreases-expression
decreases-expression l = l.self.now.levels * 16 + 0

abbrev pub decreases-expression_statement : goal.decreases-expression_statement
decreases-expression_statement l = l.self.now.levels * 16 + 11

abbrev pub decreases-expressions : goal.decreases-expressions
decreases-expressions l = l.self.now.levels * 16 + 1

abbrev pub decreases-field : goal.decreases-field
decreases-field l = l.self.now.levels * 16 + 2

abbrev pub decreases-fields : goal.decreases-fields
decreases-fields l = l.self.now.levels * 16 + 3

abbrev pub decreases-for_statement : goal.decreases-for_statement
decreases-for_statement l = l.self.now.levels * 16 + 9

abbrev pub decreases-function_statement : goal.decreases-function_statement
decreases-function_statement l = l.self.now.levels * 16 + 8

abbrev pub decreases-generic_for : goal.decreases-generic_for
decreases-generic_for l = l.self.now.levels * 16 + 8

abbrev pub decreases-head : goal.decreases-head
decreases-head l = l.self.now.levels * 16 + 10

abbrev pub decreases-if_statement : goal.decreases-if_statement
decreases-if_statement l = l.self.now.levels * 16 + 8

abbrev pub decreases-index : goal.decreases-index
decreases-index l = l.self.now.levels * 16 + 1

abbrev pub decreases-indexed_field : goal.decreases-indexed_field
decreases-indexed_field l = l.self.now.levels * 16 + 1

abbrev pub decreases-initial_values : goal.decreases-initial_values
decreases-initial_values l = l.self.now.levels * 16 + 2

abbrev pub decreases-item : goal.decreases-item
decreases-item l = l.self.now.levels * 16 + 1

abbrev pub decreases-listed : goal.decreases-listed
decreases-listed l = l.self.now.levels * 16 + 2

abbrev pub decreases-local_function : goal.decreases-local_function
decreases-local_function l = l.self.now.levels * 16 + 8

abbrev pub decreases-local_statement : goal.decreases-local_statement
decreases-local_statement l = l.self.now.levels * 16 + 3

abbrev pub decreases-loop_body : goal.decreases-loop_body
decreases-loop_body l = l.self.now.levels * 16 + 7

abbrev pub decreases-method_call : goal.decreases-method_call
decreases-method_call l = l.self.now.levels * 16 + 6

abbrev pub decreases-named_field : goal.decreases-named_field
decreases-named_field l = l.self.now.levels * 16 + 1

abbrev pub decreases-numeric_for : goal.decreases-numeric_for
decreases-numeric_for l = l.self.now.levels * 16 + 8

abbrev pub decreases-otherwise : goal.decreases-otherwise
decreases-otherwise l = l.self.now.levels * 16 + 6

abbrev pub decreases-primary : goal.decreases-primary
decreases-primary l = l.self.now.levels * 16 + 1

abbrev pub decreases-repeat_statement : goal.decreases-repeat_statement
decreases-repeat_statement l = l.self.now.levels * 16 + 6

abbrev pub decreases-return_part : goal.decreases-return_part
decreases-return_part l = l.self.now.levels * 16 + 4

abbrev pub decreases-return_statement : goal.decreases-return_statement
decreases-return_statement l = l.self.now.levels * 16 + 3

abbrev pub decreases-returned : goal.decreases-returned
decreases-returned l = l.self.now.levels * 16 + 2

abbrev pub decreases-simple : goal.decreases-simple
decreases-simple l = l.self.now.levels * 16 + 9

abbrev pub decreases-statement : goal.decreases-statement
decreases-statement l = l.self.now.levels * 16 + 0

abbrev pub decreases-statements : goal.decreases-statements
decreases-statements l = l.self.now.levels * 16 + 1

abbrev pub decreases-step : goal.decreases-step
decreases-step l = l.self.now.levels * 16 + 1

abbrev pub decreases-suffix : goal.decreases-suffix
decreases-suffix l = l.self.now.levels * 16 + 7

abbrev pub decreases-suffixed : goal.decreases-suffixed
decreases-suffixed l = l.self.now.levels * 16 + 8

abbrev pub decreases-table : goal.decreases-table
decreases-table l = l.self.now.levels * 16 + 4

abbrev pub decreases-tail : goal.decreases-tail
decreases-tail l = l.self.now.levels * 16 + 1

abbrev pub decreases-tails : goal.decreases-tails
decreases-tails l = l.self.now.levels * 16 + 2

abbrev pub decreases-targets : goal.decreases-targets
decreases-targets l = l.self.now.levels * 16 + 9

abbrev pub decreases-while_statement : goal.decreases-while_statement
decreases-while_statement l = l.self.now.levels * 16 + 8

abbrev pub invariant-arms-loop-at : goal.invariant-arms-loop-at
invariant-arms-loop-at l = Turning l.self 0 1 P.arms l.initial.at l.at l.initial.nodes l.nodes l.value

abbrev pub decreases-arms-loop-at : goal.decreases-arms-loop-at
decreases-arms-loop-at l = records l.self.stream.now - l.at.cursor.place

abbrev pub invariant-expressions-loop-at : goal.invariant-expressions-loop-at
invariant-expressions-loop-at l = Turning l.self 0 0 (many check (48 ∷ []) (any ⨾ plus 1 ⨾ expr)) l.initial.at l.at l.initial.nodes l.nodes (l.count - l.initial.count) × (l.initial.count ≤ l.count)

abbrev pub decreases-expressions-loop-at : goal.decreases-expressions-loop-at
decreases-expressions-loop-at l = records l.self.stream.now - l.at.cursor.place

abbrev pub invariant-fields-loop-at : goal.invariant-fields-loop-at
invariant-fields-loop-at l = Turning l.self 0 0 P.fields l.initial.at l.at l.initial.nodes l.nodes l.count

abbrev pub decreases-fields-loop-at : goal.decreases-fields-loop-at
decreases-fields-loop-at l = records l.self.stream.now - l.at.cursor.place

abbrev pub invariant-statements-loop-token : goal.invariant-statements-loop-token
invariant-statements-loop-token l = Turning l.self 0 1 P.stats l.initial.at l.at l.initial.nodes l.nodes 0

abbrev pub decreases-statements-loop-token : goal.decreases-statements-loop-token
decreases-statements-loop-token l = records l.self.stream.now - l.at.cursor.place

abbrev pub invariant-suffixed-loop-token : goal.invariant-suffixed-loop-token
invariant-suffixed-loop-token l = (Ready l.self.stream.now l.at 0 × (l.count + 2 * l.initial.at.cursor.place ≤ 2 * l.at.cursor.place))
    × ((z : Going l.self.stream.now l.initial.at.cursor.note l.initial.at.cursor.place l.initial.at.used 0 l.initial.nodes l.nodes (under l.self.stream.now l.self.ranking 0 l.self.levels 0 (many ahead (44 ∷ 51 ∷ 46 ∷ 49 ∷ 53 ∷ 57 ∷ []) (plus 1 ⨾ suffix')) l.initial.at.cursor.place l.initial.at.cursor.mark) (under l.self.stream.now l.self.ranking 0 l.self.levels 0 (many ahead (44 ∷ 51 ∷ 46 ∷ 49 ∷ 53 ∷ 57 ∷ []) (plus 1 ⨾ suffix'))) l.at.cursor l.at.used l.count) × (tag_word l.last ≡ last_tag (tag_word l.initial.last) z.trees))

abbrev pub decreases-suffixed-loop-token : goal.decreases-suffixed-loop-token
decreases-suffixed-loop-token l = records l.self.stream.now - l.at.cursor.place

abbrev pub invariant-tails-loop-token : goal.invariant-tails-loop-token
invariant-tails-loop-token l = (Ready l.self.stream.now l.at 0 × (l.count + 2 * l.initial.at.cursor.place ≤ 2 * l.at.cursor.place))
    × Going l.self.stream.now l.initial.at.cursor.note l.initial.at.cursor.place l.initial.at.used 0 l.initial.nodes l.nodes (under l.self.stream.now l.self.ranking l.limit l.self.levels 0 (iter tail') l.initial.at.cursor.place l.initial.at.cursor.mark) (under l.self.stream.now l.self.ranking l.limit l.self.levels 0 (iter tail')) l.at.cursor l.at.used l.count

abbrev pub decreases-tails-loop-token : goal.decreases-tails-loop-token
decreases-tails-loop-token l = records l.self.stream.now - l.at.cursor.place

abbrev pub invariant-targets-loop-at : goal.invariant-targets-loop-at
invariant-targets-loop-at l = (Ready l.self.stream.now l.at 0 × (l.count + 2 * l.initial.at.cursor.place ≤ 2 * l.at.cursor.place)) × (length l.nodes ≡ length l.initial.nodes)
    × ((e : ℕ) → l.after ≡ line_at l.self.stream.now e → Turning l.self e 0 P.targets l.initial.at l.at l.initial.nodes l.nodes l.count)

abbrev pub decreases-targets-loop-at : goal.decreases-targets-loop-at
decreases-targets-loop-at l = records l.self.stream.now - l.at.cursor.place
