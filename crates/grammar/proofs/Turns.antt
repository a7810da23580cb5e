-- The bodies of the productions' repetitions, and what ends the stats of a block. Assumes nothing: these are definitions.
use mathlib.Core.List.{List, [], ◌∷◌}
use Prim.Native.Nat.{ℕ}
use Rattle.stream.specs.Kinds.{Else, ElseIf, End, EndOfStream, Return, Then, Until, Dots, Dot, SemiColon, Comma, RightBrace, Name}
use Rattle.grammar.specs.Term.{Term, ahead, next, check, target, opt, ◌⇒◌∣◌, empty, any, leaf, plus, stat, ◌⨾◌, on, refuse, kept, again}
use Rattle.grammar.specs.Productions.{word, expr, nameleaf, block, field, suffix, suffixed}
use Rattle.grammar.specs.Grammar.{first_suffix, fieldsep}

abbrev pub stops : List ℕ
stops = EndOfStream ∷ Else ∷ ElseIf ∷ End ∷ Until ∷ Return ∷ []

abbrev pub exp_turn : ℕ → Term
exp_turn w = on check (Comma ∷ []) ((any ⨾ plus w ⨾ expr) ⨾ again) empty

abbrev pub stat_turn : Term
stat_turn = on ahead stops empty (on ahead (SemiColon ∷ []) any stat ⨾ again)

abbrev pub param_turn : Term
param_turn = Name ⇒ any ⨾ leaf 30 ⨾ plus 2 ⨾ opt check (Comma ∷ []) (any ⨾ again) ∣ Dots ⇒ any ⨾ plus 1 ∣ refuse 63

abbrev pub field_turn : Term
field_turn = on check (RightBrace ∷ []) (word RightBrace) (plus 1 ⨾ field ⨾ on next fieldsep (any ⨾ again) (word RightBrace))

abbrev pub suffix_turn : Term
suffix_turn = on ahead first_suffix ((plus 1 ⨾ suffix) ⨾ again) empty

abbrev pub elseif_turn : Term
elseif_turn = on check (ElseIf ∷ []) ((any ⨾ plus 2 ⨾ expr ⨾ word Then ⨾ block) ⨾ again) empty

abbrev pub name_turn : Term
name_turn = on check (Comma ∷ []) ((any ⨾ nameleaf ⨾ plus 1) ⨾ again) empty

abbrev pub fieldname_turn : Term
fieldname_turn = on ahead (Dot ∷ []) ((any ⨾ nameleaf ⨾ plus 2) ⨾ again) empty

abbrev pub target_turn : Term
target_turn = on check (Comma ∷ []) ((any ⨾ kept target 3 suffixed ⨾ plus 1) ⨾ again) empty
