-- Each of these terms, which hold no expression, operand, statement or operator, reads the same under every ranking and with any number of levels left.
-- Assumes nothing.
use mathlib.Core.Path.{◌≡◌, refl}
use mathlib.Core.List.{List, [], ◌∷◌}
use Prim.Native.Nat.{ℕ}
use Rattle.stream.specs.Kinds.{RightParen, SemiColon}
use Rattle.stream.specs.declared.reader.Cursor.{Cursor}
use Rattle.operators.specs.declared.Ranking.{Ranking}
use Rattle.grammar.specs.Term.{Term, check, empty, any, leaf, plus, opt, ◌⨾◌, on}
use Rattle.grammar.specs.Productions.{nameleaf, parlist, label, breakstat, gotostat, look}
use Rattle.grammar.specs.Reading.{read}
use Rattle.parser.specs.Parts as P
use Rattle.parser.specs.Contract.{says}

module _ (s : List ℕ) (k k' : Ranking) (h h' : ℕ) (c : Cursor) where
  abbrev pub Alike : Term → Type 0
  Alike e = says s k h e c ≡ says s k' h' e c

  -- what `leaf`, `name`, `names`, `name_list`, `parameters`, `parameter_list`, `field_names` and `method_name` read
  pub names_alike : ((tag : ℕ) → Alike (any ⨾ leaf tag)) × Alike nameleaf × Alike P.names × Alike (nameleaf ⨾ plus 1 ⨾ P.names)
      × Alike parlist × Alike (on check (RightParen ∷ []) empty parlist) × Alike P.fieldnames × Alike (any ⨾ nameleaf)
  unfolding read parlist
  names_alike = (λ tag. refl, refl, refl, refl, refl, refl, refl, refl)

  -- `label`, `goto`, `stop` and `field_name`; the `;` after a return, and the look after a block
  pub statements_alike : Alike label × Alike gotostat × Alike breakstat × Alike P.dotted × Alike (opt check (SemiColon ∷ []) any) × Alike look
  unfolding read label gotostat breakstat
  statements_alike = (refl, refl, refl, refl, refl, refl)
