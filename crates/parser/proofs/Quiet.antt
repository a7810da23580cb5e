-- A table and a text have to do with no chain around them: their operators stand in expressions of their own. Assumes nothing.
use mathlib.Core.Path.{◌≡◌, refl, subst}
use mathlib.Core.Bool.{true}
use mathlib.Core.List.{List}
use Prim.Native.Nat.{ℕ}
use Rattle.stream.specs.declared.reader.Cursor.{Cursor}
use Rattle.operators.specs.Ranks.{ranks}
use Rattle.operators.specs.declared.Ranking.{Ranking}
use Rattle.tree.specs.Forest.{Forest, none}
use Rattle.grammar.specs.Term.{Term, empty, any, leaf, ◌⨾◌}
use Rattle.grammar.specs.Reading.{fine, hold}
use Rattle.grammar.specs.Productions.{table, field}
use Rattle.grammar.specs.Levels.{readers}
use Rattle.grammar.proofs.Derives.{phrases}
use Rattle.grammar.proofs.Sound.{Fits, sound}
use Rattle.grammar.proofs.Levels.{sounds}
use Rattle.quarrel.proofs.Fit.{nothing}
use Rattle.quarrel.proofs.Parts.{fitting}
use Rattle.quarrel.proofs.Marks.{lows, marked}
use Rattle.quarrel.proofs.Added.{Quiet, quiet_fits}
use Rattle.parser.specs.Contract.{says}
use Rattle.parser.specs.Contract.{again as never}

module _ (s : List ℕ) (k : Ranking) (g : ℕ) (c : Cursor) {p m v : ℕ} {t : Forest} where
  quiet : (e : Term) → fitting e ≡ true → says s k g e c ≡ fine p m t v → Quiet s t
  quiet e w x =
      let h = sounds s (ranks k) g in
      let d = sound s (ranks k) 0 (phrases s (ranks k) g) (readers s (ranks k) g) h.0 h.1 (hold 0 0 none) e empty never (λ i m. tt) c.place c.mark in
      quiet_fits s (ranks k) (marked s (ranks k) 0 (phrases s (ranks k) g) (lows s (ranks k) g) refl w nothing (subst (Fits _) x d))

  pub table_quiet : says s k g table c ≡ fine p m t v → Quiet s t
  unfolding table field
  table_quiet = quiet table refl

  pub text_quiet : says s k g (any ⨾ leaf 22) c ≡ fine p m t v → Quiet s t
  text_quiet = quiet (any ⨾ leaf 22) refl
