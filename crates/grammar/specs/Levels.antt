-- Readers of so many levels, and of the whole stream. Assumes nothing: these are definitions.
use Rattle.std.specs.Prelude.{List, true, false, ℕ, zero, suc, eqb}
use Rattle.stream.specs.Words.{kind}
use Rattle.stream.specs.Reader.{reached}
use Rattle.operators.specs.Ranks.{Ranks}
use Rattle.grammar.specs.Reading.{Out, fine, fail, Readers, ended, deep, alone}
use Rattle.grammar.specs.Productions.{block, expression, statement}

abbrev pub readers : List ℕ → Ranks → ℕ → Readers
readers s rank zero = record { exps = λ l p m. deep s m; stats = λ p m. deep s m }
readers s rank (suc g) = record { exps = λ l. alone s rank l (readers s rank g) expression; stats = alone s rank 0 (readers s rank g) statement }

abbrev pub finish : List ℕ → Out → Out
finish s (fine q m t v) = elim (eqb (kind s q) 59) [ true ↦ fine q (reached s m q 2) t v | false ↦ ended s (reached s m q 2) 0 ]
finish s (fail e) = fail e

abbrev pub chunk : List ℕ → Ranks → ℕ → Out
chunk s rank g = finish s (alone s rank 0 (readers s rank g) block 0 0)
