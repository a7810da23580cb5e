-- Tokens, as a member of the descent meets them: what each step of the cursor reads, said of the script and the place. Assumes nothing.
use mathlib.Core.Path.{◌≡◌, sym, ap}
use mathlib.Core.Bool.{false}
use mathlib.Core.List.{List}
use Prim.Native.Nat.{ℕ, ◌+◌, ◌*◌, ◌≤◌}
use Rattle.std.specs.Prelude.{Result, Ok, Err, IsErrAnd}
use lib.Dec.{eqb}
use Rattle.stream.specs.Reader.{expecting, take_next, expect_next, expect_name}
use Rattle.stream.specs.declared.reader.Cursor.{Cursor}
use Rattle.stream.specs.declared.reader.Token.{Token}
use Rattle.stream.specs.declared.reader.Refusal.{Refusal}
use Rattle.operators.specs.Ranks.{ranks}
use Rattle.tree.specs.Forest.{none}
use Rattle.grammar.specs.Term.{Term, any, weigh}
use Rattle.grammar.specs.Reading.{Out, Reader, fail, hold, read}
use Rattle.grammar.specs.Productions.{word, named}
use Rattle.grammar.specs.Levels.{readers}
use Rattle.parser.specs.Contract.{Fine, says, again}
use Rattle.parser.specs.declared.place.Script.{Script}
use Rattle.parser.proofs.Steps.{took_name}
use Rattle.parser.proofs.Tokens.{paid, weigh_fine, any_fail, name_fail, word_fail, any_fine, name_fine, word_fine}

module _ (x : Script) where
  -- what is read at a cursor
  abbrev pub at_cursor : Term → Cursor → Out
  at_cursor = says x.stream.now x.ranking x.levels

  module _ (c : Cursor) {e : Refusal} {d : Cursor} where
    pub no_token : (Err e, d) ≡ take_next x.stream.now c → at_cursor any c ≡ fail e
    no_token y = any_fail x.stream.now (ranks x.ranking) 0 (readers x.stream.now (ranks x.ranking) x.levels) (hold 0 0 none) again c (sym y)

    pub no_name : (Err e, d) ≡ expect_name x.stream.now c → at_cursor named c ≡ fail e
    no_name y = name_fail x.stream.now (ranks x.ranking) 0 (readers x.stream.now (ranks x.ranking) x.levels) (hold 0 0 none) again c (sym y)

    pub no_word : (k : ℕ) → eqb k 59 ≡ false → expecting k ≡ k + 1 → (Err e, d) ≡ expect_next x.stream.now c k → at_cursor (word k) c ≡ fail e
    no_word k r q y = word_fail x.stream.now (ranks x.ranking) 0 (readers x.stream.now (ranks x.ranking) x.levels) (hold 0 0 none) again c k r q (sym y)

  module _ (c : Cursor) (n : List ℕ) (used more : ℕ) (l : used ≤ 4 * c.place + (4 + more)) {t : Token} {d : Cursor} where
    pub a_token : (Ok t, d) ≡ take_next x.stream.now c → Fine x.stream.now c.note (c.place + 1) used more n n (at_cursor any c) d used 0
    a_token y = any_fine x.stream.now (ranks x.ranking) 0 (readers x.stream.now (ranks x.ranking) x.levels) (hold 0 0 none) again c n used more x.formed l (sym y)

    pub a_name : (Ok t, d) ≡ expect_name x.stream.now c → Fine x.stream.now c.note (c.place + 1) used more n n (at_cursor named c) d used 0
    a_name y = name_fine x.stream.now (ranks x.ranking) 0 (readers x.stream.now (ranks x.ranking) x.levels) (hold 0 0 none) again c n used more x.formed l (sym y)

    pub a_word : (k : ℕ) → eqb k 59 ≡ false → expecting k ≡ k + 1 → (Ok t, d) ≡ expect_next x.stream.now c k → Fine x.stream.now c.note (c.place + 1) used more n n (at_cursor (word k) c) d used 0
    a_word k r q y = word_fine x.stream.now (ranks x.ranking) 0 (readers x.stream.now (ranks x.ranking) x.levels) (hold 0 0 none) again c n used more x.formed l k r q (sym y)

-- what a `?` hands on is the refusal that it met
pub handed : {A : Type 0} {e : Refusal} (r : Result A Refusal) → IsErrAnd r (λ z. z ≡ e) → r ≡ Err e
handed (Ok x) y = absurd y
handed (Err z) y = ap Err y

-- the payload of the name just taken, as a weight
pub weight : (x : Script) (c : Cursor) (n : List ℕ) (used more : ℕ) {o : Out} {t : Token} {d : Cursor} {v : ℕ} → Fine x.stream.now c.note (c.place + 1) used more n n o d used v → (Ok t, d) ≡ expect_name x.stream.now c
    → Fine x.stream.now d.note d.place used more n n (at_cursor x weigh d) d used t.payload
weight x c n used more {d = d} f y = weigh_fine x.stream.now (ranks x.ranking) 0 (readers x.stream.now (ranks x.ranking) x.levels) (hold 0 0 none) again d n used more (paid (took_name x.stream.now c (sym y))) f.at f.room

-- the reader of a term that is still to be read
abbrev pub rest : Script → Term → Reader
rest x e p m = read x.stream.now (ranks x.ranking) 0 (readers x.stream.now (ranks x.ranking) x.levels) (hold 0 0 none) e again p m
