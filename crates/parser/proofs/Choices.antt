-- Where the descent goes on by what it sees: after the names of a `for`, after a first suffixed expression, and in the fields of a table.
-- Assumes nothing.
use mathlib.Core.Path.{◌≡◌, refl, sym, ap, ◌∙◌}
use mathlib.Core.Bool.{true, false}
use mathlib.Core.List.{List, [], ◌∷◌}
use mathlib.Core.Logic.{◌⊎◌, inl, inr}
use Prim.Native.Nat.{ℕ, suc, ◌+◌, ◌*◌, ◌≤◌}
use native.Mathlib.Omega.{arith}
use lib.ListN.{length}
use Rattle.std.specs.Prelude.{Ok, Err, Some, None}
use Rattle.stream.specs.Reader.{get_next, look_ahead, check_ahead, expect_next, expect_name}
use Rattle.stream.specs.declared.reader.Cursor.{Cursor}
use Rattle.stream.specs.declared.reader.Note.{Note}
use Rattle.stream.specs.declared.reader.Token.{Token}
use Rattle.stream.specs.declared.reader.Refusal.{Refusal}
use Rattle.operators.specs.Ranks.{ranks}
use Rattle.tree.specs.Forest.{none}
use Rattle.grammar.specs.Member.{member}
use Rattle.grammar.specs.Term.{Term, next, check, ahead, opening, back, target, call, any, leaf, weigh, plus, ◌⨾◌, on, refuse, node, held, again as again', ◌⇒◌∣◌}
use Rattle.grammar.specs.Reading.{Out, fail, Reader, Held, hold, leads, loop, add, then, wrap, read}
use Rattle.grammar.specs.Levels.{readers}
use Rattle.grammar.specs.Productions.{word, named, explist, block, retstat, forstat, exprstat, suffixed, field}
use Rattle.grammar.proofs.Among.{among}
use Rattle.parser.specs.Contract.{Fine, under, again, unexpected}
use Rattle.parser.specs.Parts as P
use Rattle.parser.specs.declared.place.Script.{Script}
use Rattle.parser.specs.declared.place.Place.{Place}
use Rattle.parser.proofs.Steps.{taken, word_is, name_is, next_in, next_out, look_in, look_out, end_out, check_in, check_out, check_place, check_note}
use Rattle.parser.proofs.Looks.{by_none, by_kind, by_others, refused, got_again}
use Rattle.parser.proofs.Around.{looping, settled, leads_is}
use Rattle.parser.proofs.Kit.{Going, add_none, alter, looks, goes, weighs, revalue_going}
use Rattle.parser.proofs.Loops.{Turning}
use Rattle.parser.proofs.Members.{at_cursor, rest}

-- a kind that is one of two is among kinds that both are among
pub either : {k a b : ℕ} (ks : List ℕ) → member a ks ≡ true → member b ks ≡ true → (k ≡ a) ⊎ (k ≡ b) → member k ks ≡ true
either ks x y (inl e) = among ks e ∙ x
either ks x y (inr e) = among ks e ∙ y

-- the reading of a term where something is held, and `again` is the production that it is held for
abbrev pub Holding : Script → Held → Term → Term → Reader
Holding x h b e = read x.stream.now (ranks x.ranking) 0 (readers x.stream.now (ranks x.ranking) x.levels) h e (loop x.stream.now (length x.stream.now) (read x.stream.now (ranks x.ranking) 0 (readers x.stream.now (ranks x.ranking) x.levels) h b))

-- what comes after the first name of a `for`
abbrev pub NumericFor : Term
NumericFor = node 6 back opening (weigh ⨾ P.numeric)

abbrev pub GenericFor : Term
GenericFor = node 7 back opening (leaf 30 ⨾ plus 1 ⨾ P.generic)

abbrev pub Named : Term
Named = on next (48 ∷ 10 ∷ []) GenericFor (refuse 64)

abbrev pub For : Term
For = 37 ⇒ NumericFor ∣ Named

module _ (x : Script) (p : Cursor) {t u : Token} {c d : Cursor} (y : (Ok t, c) ≡ expect_next x.stream.now p 6) (z : (Ok u, d) ≡ expect_name x.stream.now c) where
  abbrev Start : Held
  Start = hold p.place d.place none

  abbrev Within : Reader
  Within = loop x.stream.now (length x.stream.now) (read x.stream.now (ranks x.ranking) 0 (readers x.stream.now (ranks x.ranking) x.levels) Start For)

  abbrev After : Out → Out
  After o = leads o (λ t q. loop x.stream.now (suc (length x.stream.now)) (read x.stream.now (ranks x.ranking) 0 (readers x.stream.now (ranks x.ranking) x.levels) (hold p.place q t) For) q)

  for_begins : at_cursor x forstat p ≡ Holding x Start For For d.place d.mark
  unfolding read forstat
  for_begins =
      ap (λ (o : Out). After (then o (rest x named))) (word_is x.stream.now (ranks x.ranking) 0 (readers x.stream.now (ranks x.ranking) x.levels) (hold 0 0 none) again p 6 refl refl ∙ ap taken (sym y))
      ∙ ap (λ (o : Out). After (add none 0 o)) (name_is x.stream.now (ranks x.ranking) 0 (readers x.stream.now (ranks x.ranking) x.levels) (hold 0 0 none) again c ∙ ap taken (sym z))
      ∙ add_none (Holding x Start For For d.place d.mark)

  -- no token; `=`; `,` or `in`; another
  pub for_ends : {e : Refusal} {f : Cursor} → (Err e, f) ≡ get_next x.stream.now d → at_cursor x forstat p ≡ fail e
  for_ends g = for_begins ∙ by_none x.stream.now (ranks x.ranking) 0 (readers x.stream.now (ranks x.ranking) x.levels) Start Within d (37, NumericFor) [] Named (sym g)

  module _ {v : Token} {f : Cursor} (g : (Ok v, f) ≡ get_next x.stream.now d) where
    pub for_numeric : v.kind ≡ 37 → at_cursor x forstat p ≡ wrap x.stream.now 6 opening p.place (at_cursor x (weigh ⨾ P.numeric) f)
    unfolding read block retstat explist
    for_numeric k =
        for_begins ∙ by_kind x.stream.now (ranks x.ranking) 0 (readers x.stream.now (ranks x.ranking) x.levels) Start Within d (37, NumericFor) [] Named (sym g) k
        ∙ ap (wrap x.stream.now 6 opening p.place) (settled x.stream.now x.ranking 0 x.levels Start Within (weigh ⨾ P.numeric) refl f)

    pub for_generic : (v.kind ≡ 37 → ⊥) → member v.kind (48 ∷ 10 ∷ []) ≡ true → at_cursor x forstat p ≡ wrap x.stream.now 7 opening p.place (at_cursor x (leaf 30 ⨾ plus 1 ⨾ P.generic) f)
    unfolding read block retstat explist
    for_generic k m =
        for_begins ∙ by_others x.stream.now (ranks x.ranking) 0 (readers x.stream.now (ranks x.ranking) x.levels) Start Within d (37, NumericFor) [] Named (sym g) k
        ∙ next_in x.stream.now (ranks x.ranking) 0 (readers x.stream.now (ranks x.ranking) x.levels) Start Within f (48 ∷ 10 ∷ []) GenericFor (refuse 64) (got_again x.stream.now d (sym g)) m
        ∙ ap (wrap x.stream.now 7 opening p.place) (settled x.stream.now x.ranking 0 x.levels Start Within (leaf 30 ⨾ plus 1 ⨾ P.generic) refl f)

    pub for_neither : (v.kind ≡ 37 → ⊥) → member v.kind (48 ∷ 10 ∷ []) ≡ false → at_cursor x forstat p ≡ fail (unexpected v f.place 64)
    for_neither k m =
        for_begins ∙ by_others x.stream.now (ranks x.ranking) 0 (readers x.stream.now (ranks x.ranking) x.levels) Start Within d (37, NumericFor) [] Named (sym g) k
        ∙ next_out x.stream.now (ranks x.ranking) 0 (readers x.stream.now (ranks x.ranking) x.levels) Start Within f (48 ∷ 10 ∷ []) GenericFor (refuse 64) (got_again x.stream.now d (sym g)) m
        ∙ refused x.stream.now (ranks x.ranking) 0 (readers x.stream.now (ranks x.ranking) x.levels) Start Within d 64 (sym g)

-- what comes after a suffixed expression that begins a statement
abbrev pub Assignment : Term
Assignment = node 16 back opening (held target 3 ⨾ plus 1 ⨾ P.assigned)

abbrev pub CallStatement : Term
CallStatement = node 15 back opening (held call 4)

abbrev pub Expression : Term
Expression = on ahead (37 ∷ 48 ∷ []) Assignment CallStatement

module _ (x : Script) (p : Cursor) {q : Note} {low used more : ℕ} {n n' : List ℕ} {c : Cursor} {u : ℕ} (f : Fine x.stream.now q low used more n n' (at_cursor x suffixed p) c u 0) where
  abbrev pub First : Held
  First = hold p.place c.place f.trees

  abbrev pub Following : Reader
  Following = loop x.stream.now (length x.stream.now) (read x.stream.now (ranks x.ranking) 0 (readers x.stream.now (ranks x.ranking) x.levels) First Expression)

  statement_begins : at_cursor x exprstat p ≡ Holding x First Expression Expression c.place c.mark
  unfolding read exprstat
  statement_begins = leads_is (λ t q. loop x.stream.now (suc (length x.stream.now)) (read x.stream.now (ranks x.ranking) 0 (readers x.stream.now (ranks x.ranking) x.levels) (hold p.place q t) Expression) q) f

  -- no token; `=` or `,`; another
  pub statement_ends : {d : Cursor} → (None, d) ≡ look_ahead x.stream.now c 0 → at_cursor x exprstat p ≡ Holding x First Expression CallStatement d.place d.mark
  statement_ends y = statement_begins ∙ end_out x.stream.now (ranks x.ranking) 0 (readers x.stream.now (ranks x.ranking) x.levels) First Following c (37 ∷ 48 ∷ []) Assignment CallStatement (sym y) refl

  module _ {t : Token} {d : Cursor} (y : (Some t, d) ≡ look_ahead x.stream.now c 0) where
    pub statement_assigns : member t.kind (37 ∷ 48 ∷ []) ≡ true → at_cursor x exprstat p ≡ Holding x First Expression Assignment d.place d.mark
    statement_assigns m = statement_begins ∙ look_in x.stream.now (ranks x.ranking) 0 (readers x.stream.now (ranks x.ranking) x.levels) First Following c (37 ∷ 48 ∷ []) Assignment CallStatement (sym y) m

    pub statement_calls : member t.kind (37 ∷ 48 ∷ []) ≡ false → at_cursor x exprstat p ≡ Holding x First Expression CallStatement d.place d.mark
    statement_calls m = statement_begins ∙ look_out x.stream.now (ranks x.ranking) 0 (readers x.stream.now (ranks x.ranking) x.levels) First Following c (37 ∷ 48 ∷ []) Assignment CallStatement (sym y) m

-- a term in a turn over targets, where `again` is the loop
abbrev pub Turn : Script → (end : ℕ) → Term → Reader
Turn x end e = read x.stream.now (ranks x.ranking) 0 (readers x.stream.now (ranks x.ranking) x.levels) (hold 0 end none) e (under x.stream.now x.ranking 0 x.levels end P.targets)

-- the fields of a table: `}`, or a field and what comes after it
abbrev pub Separated : Term
Separated = on next (48 ∷ 45 ∷ []) (any ⨾ again') (word 54)

abbrev pub Field : Term
Field = on check (54 ∷ []) (word 54) (plus 1 ⨾ field ⨾ Separated)

abbrev pub Among : Script → Term → Reader
Among x e = read x.stream.now (ranks x.ranking) 0 (readers x.stream.now (ranks x.ranking) x.levels) (hold 0 0 none) e (under x.stream.now x.ranking 0 x.levels 0 P.fields)

-- what was read of the fields, and what is left of them
abbrev pub Left : (x : Script) → Term → Place → Place → List ℕ → List ℕ → ℕ → Type 0
Left x e p p' n n' v = Going x.stream.now p.cursor.note p.cursor.place p.used 0 n n' (at_cursor x P.fields p.cursor) (Among x e) p'.cursor p'.used v

-- only the `}` is left
abbrev pub Closing : (x : Script) → Place → Place → List ℕ → List ℕ → ℕ → Type 0
Closing x p p' n n' v = Left x (word 54) p p' n n' v × (v + 2 * p.cursor.place ≤ 2 * p'.cursor.place)

module _ (x : Script) (v : ℕ) (p p' : Place) (n n' : List ℕ) (t : Turning x 0 0 P.fields p p' n n' v) {d : Cursor} where
  pub fields_close : (true, d) ≡ check_ahead x.stream.now p'.cursor 0 54 → Closing x p (record { cursor = d; used = p'.used }) n n' v
  unfolding read field
  fields_close y =
      let q = check_place x.stream.now p'.cursor 0 54 y in (
        looks t.1 (Among x (word 54)) d
            (looping x.stream.now x.ranking 0 x.levels 0 Field refl p'.cursor t.0.0.at ∙ check_in x.stream.now (ranks x.ranking) 0 (readers x.stream.now (ranks x.ranking) x.levels) (hold 0 0 none) (under x.stream.now x.ranking 0 x.levels 0 P.fields) p'.cursor 54 (word 54) (plus 1 ⨾ field ⨾ Separated) (λ z. omega arith) y refl)
            q (check_note x.stream.now p'.cursor 0 54 y),
        omega (arith, q, t.0.1),
      )

  pub fields_go_on : (false, d) ≡ check_ahead x.stream.now p'.cursor 0 54 → Left x (field ⨾ Separated) p (record { cursor = d; used = p'.used }) n n' (v + 1)
  unfolding read field
  fields_go_on y =
      let g =
      looks t.1 (Among x (plus 1 ⨾ field ⨾ Separated)) d
      (looping x.stream.now x.ranking 0 x.levels 0 Field refl p'.cursor t.0.0.at ∙ check_out x.stream.now (ranks x.ranking) 0 (readers x.stream.now (ranks x.ranking) x.levels) (hold 0 0 none) (under x.stream.now x.ranking 0 x.levels 0 P.fields) p'.cursor 54 (word 54) (plus 1 ⨾ field ⨾ Separated) (λ z. omega arith) y refl)
      (check_place x.stream.now p'.cursor 0 54 y) (check_note x.stream.now p'.cursor 0 54 y)
      in
      goes g (Among x (field ⨾ Separated)) refl (weighs n' p'.used 0 1 d g.at g.room) (omega arith)

-- a field is read there as anywhere; it was read
pub field_there : (x : Script) (c : Cursor) → Among x field c.place c.mark ≡ at_cursor x field c
unfolding read field
field_there x c = settled x.stream.now x.ranking 0 x.levels (hold 0 0 none) (under x.stream.now x.ranking 0 x.levels 0 P.fields) field refl c

pub field_read : (x : Script) (v : ℕ) (p p' : Place) (n n' : List ℕ) → Left x (field ⨾ Separated) p p' n n' v → {low : ℕ} {n₂ : List ℕ} {d : Cursor} {u : ℕ} → Fine x.stream.now p'.cursor.note low p'.used 0 n' n₂ (at_cursor x field p'.cursor) d u 0 → p'.cursor.place ≤ low
    → Left x Separated p (record { cursor = d; used = u }) n n₂ v
unfolding read
field_read x v p p' n n' g f l = revalue_going (omega arith) (goes g (Among x Separated) refl (alter (field_there x p'.cursor) f) l)
