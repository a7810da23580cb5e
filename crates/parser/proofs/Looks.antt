-- Looks: made twice they see the same; one token decides between several productions; taking is getting, and then taking. Assumes nothing.
use mathlib.Core.Path.{◌≡◌, refl, sym, ap, ◌∙◌, subst}
use mathlib.Core.List.{List, [], ◌∷◌}
use mathlib.Core.Bool.{Bool, true, false}
use mathlib.Core.Logic.{by_cases}
use Prim.Native.Nat.{ℕ, ◌+◌}
use native.Mathlib.Decide.{ℕ_discrete}
use native.Mathlib.Nat.{add-zero}
use lib.Dec.{eqb}
use Rattle.std.specs.Prelude.{Option, Some, None, Result, Ok, Err}
use borrow.Author.Tests.{ne_eqb}
use Rattle.stream.specs.Words.{kind}
use Rattle.stream.specs.Reader.{reached, read_ahead, token_at, passed, get_next, take_next, look_ahead}
use Rattle.stream.specs.declared.reader.Cursor.{Cursor}
use Rattle.stream.specs.declared.reader.Token.{Token}
use Rattle.stream.specs.declared.reader.Refusal.{Refusal}
use Rattle.stream.proofs.Reading.{reached_twice, get_end, get_token, take_end, take_token, look_end, look_token}
use Rattle.operators.specs.Ranks.{Ranks}
use Rattle.tree.specs.Forest.{none}
use Rattle.grammar.specs.Member.{member}
use Rattle.grammar.specs.Term.{Term, next, any, ◌⨾◌, on, refuse}
use Rattle.grammar.specs.Reading.{Out, fine, fail, Reader, Readers, Held, then, ended, read}
use Rattle.grammar.proofs.Tests.{no_case}
use Rattle.grammar.proofs.Among.{Unlike, unlike, other}
use Rattle.parser.proofs.Steps.{never, got, saw, ran_out, got_line, get_place, took_next, next_fail, next_is}

-- an answer and a cursor
abbrev answered : Result Token Refusal → Cursor → Result Token Refusal × Cursor
answered r d = (r, d)

abbrev looked_at : Option Token → Cursor → Option Token × Cursor
looked_at r d = (r, d)

module _ (s : List ℕ) where
  twice : (c : Cursor) (n : ℕ) → read_ahead s (read_ahead s c n) n ≡ read_ahead s c n
  twice c n = ap (λ (z : ℕ). record { place = c.place; mark = z; note = c.note }) (reached_twice s c.mark c.place (n + 1))

  -- what was got is got again; what was seen is seen again; and so is the end
  pub got_again : (c : Cursor) {t : Token} {d : Cursor} → get_next s c ≡ (Ok t, d) → get_next s d ≡ (Ok t, d)
  got_again c {t} {d} x =
      let g = got s c x in
      subst (λ (z : Cursor). get_next s z ≡ (Ok t, z)) (sym g.cursor)
      (get_token s (read_ahead s c 1) g.real ∙ ap (λ (z : Token). answered (Ok z) (read_ahead s (read_ahead s c 1) 1)) (sym g.token) ∙ ap (answered (Ok t)) (twice c 1))

  pub look_again : (c : Cursor) {t : Token} {d : Cursor} → look_ahead s c 0 ≡ (Some t, d) → look_ahead s d 0 ≡ (Some t, d)
  look_again c {t} {d} x =
      let g = saw s c x in
      let p = add-zero c.place in
      subst (λ (z : Cursor). look_ahead s z 0 ≡ (Some t, z)) (sym g.cursor)
      (look_token s (read_ahead s c 1) 0 (λ q. g.real (sym (ap (kind s) p) ∙ q)) ∙ ap (λ (z : Token). looked_at (Some z) (read_ahead s (read_ahead s c 1) 1)) (ap (token_at s) p ∙ sym g.token) ∙ ap (looked_at (Some t)) (twice c 1))

  pub end_again : (c : Cursor) {d : Cursor} → look_ahead s c 0 ≡ (None, d) → look_ahead s d 0 ≡ (None, d)
  end_again c {d} x =
      let g = ran_out s c x in
      subst (λ (z : Cursor). look_ahead s z 0 ≡ (None, z)) (sym g.cursor) (look_end s (read_ahead s c 1) 0 (ap (kind s) (add-zero c.place) ∙ g.end) ∙ ap (looked_at None) (twice c 1))

  -- a production that takes the next token, or chooses by it, reads the same after a look at it
  module _ (rank : Ranks) (limit : ℕ) (R : Readers) (h : Held) (A : Reader) (p m : ℕ) where
    any_again : read s rank limit R h any A p (reached s m p 2) ≡ read s rank limit R h any A p m
    unfolding read
    any_again = ap (λ (z : ℕ). elim (eqb (kind s p) 59) [ true ↦ ended s z 0 | false ↦ fine (p + 1) z none 0 ]) (reached_twice s m p 2)

    pub begins_again : (e : Term) → read s rank limit R h (any ⨾ e) A p (reached s m p 2) ≡ read s rank limit R h (any ⨾ e) A p m
    unfolding read
    begins_again e = ap (λ (z : Out). then z (read s rank limit R h e A)) any_again

    pub on_again : (ks : List ℕ) (a b : Term) → read s rank limit R h (on next ks a b) A p (reached s m p 2) ≡ read s rank limit R h (on next ks a b) A p m
    unfolding read
    on_again ks a b =
        ap (λ (z : ℕ). elim (eqb (kind s p) 59) [ true ↦ ended s z 0 | false ↦ elim (member (kind s p) ks) [ true ↦ read s rank limit R h a A p z | false ↦ read s rank limit R h b A p z ] ]) (reached_twice s m p 2)

  -- taking is getting, and then taking
  module _ (c : Cursor) where
    pub take_fails : {e : Refusal} {d : Cursor} → take_next s c ≡ (Err e, d) → get_next s c ≡ (Err e, d)
    take_fails {e} x =
        by_cases (ℕ_discrete (kind s c.place) 59)
        (λ q. get_end s c q ∙ sym (take_end s c q) ∙ x)
        (λ n. never (take_next s c) (take_token s c n) x)

    pub take_gets : {t : Token} {d : Cursor} → take_next s c ≡ (Ok t, d) → get_next s c ≡ (Ok t, read_ahead s c 1)
    take_gets {t} x = let a = took_next s c x in get_token s c a.real ∙ ap (λ (z : Token). answered (Ok z) (read_ahead s c 1)) (sym a.token)

    pub take_takes : {t : Token} {d : Cursor} → take_next s c ≡ (Ok t, d) → take_next s (read_ahead s c 1) ≡ (Ok t, d)
    take_takes {t} {d} x =
        let a = took_next s c x in
        take_token s (read_ahead s c 1) a.real ∙ ap (λ (z : Cursor). answered (Ok (token_at s c.place)) (passed z)) (twice c 1) ∙ sym (take_token s c a.real) ∙ x

  -- a refusal of the token that was got
  pub refused : (rank : Ranks) (limit : ℕ) (R : Readers) (h : Held) (A : Reader) (c : Cursor) {t : Token} {d : Cursor} (code : ℕ) → get_next s c ≡ (Ok t, d)
      → read s rank limit R h (refuse code) A d.place d.mark ≡ fail (record { number = 1; line = t.line; found = d.place; expected = code })
  unfolding read
  refused rank limit R h A c {t} {d} code x =
      let g = got s c x in
      no_case _ _ _ (ne_eqb _ _ (λ q. g.real (sym (ap (kind s) (get_place s c x)) ∙ q)))
      ∙ ap (λ (z : ℕ). fail (record { number = 1; line = z; found = d.place; expected = code })) (sym (got_line s c x))

-- one token decides between several productions, each for a kind, and one for all the others: `choice` is the term, and `pick` what it comes
-- to for a kind
abbrev pub Row : Type 0
Row = ℕ × Term

abbrev pub choice : List Row → Term → Term
choice [] e = e
choice (r ∷ rs) e = on next (r.0 ∷ []) r.1 (choice rs e)

abbrev pub pick : List Row → Term → ℕ → Term
pick [] e k = e
pick (r ∷ rs) e k = elim (member k (r.0 ∷ [])) as (λ z. Term) [ true ↦ r.1 | false ↦ pick rs e k ]

-- a kind that has no production of its own
abbrev pub kinds : List Row → List ℕ
kinds [] = []
kinds (r ∷ rs) = r.0 ∷ kinds rs

pick_other : (rs : List Row) (e : Term) (k : ℕ) → Unlike k (kinds rs) (pick rs e k ≡ e)
pick_other [] e k = refl
pick_other (r ∷ rs) e k = λ n. unlike k (kinds rs) (λ q. ap (λ (z : Bool). elim z as (λ z. Term) [ true ↦ r.1 | false ↦ pick rs e k ]) (other n) ∙ q) (pick_other rs e k)

module _ (s : List ℕ) (rank : Ranks) (limit : ℕ) (R : Readers) (h : Held) (A : Reader) where
  abbrev From : Cursor → Term → Out
  From d e = read s rank limit R h e A d.place d.mark

  picked : (d : Cursor) (x : Bool) (a b b' : Term) → From d b ≡ From d b' → elim x as (λ z. Out) [ true ↦ From d a | false ↦ From d b ] ≡ From d (elim x as (λ z. Term) [ true ↦ a | false ↦ b' ])
  picked d true a b b' e = refl
  picked d false a b b' e = e

  chosen : (c : Cursor) {t : Token} {d : Cursor} → get_next s c ≡ (Ok t, d) → (r : Row) (rs : List Row) (e : Term) → From c (choice (r ∷ rs) e) ≡ From d (pick (r ∷ rs) e t.kind)
  chosen c {t} {d} x r [] e = next_is s rank limit R h A c (r.0 ∷ []) r.1 e x ∙ picked d (member t.kind (r.0 ∷ [])) r.1 e e refl
  chosen c {t} {d} x r (r' ∷ rs) e =
      next_is s rank limit R h A c (r.0 ∷ []) r.1 (choice (r' ∷ rs) e) x
      ∙ picked d (member t.kind (r.0 ∷ [])) r.1 (choice (r' ∷ rs) e) (pick (r' ∷ rs) e t.kind) (chosen d (got_again s c x) r' rs e)

  -- there is no token; it is of a kind that has a production of its own; it is of none of them
  pub by_none : (c : Cursor) (r : Row) (rs : List Row) (e : Term) {f : Refusal} {d : Cursor} → get_next s c ≡ (Err f, d) → From c (choice (r ∷ rs) e) ≡ fail f
  by_none c r rs e x = next_fail s rank limit R h A c (r.0 ∷ []) r.1 (choice rs e) x

  module _ (c : Cursor) (r : Row) (rs : List Row) (e : Term) {t : Token} {d : Cursor} (x : get_next s c ≡ (Ok t, d)) where
    pub by_kind : {k : ℕ} → t.kind ≡ k → From c (choice (r ∷ rs) e) ≡ From d (pick (r ∷ rs) e k)
    by_kind q = chosen c x r rs e ∙ ap (λ (z : ℕ). From d (pick (r ∷ rs) e z)) q

    pub by_others : Unlike t.kind (kinds (r ∷ rs)) (From c (choice (r ∷ rs) e) ≡ From d e)
    by_others = unlike t.kind (kinds (r ∷ rs)) (λ q. chosen c x r rs e ∙ ap (From d) q) (pick_other (r ∷ rs) e t.kind)
