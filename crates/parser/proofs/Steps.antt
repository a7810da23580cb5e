-- 000's reader: what its answers say of the stream, and that the terms read the same. Assumes nothing.
use mathlib.Core.Path.{◌≡◌, refl, sym, ap, ◌∙◌}
use mathlib.Core.List.{List, [], ◌∷◌}
use mathlib.Core.Bool.{Bool, true, false, ◌||◌}
use mathlib.Core.Logic.{by_cases}
use Prim.Native.Nat.{ℕ, ◌+◌}
use native.Mathlib.Decide.{ℕ_discrete}
use native.Mathlib.Nat.{add-zero}
use native.Mathlib.Omega.{arith}
use lib.Dec.{eqb}
use Rattle.std.specs.Prelude.{Option, Some, None, Result, Ok, Err}
use borrow.Author.Tests.{eq-eqb, ne_eqb, eqb-false}
use Rattle.stream.specs.Kinds.{Name}
use Rattle.stream.specs.Words.{kind, line}
use Rattle.stream.specs.Reader.{reached, read_ahead, told, token_at, expecting, passed, get_next, take_next, expect_next, expect_name, look_ahead, check_ahead}
use Rattle.stream.specs.declared.reader.Cursor.{Cursor}
use Rattle.stream.specs.declared.reader.Token.{Token}
use Rattle.stream.specs.declared.reader.Refusal.{Refusal}
use Rattle.stream.proofs.Reading.{get_end, get_token, take_end, take_token, expect_end, expect_kind, expect_other, name_end, name_kind, name_other, look_end, look_token, check_kind}
use Rattle.operators.specs.Ranks.{Ranks}
use Rattle.tree.specs.Forest.{none}
use Rattle.grammar.specs.Member.{member}
use Rattle.grammar.specs.Term.{Term, ahead, next, check, second, any, on}
use Rattle.grammar.specs.Reading.{Out, fine, fail, Reader, Readers, Held, read}
use Rattle.grammar.specs.Productions.{word, named}
use Rattle.grammar.proofs.Tests.{yes_case, no_case}

or_false : (b : Bool) → (b || false) ≡ b
or_false true = refl
or_false false = refl

abbrev pub Answer : Type 0
Answer = Result Token Refusal × Cursor

-- a token that was taken, or not
abbrev pub taken : Answer → Out
taken (Ok t, d) = fine d.place d.mark none 0
taken (Err e, d) = fail e

-- two answers that are the same; that are not
same_cursor : {r : Answer} {x y : Result Token Refusal} {d e : Cursor} → r ≡ (x, d) → r ≡ (y, e) → d ≡ e
same_cursor a b = sym (ap (λ (z : Answer). z.1) a) ∙ ap (λ (z : Answer). z.1) b

same_answer : {r : Answer} {x y : Result Token Refusal} {d e : Cursor} → r ≡ (x, d) → r ≡ (y, e) → x ≡ y
same_answer a b = sym (ap (λ (z : Answer). z.0) a) ∙ ap (λ (z : Answer). z.0) b

same_token : (t u : Token) → ◌≡◌ {A = Result Token Refusal} (Ok t) (Ok u) → t ≡ u
same_token t u e = cc e

pub never : {A : Type 0} {t : Token} {d f : Cursor} {e : Refusal} (x : Answer) → x ≡ (Ok t, d) → x ≡ (Err e, f) → A
never {t = t} {e = e} x a b = let y : ◌≡◌ {A = Result Token Refusal} (Ok t) (Err e) = same_answer a b in let z : ◌≡◌ {A = ℕ} 0 1 = cc y in absurd (omega (arith, z))

-- and so of a look
abbrev pub Looked : Type 0
Looked = Option Token × Cursor

seen_cursor : {r : Looked} {x y : Option Token} {d e : Cursor} → r ≡ (x, d) → r ≡ (y, e) → d ≡ e
seen_cursor a b = sym (ap (λ (z : Looked). z.1) a) ∙ ap (λ (z : Looked). z.1) b

seen_token : {r : Looked} (t u : Token) {d e : Cursor} → r ≡ (Some t, d) → r ≡ (Some u, e) → t ≡ u
seen_token t u a b = let y : ◌≡◌ {A = Option Token} (Some t) (Some u) = sym (ap (λ (z : Looked). z.0) a) ∙ ap (λ (z : Looked). z.0) b in cc y

unseen : {A : Type 0} {r : Looked} (t : Token) {d e : Cursor} → r ≡ (Some t, d) → r ≡ (None, e) → A
unseen t a b = let y : ◌≡◌ {A = Option Token} (Some t) None = sym (ap (λ (z : Looked). z.0) a) ∙ ap (λ (z : Looked). z.0) b in let z : ◌≡◌ {A = ℕ} 0 1 = cc y in absurd (omega (arith, z))

module _ (s : List ℕ) (c : Cursor) where
  -- a token that was got, or seen, is the one that stands there, and one stands there
  pub record Got (t : Token) (d : Cursor) : Type 0 where
    pub token : t ≡ token_at s c.place
    pub cursor : d ≡ read_ahead s c 1
    pub real : kind s c.place ≡ 59 → ⊥

  pub got : {t : Token} {d : Cursor} → get_next s c ≡ (Ok t, d) → Got t d
  got {t} {d} e =
      by_cases (ℕ_discrete (kind s c.place) 59)
      (λ q. never (get_next s c) e (get_end s c q))
      (λ n. let g = get_token s c n in record { token = same_token t _ (same_answer e g); cursor = same_cursor e g; real = n })

  pub saw : {t : Token} {d : Cursor} → look_ahead s c 0 ≡ (Some t, d) → Got t d
  saw {t} {d} e =
      by_cases (ℕ_discrete (kind s (c.place + 0)) 59)
      (λ q. unseen t e (look_end s c 0 q))
      (λ n. let g = look_token s c 0 n in let p = add-zero c.place in record { token = seen_token t _ e g ∙ ap (token_at s) p; cursor = seen_cursor e g; real = λ q. n (ap (kind s) p ∙ q) })

  -- a look that comes to the end
  pub record RanOut (d : Cursor) : Type 0 where
    pub cursor : d ≡ read_ahead s c 1
    pub end : kind s c.place ≡ 59

  pub ran_out : {d : Cursor} → look_ahead s c 0 ≡ (None, d) → RanOut d
  ran_out {d} e =
      by_cases (ℕ_discrete (kind s (c.place + 0)) 59)
      (λ q. let g = look_end s c 0 q in record { cursor = seen_cursor e g; end = ap (kind s) (sym (add-zero c.place)) ∙ q })
      (λ n. unseen _ (look_token s c 0 n) e)

  -- a look leaves the place as it was, whatever it was for
  pub check_place : (n k : ℕ) {b : Bool} {d : Cursor} → (b, d) ≡ check_ahead s c n k → d.place ≡ c.place
  unfolding check_ahead
  check_place n k e = ap (λ (z : Bool × Cursor). z.1.place) e

  pub get_place : {t : Token} {d : Cursor} → get_next s c ≡ (Ok t, d) → d.place ≡ c.place
  get_place x = ap (λ (z : Cursor). z.place) (got x).cursor

  pub look_place : {t : Token} {d : Cursor} → look_ahead s c 0 ≡ (Some t, d) → d.place ≡ c.place
  look_place x = ap (λ (z : Cursor). z.place) (saw x).cursor

  pub end_place : {d : Cursor} → look_ahead s c 0 ≡ (None, d) → d.place ≡ c.place
  end_place x = ap (λ (z : Cursor). z.place) (ran_out x).cursor

  -- and what was noted
  pub check_note : (n k : ℕ) {b : Bool} {d : Cursor} → (b, d) ≡ check_ahead s c n k → d.note ≡ c.note
  unfolding check_ahead
  check_note n k e = ap (λ (z : Bool × Cursor). z.1.note) e

  pub get_note : {t : Token} {d : Cursor} → get_next s c ≡ (Ok t, d) → d.note ≡ c.note
  get_note x = ap (λ (z : Cursor). z.note) (got x).cursor

  pub look_note : {t : Token} {d : Cursor} → look_ahead s c 0 ≡ (Some t, d) → d.note ≡ c.note
  look_note x = ap (λ (z : Cursor). z.note) (saw x).cursor

  pub end_note : {d : Cursor} → look_ahead s c 0 ≡ (None, d) → d.note ≡ c.note
  end_note x = ap (λ (z : Cursor). z.note) (ran_out x).cursor

  -- the token that a look saw, told of where it stands now
  pub saw_kind : {t : Token} {d : Cursor} → look_ahead s c 0 ≡ (Some t, d) → t.kind ≡ kind s d.place
  saw_kind x = let g = saw x in ap (λ (z : Token). z.kind) g.token ∙ sym (ap (kind s) (look_place x))

  pub got_line : {t : Token} {d : Cursor} → get_next s c ≡ (Ok t, d) → t.line ≡ line s d.place
  got_line x = let g = got x in ap (λ (z : Token). z.line) g.token ∙ sym (ap (line s) (get_place x))

  -- a token that was seen is not the end
  pub saw_real : {t : Token} {d : Cursor} → look_ahead s c 0 ≡ (Some t, d) → t.kind ≡ 59 → ⊥
  saw_real x e = let g = saw x in g.real (sym (ap (λ (z : Token). z.kind) g.token) ∙ e)

  -- a token that was taken is the one that stood there, and the next place is the one after it
  pub record Advanced (t : Token) (d : Cursor) : Type 0 where
    pub token : t ≡ token_at s c.place
    pub place : d.place ≡ c.place + 1
    pub note : d.note ≡ c.note
    pub real : kind s c.place ≡ 59 → ⊥

  advanced : {t : Token} {d : Cursor} (x : Answer) → x ≡ (Ok t, d) → x ≡ (Ok (token_at s c.place), passed (read_ahead s c 1)) → (kind s c.place ≡ 59 → ⊥) → Advanced t d
  advanced {t} x e f n = let q = same_cursor e f in record { token = same_token t _ (same_answer e f); place = ap (λ (z : Cursor). z.place) q; note = ap (λ (z : Cursor). z.note) q; real = n }

  pub took_next : {t : Token} {d : Cursor} → take_next s c ≡ (Ok t, d) → Advanced t d
  took_next x = by_cases (ℕ_discrete (kind s c.place) 59) (λ q. never (take_next s c) x (take_end s c q)) (λ n. advanced (take_next s c) x (take_token s c n) n)

  pub took_kind : {t : Token} {d : Cursor} (k : ℕ) → expect_next s c k ≡ (Ok t, d) → Advanced t d
  took_kind k x =
      by_cases (ℕ_discrete (kind s c.place) 59) (λ q. never (expect_next s c k) x (expect_end s c k q))
      (λ n. by_cases (ℕ_discrete (kind s c.place) k) (λ y. advanced (expect_next s c k) x (expect_kind s c k n y) n) (λ y. never (expect_next s c k) x (expect_other s c k n y)))

  pub took_name : {t : Token} {d : Cursor} → expect_name s c ≡ (Ok t, d) → Advanced t d
  took_name x =
      by_cases (ℕ_discrete (kind s c.place) 59) (λ q. never (expect_name s c) x (name_end s c q))
      (λ n. by_cases (ℕ_discrete (kind s c.place) Name) (λ y. advanced (expect_name s c) x (name_kind s c y) n) (λ y. never (expect_name s c) x (name_other s c n y)))

module _ (s : List ℕ) (rank : Ranks) (limit : ℕ) (R : Readers) (h : Held) (A : Reader) (c : Cursor) where
  abbrev From : Cursor → Term → Out
  From d e = read s rank limit R h e A d.place d.mark

  -- the terms for one token read what the reader answers: a token of a kind; any token; a name
  pub word_is : (k : ℕ) → eqb k 59 ≡ false → expecting k ≡ k + 1 → From c (word k) ≡ taken (expect_next s c k)
  unfolding read
  word_is k r x =
      by_cases (ℕ_discrete (kind s c.place) 59)
      (λ q. no_case _ _ _ (ne_eqb _ _ (λ y. eqb-false k 59 r (sym y ∙ q))) ∙ yes_case _ _ _ (eq-eqb _ _ q)
      ∙ ap (λ (z : ℕ). fail (record { number = 2; line = told s (reached s c.mark c.place 2); found = 0; expected = z })) (sym x) ∙ sym (ap taken (expect_end s c k q)))
      (λ n. by_cases (ℕ_discrete (kind s c.place) k)
      (λ y. yes_case _ _ _ (eq-eqb _ _ y) ∙ sym (ap taken (expect_kind s c k n y)))
      (λ y. no_case _ _ _ (ne_eqb _ _ y) ∙ no_case _ _ _ (ne_eqb _ _ n)
      ∙ ap (λ (z : ℕ). fail (record { number = 1; line = line s c.place; found = c.place; expected = z })) (sym x) ∙ sym (ap taken (expect_other s c k n y))))

  pub any_is : From c any ≡ taken (take_next s c)
  unfolding read
  any_is =
      by_cases (ℕ_discrete (kind s c.place) 59)
      (λ q. yes_case _ _ _ (eq-eqb _ _ q) ∙ sym (ap taken (take_end s c q)))
      (λ n. no_case _ _ _ (ne_eqb _ _ n) ∙ sym (ap taken (take_token s c n)))

  pub name_is : From c named ≡ taken (expect_name s c)
  unfolding read
  name_is =
      by_cases (ℕ_discrete (kind s c.place) 59)
      (λ q. no_case _ _ _ (ne_eqb _ _ (λ y. omega (arith, sym y ∙ q))) ∙ yes_case _ _ _ (eq-eqb _ _ q) ∙ sym (ap taken (name_end s c q)))
      (λ n. by_cases (ℕ_discrete (kind s c.place) Name)
      (λ y. yes_case _ _ _ (eq-eqb _ _ y) ∙ sym (ap taken (name_kind s c y)))
      (λ y. no_case _ _ _ (ne_eqb _ _ y) ∙ no_case _ _ _ (ne_eqb _ _ n) ∙ sym (ap taken (name_other s c n y))))

  -- a choice is made by the kind of the token that was seen, and goes on at the cursor that the look gave
  abbrev Pick : Bool → Cursor → Term → Term → Out
  Pick x d a b = elim x as (λ z. Out) [ true ↦ From d a | false ↦ From d b ]

  module _ (ks : List ℕ) (a b : Term) where
    seen : {t : Token} {d : Cursor} → Got s c t d → Pick (member (kind s c.place) ks) (read_ahead s c 1) a b ≡ Pick (member t.kind ks) d a b
    seen {d = d} g = ap (λ (z : Cursor). Pick (member (kind s c.place) ks) z a b) (sym g.cursor) ∙ ap (λ (z : Token). Pick (member z.kind ks) d a b) (sym g.token)

    -- the next token, which must be there
    pub next_fail : {e : Refusal} {d : Cursor} → get_next s c ≡ (Err e, d) → From c (on next ks a b) ≡ fail e
    unfolding read
    next_fail {e} x =
        by_cases (ℕ_discrete (kind s c.place) 59)
        (λ q. let g = get_end s c q in yes_case _ _ _ (eq-eqb _ _ q) ∙ ap taken (sym g ∙ x))
        (λ n. never (get_next s c) (get_token s c n) x)

    module _ {t : Token} {d : Cursor} (x : get_next s c ≡ (Ok t, d)) where
      pub next_is : From c (on next ks a b) ≡ Pick (member t.kind ks) d a b
      unfolding read
      next_is = let g = got s c x in no_case _ _ _ (ne_eqb _ _ g.real) ∙ seen g

      pub next_in : member t.kind ks ≡ true → From c (on next ks a b) ≡ From d a
      next_in y = next_is ∙ yes_case _ _ _ y

      pub next_out : member t.kind ks ≡ false → From c (on next ks a b) ≡ From d b
      next_out y = next_is ∙ no_case _ _ _ y

    -- the next token, or the end
    module _ {t : Token} {d : Cursor} (x : look_ahead s c 0 ≡ (Some t, d)) where
      look_is : From c (on ahead ks a b) ≡ Pick (member t.kind ks) d a b
      unfolding read
      look_is = seen (saw s c x)

      pub look_in : member t.kind ks ≡ true → From c (on ahead ks a b) ≡ From d a
      look_in y = look_is ∙ yes_case _ _ _ y

      pub look_out : member t.kind ks ≡ false → From c (on ahead ks a b) ≡ From d b
      look_out y = look_is ∙ no_case _ _ _ y

    module _ {d : Cursor} (x : look_ahead s c 0 ≡ (None, d)) where
      end_is : From c (on ahead ks a b) ≡ Pick (member 59 ks) d a b
      unfolding read
      end_is = let g = ran_out s c x in ap (λ (z : ℕ). Pick (member z ks) (read_ahead s c 1) a b) g.end ∙ ap (λ (z : Cursor). Pick (member 59 ks) z a b) (sym g.cursor)

      pub end_in : member 59 ks ≡ true → From c (on ahead ks a b) ≡ From d a
      end_in y = end_is ∙ yes_case _ _ _ y

      pub end_out : member 59 ks ≡ false → From c (on ahead ks a b) ≡ From d b
      end_out y = end_is ∙ no_case _ _ _ y

  -- whether a token of one kind comes next, or after the next
  module _ {x : Bool} {d : Cursor} (k : ℕ) (a b : Term) (real : k ≡ 59 → ⊥) where
    checked : (n p : ℕ) → c.place + n ≡ p → (x, d) ≡ check_ahead s c n k → Pick (member (kind s p) (k ∷ [])) (read_ahead s c n) a b ≡ Pick x d a b
    checked n p q e =
        ap (λ (z : Bool). Pick z (read_ahead s c n) a b) (or_false _ ∙ sym (ap (λ (z : ℕ). eqb (kind s z) k) q)) ∙ sym (ap (λ (z : Bool × Cursor). Pick z.0 z.1 a b) (e ∙ check_kind s c n k real))

    module _ (e : (x, d) ≡ check_ahead s c 0 k) where
      check_is : From c (on check (k ∷ []) a b) ≡ Pick x d a b
      unfolding read
      check_is = checked 0 c.place (add-zero c.place) e

      pub check_in : x ≡ true → From c (on check (k ∷ []) a b) ≡ From d a
      check_in y = check_is ∙ yes_case _ _ _ y

      pub check_out : x ≡ false → From c (on check (k ∷ []) a b) ≡ From d b
      check_out y = check_is ∙ no_case _ _ _ y

    module _ (e : (x, d) ≡ check_ahead s c 1 k) where
      second_is : From c (on second (k ∷ []) a b) ≡ Pick x d a b
      unfolding read
      second_is = checked 1 (c.place + 1) refl e

      pub second_in : x ≡ true → From c (on second (k ∷ []) a b) ≡ From d a
      second_in y = second_is ∙ yes_case _ _ _ y

      pub second_out : x ≡ false → From c (on second (k ∷ []) a b) ≡ From d b
      second_out y = second_is ∙ no_case _ _ _ y
