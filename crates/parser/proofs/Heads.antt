-- The unary operators before an expression, and the binary ones after it, as the descent asks for them. Assumes nothing.
use mathlib.Core.Path.{◌≡◌, refl, sym, ap, ◌∙◌}
use mathlib.Core.Bool.{Bool, true, false, ◌||◌}
use mathlib.Core.List.{List, [], ◌∷◌}
use mathlib.Core.Logic.{by_cases}
use Prim.Native.Nat.{ℕ, ◌≤◌, ◌<◌}
use native.Mathlib.Decide.{ℕ_discrete}
use native.Mathlib.Omega.{arith}
use lib.Dec.{ltb, eqb}
use Rattle.std.specs.Prelude.{Option, Some, None, Ok}
use borrow.Author.Tests.{lt-ltb, le-ltb, ne_eqb, eqb-true}
use Rattle.stream.specs.Reader.{get_next, look_ahead}
use Rattle.stream.specs.declared.reader.Cursor.{Cursor}
use Rattle.stream.specs.declared.reader.Token.{Token}
use Rattle.operators.specs.Ranks.{Ranks, ranks, binary, find, row, operator, unary_operator, binary_operator}
use Rattle.operators.specs.Ranks.{Row as Row'}
use Rattle.operators.specs.declared.Ranking.{Ranking}
use Rattle.operators.specs.declared.Ranking.TheVariants.{Crate, Manual}
use Rattle.operators.proofs.Laws.{find_later, rule, binary_left}
use Rattle.grammar.specs.Term.{Term, here, unlined, any, plus, exp, ◌⨾◌, operator as operator', node}
use Rattle.grammar.specs.Reading.{Out, Reader, Readers, Held, read}
use Rattle.grammar.specs.Productions.{simple, head}
use Rattle.grammar.proofs.Tests.{yes_case, no_case}
use Rattle.parser.proofs.Steps.{saw, ran_out}
use Rattle.parser.proofs.Looks.{Row, pick, by_kind, by_others}

-- a lookup does not say two things
differ : {A : Type 0} (x : Option ℕ) (c : ℕ) → x ≡ Some c → x ≡ None → A
differ x c e f = let z : ◌≡◌ {A = ℕ} 0 1 = cc in absurd (omega arith)

same : (x : Option ℕ) (b c : ℕ) → x ≡ Some b → x ≡ Some c → b ≡ c
same x b c e f = cc

-- what it says of the four operators, and of all else
one_of : (k a c : ℕ) → k ≡ a → unary_operator a ≡ Some c → unary_operator k ≡ Some c
one_of k a c q e = ap unary_operator q ∙ e

not : unary_operator 13 ≡ Some 0
unfolding unary_operator find
not = refl

minus : unary_operator 22 ≡ Some 1
unfolding unary_operator find
minus = refl

bits : unary_operator 30 ≡ Some 2
unfolding unary_operator find
bits = refl

len : unary_operator 29 ≡ Some 3
unfolding unary_operator find
len = refl

not_any : (k : ℕ) → (k ≡ 13 → ⊥) → (k ≡ 22 → ⊥) → (k ≡ 30 → ⊥) → (k ≡ 29 → ⊥) → unary_operator k ≡ None
unfolding unary_operator find
not_any k a b c d =
    ap operator
    (find_later k (row 13 0 12 12) (row 22 1 12 12 ∷ row 30 2 12 12 ∷ row 29 3 12 12 ∷ []) a ∙ find_later k (row 22 1 12 12) (row 30 2 12 12 ∷ row 29 3 12 12 ∷ []) b
    ∙ find_later k (row 30 2 12 12) (row 29 3 12 12 ∷ []) c ∙ find_later k (row 29 3 12 12) [] d)

-- the head of an expression, by what the lookup says of the token that was got
module _ (s : List ℕ) (rank : Ranks) (limit : ℕ) (R : Readers) (h : Held) (A : Reader) (c : Cursor) {t : Token} {d : Cursor} (x : get_next s c ≡ (Ok t, d)) where
  abbrev From : Cursor → Term → Out
  From d e = read s rank limit R h e A d.place d.mark

  abbrev Unary : ℕ → Term
  Unary op = node 18 here unlined (any ⨾ plus op ⨾ exp 12)

  abbrev Rows : List Row
  Rows = (22, Unary 1) ∷ (30, Unary 2) ∷ (29, Unary 3) ∷ []

  pub head_in : (op : ℕ) → unary_operator t.kind ≡ Some op → From c head ≡ From d (Unary op)
  unfolding head
  head_in op e =
      by_cases (ℕ_discrete t.kind 13) (this 13 0 not refl)
      (λ n0. by_cases (ℕ_discrete t.kind 22) (this 22 1 minus refl)
      (λ n1. by_cases (ℕ_discrete t.kind 30) (this 30 2 bits refl)
      (λ n2. by_cases (ℕ_discrete t.kind 29) (this 29 3 len refl)
      (λ n3. differ _ op e (not_any _ n0 n1 n2 n3)))))
    where
      this : (k code : ℕ) → unary_operator k ≡ Some code → pick ((13, Unary 0) ∷ Rows) simple k ≡ Unary code → t.kind ≡ k → From c head ≡ From d (Unary op)
      this k code f p q = by_kind s rank limit R h A c (13, Unary 0) Rows simple x q ∙ ap (From d) (p ∙ ap Unary (same _ _ _ (one_of _ _ _ q f) e))

  pub head_out : unary_operator t.kind ≡ None → From c head ≡ From d simple
  unfolding head
  head_out e = by_others s rank limit R h A c (13, Unary 0) Rows simple x (no 13 0 not) (no 22 1 minus) (no 30 2 bits) (no 29 3 len)
    where
      no : (k code : ℕ) → unary_operator k ≡ Some code → t.kind ≡ k → ⊥
      no k code f q = differ _ _ (one_of _ _ _ q f) e

-- a choice by the rank of the next token
module _ (s : List ℕ) (rank : Ranks) (limit : ℕ) (R : Readers) (h : Held) (A : Reader) (c : Cursor) (a b : Term) where
  abbrev Chosen : Cursor → Term → Type 0
  Chosen d e = read s rank limit R h (operator' a b) A c.place c.mark ≡ read s rank limit R h e A d.place d.mark

  pub operator_in : {t : Token} {d : Cursor} → look_ahead s c 0 ≡ (Some t, d) → limit < rank.left t.kind → Chosen d a
  unfolding read
  operator_in x y =
      let g = saw s c x in
      yes_case _ _ _ (sym (ap (λ (z : Token). ltb limit (rank.left z.kind)) g.token) ∙ lt-ltb _ _ y) ∙ sym (ap (λ (z : Cursor). read s rank limit R h a A z.place z.mark) g.cursor)

  pub operator_out : {t : Token} {d : Cursor} → look_ahead s c 0 ≡ (Some t, d) → rank.left t.kind ≤ limit → Chosen d b
  unfolding read
  operator_out x y =
      let g = saw s c x in
      no_case _ _ _ (sym (ap (λ (z : Token). ltb limit (rank.left z.kind)) g.token) ∙ le-ltb _ _ y) ∙ sym (ap (λ (z : Cursor). read s rank limit R h b A z.place z.mark) g.cursor)

  pub operator_end : {d : Cursor} → look_ahead s c 0 ≡ (None, d) → rank.left 59 ≡ 0 → Chosen d b
  unfolding read
  operator_end x y =
      let g = ran_out s c x in
      no_case _ _ _ (ap (λ (z : ℕ). ltb limit (rank.left z)) g.end ∙ le-ltb limit (rank.left 59) (omega (arith, y))) ∙ sym (ap (λ (z : Cursor). read s rank limit R h b A z.place z.mark) g.cursor)

-- a binary operator has a right rank: what it holds is an operand
abbrev Sided : Row' → Row' → Bool
Sided x y = ltb 0 x.right || eqb x.left 0

sides : (g : Ranking) (k : ℕ) → (ltb 0 ((ranks g).right k) || eqb ((ranks g).left k) 0) ≡ true
sides Crate k = rule Sided k (binary 10) (binary 10) refl refl
sides Manual k = rule Sided k (binary 3) (binary 3) refl refl

pub binary_right : (g : Ranking) (k c : ℕ) → binary_operator k ≡ Some c → eqb ((ranks g).right k) 0 ≡ false
binary_right g k c e = ne_eqb ((ranks g).right k) 0 (λ q. none (eqb-true ((ranks g).left k) 0 (sym (ap (λ (z : ℕ). ltb 0 z || eqb ((ranks g).left k) 0) q) ∙ sides g k)))
  where
    none : (ranks g).left k ≡ 0 → ⊥
    none z = omega (arith, z, binary_left g k c e)
