-- What cannot be met: the default errors of 000's parse_suffix_part and parse_field_suffix, and both errors of expect_string.
-- Written out with those errors, under whatever number, each reads as it does without, wherever it is called. Assumes nothing.
use mathlib.Core.Path.{◌≡◌, refl, sym, ap, ◌∙◌}
use mathlib.Core.List.{List, [], ◌∷◌}
use mathlib.Core.Bool.{Bool, true, false}
use Prim.Native.Nat.{ℕ}
use lib.Dec.{eqb}
use borrow.Author.Tests.{eqb-true, eq-eqb}
use Rattle.stream.specs.Kinds.{String, Dot, LeftBracket, Colon, LeftParen, LeftBrace, RightBracket}
use Rattle.stream.specs.Words.{kind}
use Rattle.stream.specs.Reader.{reached}
use Rattle.stream.proofs.Reading.{reached_twice}
use Rattle.operators.specs.Ranks.{Ranks}
use Rattle.grammar.specs.Member.{member}
use Rattle.grammar.specs.Term.{Term, next, unlined, here, ◌⇒◌∣◌, expect, any, weigh, ◌⨾◌, on, refuse, node}
use Rattle.grammar.specs.Reading.{Reader, Readers, Held, read}
use Rattle.grammar.specs.Productions.{named, word, expr, args, suffix}
use Rattle.grammar.specs.Grammar.{Among, first_suffix}
use Rattle.grammar.proofs.Tests.{wrong, or_elim, yes_case, no_case}
use Rattle.grammar.proofs.Sets.{known}

-- parse_field_suffix, with its default error
abbrev pub field_suffix : ℕ → Term
field_suffix error =
    Dot ⇒ node 32 here unlined (any ⨾ named ⨾ weigh)
    ∣ LeftBracket ⇒ node 33 here unlined (any ⨾ expr ⨾ word RightBracket)
    ∣ refuse error

-- parse_call_suffix
abbrev pub call_suffix : Term
call_suffix = Colon ⇒ node 35 here unlined (any ⨾ named ⨾ weigh ⨾ args 0) ∣ node 34 here unlined (args 1)

-- parse_suffix_part, with its default error
abbrev pub suffix_part : ℕ → ℕ → Term
suffix_part error error' =
    on next (Dot ∷ LeftBracket ∷ []) (field_suffix error)
    (on next (Colon ∷ LeftParen ∷ LeftBrace ∷ String ∷ []) call_suffix (refuse error'))

module _ (s : List ℕ) (rank : Ranks) (limit : ℕ) (R : Readers) (h : Held) (A : Reader) (p : ℕ) where
  -- two terms read alike at p, once the token there was looked at
  pub record Alike-at (e f : Term) : Type 0 where
    pub alike : (m : ℕ) → read s rank limit R h e A p (reached s m p 2) ≡ read s rank limit R h f A p (reached s m p 2)

  itself : {e : Term} → Alike-at e e
  itself = record { alike = λ m. refl }

  through : {e f g : Term} → Alike-at e g → Alike-at f g → Alike-at e f
  through x y = record { alike = λ m. x.alike m ∙ sym (y.alike m) }

  -- a token of kind k stands there
  module _ (k : ℕ) (is : kind s p ≡ k) (real : eqb k 59 ≡ false) where
    yes : {a b f : Term} {ks : List ℕ} → member k ks ≡ true → Alike-at a f → Alike-at (on next ks a b) f
    unfolding read
    yes {a} {ks = ks} y x = record { alike = λ m. no_case _ _ _ (ap (λ z. eqb z 59) is ∙ real) ∙ yes_case _ _ _ (known ks is y) ∙ ap (read s rank limit R h a A p) (reached_twice s m p 2) ∙ x.alike m }

    no : {a b f : Term} {ks : List ℕ} → member k ks ≡ false → Alike-at b f → Alike-at (on next ks a b) f
    unfolding read
    no {b = b} {ks = ks} y x = record { alike = λ m. no_case _ _ _ (ap (λ z. eqb z 59) is ∙ real) ∙ no_case _ _ _ (known ks is y) ∙ ap (read s rank limit R h b A p) (reached_twice s m p 2) ∙ x.alike m }

  -- a token that begins a suffix is of one of six kinds
  six : {B : Type 0} → Among s first_suffix p → (kind s p ≡ Dot → B) → (kind s p ≡ LeftBracket → B) → (kind s p ≡ Colon → B)
      → (kind s p ≡ LeftParen → B) → (kind s p ≡ LeftBrace → B) → (kind s p ≡ String → B) → B
  six h a b c d e f =
      or_elim _ _ h (λ x. a (eqb-true _ _ x))
      (λ h. or_elim _ _ h (λ x. b (eqb-true _ _ x))
      (λ h. or_elim _ _ h (λ x. c (eqb-true _ _ x))
      (λ h. or_elim _ _ h (λ x. d (eqb-true _ _ x))
      (λ h. or_elim _ _ h (λ x. e (eqb-true _ _ x))
      (λ h. or_elim _ _ h (λ x. f (eqb-true _ _ x)) (λ x. wrong x))))))

  -- parse_suffix_part is called where a suffix begins, and parse_field_suffix where a '.' or a '[' does
  pub unmet_suffix : (error error' : ℕ) → Among s first_suffix p → Alike-at (suffix_part error error') suffix
  unfolding suffix
  unmet_suffix error error' h =
      six h
      (λ x. through (yes Dot x refl refl (yes Dot x refl refl itself)) (yes Dot x refl refl itself))
      (λ x. through (yes LeftBracket x refl refl (no LeftBracket x refl refl (yes LeftBracket x refl refl itself))) (no LeftBracket x refl refl (yes LeftBracket x refl refl itself)))
      (λ x. through (no Colon x refl refl (yes Colon x refl refl (yes Colon x refl refl itself))) (no Colon x refl refl (no Colon x refl refl (yes Colon x refl refl itself))))
      (called LeftParen refl refl refl refl refl refl)
      (called LeftBrace refl refl refl refl refl refl)
      (called String refl refl refl refl refl refl)
    where
      called : (k : ℕ) → eqb k 59 ≡ false → member k (Dot ∷ LeftBracket ∷ []) ≡ false → member k (Colon ∷ LeftParen ∷ LeftBrace ∷ String ∷ []) ≡ true → member k (Colon ∷ []) ≡ false
          → member k (Dot ∷ []) ≡ false → member k (LeftBracket ∷ []) ≡ false → kind s p ≡ k → Alike-at (suffix_part error error') suffix
      called k r a b c d e x = through (no k x r a (yes k x r b (no k x r c itself))) (no k x r d (no k x r e (no k x r c itself)))

  -- expect_string is called where a string stands
  pub unmet_string : (error : ℕ) (own : Bool) → kind s p ≡ String → (m : ℕ) → read s rank limit R h (expect String error own) A p m ≡ read s rank limit R h any A p m
  unfolding read
  unmet_string error own x m = yes_case _ _ _ (eq-eqb _ _ x) ∙ sym (no_case _ _ _ (ap (λ z. eqb z 59) x))
