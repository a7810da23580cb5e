-- Answers without their trees, and the tails of an expression so. Assumes nothing.
use mathlib.Core.Path.{◌≡◌, refl, sym, ap, ◌∙◌, subst}
use mathlib.Core.List.{List}
use mathlib.Core.Bool.{Bool, true, false}
use Prim.Native.Nat.{ℕ, suc, ◌+◌, ◌-◌, ◌≤◌, ◌<◌}
use native.Mathlib.Omega.{arith}
use lib.ListN.{length}
use lib.Dec.{eqb, ltb}
use borrow.Author.Tests.{eqb-false}
use Rattle.stream.specs.Reader.{reached}
use Rattle.stream.specs.Words.{kind}
use Rattle.stream.specs.declared.reader.Refusal.{Refusal}
use Rattle.stream.proofs.Reading.{reached_twice}
use Rattle.operators.specs.Ranks.{Ranks, code}
use Rattle.tree.specs.Forest.{Forest, none}
use Rattle.grammar.specs.Term.{Line, unlined}
use Rattle.grammar.specs.Reading.{hold}
use Rattle.grammar.specs.Reading.{Out, fine, fail, Reader, Readers, ended, add, then, wrap, loop, read}
use Rattle.grammar.specs.Productions.{tail}
use Rattle.grammar.proofs.Sound.{Fits}
use Rattle.grammar.proofs.Tests.{yes_case, no_case}
use Rattle.grammar.proofs.Forward.{inside, Step}

pub data Bare : Type 0 where
  at : (p m : ℕ) → Bare
  stop : Refusal → Bare

abbrev pub bare : Out → Bare
bare (fine p m t v) = at p m
bare (fail e) = stop e

abbrev pub bind : Bare → (ℕ → ℕ → Bare) → Bare
bind (at p m) f = f p m
bind (stop e) f = stop e

pub bind_assoc : (a : Bare) (f g : ℕ → ℕ → Bare) → bind (bind a f) g ≡ bind a (λ q n. bind (f q n) g)
bind_assoc (at p m) f g = refl
bind_assoc (stop e) f g = refl

pub bind_cong : (a : Bare) (f g : ℕ → ℕ → Bare) → ((q n : ℕ) → f q n ≡ g q n) → bind a f ≡ bind a g
bind_cong (at p m) f g h = h p m
bind_cong (stop e) f g h = refl

pub bare_add : (t : Forest) (v : ℕ) (o : Out) → bare (add t v o) ≡ bare o
bare_add t v (fine q m u w) = refl
bare_add t v (fail e) = refl

pub bare_then : (a : Out) (f : Reader) → bare (then a f) ≡ bind (bare a) (λ q n. bare (f q n))
bare_then (fine q m t v) f = bare_add t v (f q m)
bare_then (fail e) f = refl

pub bare_wrap : (s : List ℕ) (tag : ℕ) (l : Line) (i : ℕ) (a : Out) → bare (wrap s tag l i a) ≡ bare a
bare_wrap s tag l i (fine q m t v) = refl
bare_wrap s tag l i (fail e) = refl

-- the first is a refusal 5, or they are the same
pub data Lower : Bare → Bare → Type 0 where
  alike : {b : Bare} → Lower b b
  deep : {e : Refusal} {b : Bare} → e.number ≡ 5 → Lower (stop e) b

pub lower_eq : {a b : Bare} → a ≡ b → Lower a b
lower_eq {a} h = subst (Lower a) h alike

pub lower_trans : {a b c : Bare} → Lower a b → Lower b c → Lower a c
lower_trans alike y = y
lower_trans (deep h) y = deep h

pub lower_bind : {a b : Bare} (f : ℕ → ℕ → Bare) → Lower a b → Lower (bind a f) (bind b f)
lower_bind f alike = alike
lower_bind f (deep h) = deep h

-- what is read ends after i, within the stream
abbrev pub Ahead : List ℕ → ℕ → Bare → Type 0
Ahead s i (at q n) = (i < q) × (q ≤ length s)
Ahead s i (stop e) = Unit

pub ahead_fits : (s : List ℕ) (i : ℕ) (o : Out) → Fits (λ j t v. Step s i j) o → Ahead s i (bare o)
ahead_fits s i (fine q m t v) h = (h.rises, h.within)
ahead_fits s i (fail e) h = tt

pub bind_lower : (s : List ℕ) (i : ℕ) (a : Bare) (f g : ℕ → ℕ → Bare) → Ahead s i a → ((q n : ℕ) → i < q → q ≤ length s → Lower (f q n) (g q n)) → Lower (bind a f) (bind a g)
bind_lower s i (at p m) f g h k = k p m h.0 h.1
bind_lower s i (stop e) f g h k = alike

pub bind_eq : (s : List ℕ) (i : ℕ) (a : Bare) (f g : ℕ → ℕ → Bare) → Ahead s i a → ((q n : ℕ) → i < q → q ≤ length s → f q n ≡ g q n) → bind a f ≡ bind a g
bind_eq s i (at p m) f g h k = k p m h.0 h.1
bind_eq s i (stop e) f g h k = refl

-- the token at p is taken
abbrev pub take : List ℕ → ℕ → ℕ → Out
take s p m = elim (eqb (kind s p) 59) [ true ↦ ended s (reached s m p 2) 0 | false ↦ fine (p + 1) (reached s m p 2) none 0 ]

pub take_ahead : (s : List ℕ) (p m : ℕ) → Ahead s p (bare (take s p m))
take_ahead s p m = go (eqb (kind s p) 59) refl
  where
    go : (c : Bool) → eqb (kind s p) 59 ≡ c → Ahead s p (bare (elim c as (λ z. Out) [ true ↦ ended s (reached s m p 2) 0 | false ↦ fine (p + 1) (reached s m p 2) none 0 ]))
    go true h = tt
    go false h = let i = inside s p (eqb-false (kind s p) 59 h) in (omega arith, omega arith)

module _ (s : List ℕ) (rank : Ranks) (limit : ℕ) (R : Readers) where
  -- so many tails
  abbrev pub turns : ℕ → Reader
  turns f = loop s f (read s rank limit R (hold 0 0 none) tail)

  -- one operand more, and then
  abbrev operands : (ℕ → ℕ → Bare) → ℕ → ℕ → Bare
  operands k p m = bind (bare (take s p m)) (λ q n. bind (bare (R.exps (rank.right (kind s (q - 1))) q n)) k)

  abbrev right : Reader
  right q n = add none (code (kind s (q - 1))) (R.exps (rank.right (kind s (q - 1))) q n)

  operands_are : (A : Reader) (p m : ℕ) → bare (add none 1 (then (wrap s 19 unlined p (then (take s p m) right)) A)) ≡ operands (λ q n. bare (A q n)) p m
  operands_are A p m =
      bare_add none 1 (then (wrap s 19 unlined p (then (take s p m) right)) A) ∙ bare_then (wrap s 19 unlined p (then (take s p m) right)) A
      ∙ ap (λ (z : Bare). bind z (λ q n. bare (A q n)))
      (bare_wrap s 19 unlined p (then (take s p m) right) ∙ bare_then (take s p m) right
      ∙ bind_cong (bare (take s p m)) (λ q n. bare (right q n)) (λ q n. bare (R.exps (rank.right (kind s (q - 1))) q n))
      (λ q n. bare_add none (code (kind s (q - 1))) (R.exps (rank.right (kind s (q - 1))) q n)))
      ∙ bind_assoc (bare (take s p m)) (λ q n. bare (R.exps (rank.right (kind s (q - 1))) q n)) (λ q n. bare (A q n))

  pub turn_above : (f p m : ℕ) → ltb limit (rank.left (kind s p)) ≡ true → bare (turns (suc f) p m) ≡ operands (λ q n. bare (turns f q n)) p (reached s m p 2)
  unfolding read tail
  turn_above f p m h = ap bare (yes_case _ _ _ h) ∙ operands_are (turns f) p (reached s m p 2)

  pub turn_below : (f p m : ℕ) → ltb limit (rank.left (kind s p)) ≡ false → bare (turns (suc f) p m) ≡ at p (reached s m p 2)
  unfolding read tail
  turn_below f p m h = ap bare (no_case _ _ _ h)

  -- a look more makes no difference
  pub turn_mark : (f p m : ℕ) → bare (turns (suc f) p (reached s m p 2)) ≡ bare (turns (suc f) p m)
  turn_mark f p m = go (ltb limit (rank.left (kind s p))) refl
    where
      go : (c : Bool) → ltb limit (rank.left (kind s p)) ≡ c → bare (turns (suc f) p (reached s m p 2)) ≡ bare (turns (suc f) p m)
      go true h = turn_above f p (reached s m p 2) h ∙ ap (operands (λ q n. bare (turns f q n)) p) (reached_twice s m p 2) ∙ sym (turn_above f p m h)
      go false h = turn_below f p (reached s m p 2) h ∙ ap (at p) (reached_twice s m p 2) ∙ sym (turn_below f p m h)
