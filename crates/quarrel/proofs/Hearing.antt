-- One operator more: what the code notes of it is what the rule does. Assumes nothing.
use mathlib.Core.Path.{◌≡◌, sym, ap, ◌∙◌}
use mathlib.Core.Bool.{Bool, true, false}
use Prim.Native.Nat.{ℕ}
use lib.Dec.{eqb}
use borrow.Author.Tests.{ne_eqb}
use Rattle.std.specs.Prelude.{Some}
use Rattle.stream.specs.Kinds.{And, Or, Minus, Add, BitNotXor, BitAnd, BitOr, ShiftRight, ShiftLeft, Concat, LessThan, LessEqual, GreaterThan, GreaterEqual, Equal, NotEqual}
use Rattle.stream.specs.declared.reader.Note.{Note}
use Rattle.grammar.specs.Member.{member}
use Rattle.grammar.proofs.Tests.{no_case}
use Rattle.grammar.proofs.Among.{nor}
use Rattle.quarrel.specs.Rule.{cuts, firsts, seconds}
use Rattle.quarrel.specs.Notes.{note, earlier, hears}

-- a `~=` after one of the firsts, and after none
module _ (n : Note) (p : ℕ) where
  pub unequal_in : n.heard ≡ true → note n.heard (Some p) (earlier n.found (Some p)) ≡ hears n NotEqual p
  unfolding hears
  unequal_in e = ap (λ (z : Bool). note n.heard (Some p) (elim z [ true ↦ earlier n.found (Some p) | false ↦ n.found ])) (sym e)

  pub unequal_out : n.heard ≡ false → note n.heard (Some p) n.found ≡ hears n NotEqual p
  unfolding hears
  unequal_out e = ap (λ (z : Bool). note n.heard (Some p) (elim z [ true ↦ earlier n.found (Some p) | false ↦ n.found ])) (sym e)

-- an operator of a kind that is known
pub of_kind : (n : Note) {k j : ℕ} (p : ℕ) {r : Note} → k ≡ j → r ≡ hears n j p → r ≡ hears n k p
of_kind n p e q = q ∙ sym (ap (λ (z : ℕ). hears n z p) e)

-- any other operator
plain : (n : Note) (k p : ℕ) → member k cuts ≡ false → eqb k NotEqual ≡ false → member k firsts ≡ false → member k seconds ≡ false → hears n k p ≡ n
unfolding hears
plain n k p a b c d = no_case (member k cuts) _ _ a ∙ no_case (eqb k NotEqual) _ _ b ∙ no_case (member k firsts) _ _ c ∙ no_case (member k seconds) _ _ d

pub of_none : (n : Note) (k p : ℕ) → (k ≡ And → ⊥) → (k ≡ Or → ⊥) → (k ≡ Equal → ⊥) → (k ≡ LessThan → ⊥) → (k ≡ LessEqual → ⊥) → (k ≡ GreaterThan → ⊥) → (k ≡ GreaterEqual → ⊥) → (k ≡ NotEqual → ⊥)
    → (k ≡ BitOr → ⊥) → (k ≡ BitNotXor → ⊥) → (k ≡ BitAnd → ⊥) → (k ≡ ShiftLeft → ⊥) → (k ≡ ShiftRight → ⊥) → (k ≡ Concat → ⊥) → (k ≡ Add → ⊥) → (k ≡ Minus → ⊥) → n ≡ hears n k p
of_none n k p and or eq lt le gt ge ne bo bx ba sl sr co add minus =
    sym (plain n k p (nor k cuts and or) (ne_eqb k NotEqual ne) (nor k firsts eq lt le gt ge bo bx ba sl sr co) (nor k seconds bo bx ba sl sr co add minus))
