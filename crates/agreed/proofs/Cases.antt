-- The agreed reading's promise, from the promises of the two readings and of the crate reading's note: three ways to end. Assumes nothing.
use mathlib.Core.Path.{◌≡◌, refl, sym, ap, ◌∙◌}
use mathlib.Core.List.{List, [], ◌∷◌}
use mathlib.Core.Bool.{true, false}
use mathlib.Core.Logic.{◌⊎◌, inl, inr, by_cases}
use Prim.Native.Nat.{ℕ, ◌≤◌, ◌<◌}
use native.Mathlib.Decide.{ℕ_discrete}
use native.Mathlib.Omega.{arith}
use Rattle.std.specs.Prelude.{Option, Some, None}
use lib.ListN.{replicate}
use borrow.Author.Tests.{eq-eqb, ne_eqb}
use Rattle.stream.specs.Formed.{Formed}
use Rattle.operators.specs.Ranks.{ranks}
use Rattle.operators.specs.declared.Ranking.TheVariants.{Crate, Manual}
use Rattle.tree.specs.Forest.{Forest}
use Rattle.grammar.specs.Member.{member}
use Rattle.grammar.specs.Grammar.{Chunk}
use Rattle.grammar.proofs.Tests.{wrong}
use Rattle.quarrel.proofs.Trees.{quiet, differ}
use Rattle.parser.specs.declared.Answer.{Answer}
use Rattle.parser.specs.Answered.{Answered, Noted, Zeroed}
use Rattle.agreed.specs.Agreed.{Agreed, quarrelling}
use Rattle.agreed.proofs.Places.{once}
use Rattle.agreed.proofs.Readings.{accepted, declined, kept}

-- a tree was derived, and handed over or counted; none was
abbrev pub Took : Answer → Type 0
Took a = (a.number ≡ 0) ⊎ (a.number ≡ 7)

abbrev pub Left : Answer → Type 0
Left a = (a.number ≡ 0 → ⊥) × (a.number ≡ 7 → ⊥)

-- a number is 0 or 7, or neither
pub took_is : (a : Answer) → member a.number (0 ∷ 7 ∷ []) ≡ true → Took a
took_is a h = by_cases (ℕ_discrete a.number 0) (λ q. inl q) (λ n. by_cases (ℕ_discrete a.number 7) (λ q. inr q) (λ m. wrong (sym (none n m) ∙ h)))
  where
    none : (a.number ≡ 0 → ⊥) → (a.number ≡ 7 → ⊥) → member a.number (0 ∷ 7 ∷ []) ≡ false
    none n m = rw (ne_eqb _ _ n, ne_eqb _ _ m)

pub left_is : (a : Answer) → member a.number (0 ∷ 7 ∷ []) ≡ false → Left a
left_is a h = (λ q. wrong (sym h ∙ rw (eq-eqb _ _ q)), λ q. wrong (sym h ∙ rw q))

neither : (a : Answer) → Took a → Left a → ⊥
neither a (inl e) l = l.0 e
neither a (inr e) l = l.1 e

-- 0 and 7 are no numbers of refusals
not_few : (a : Answer) → Took a → (0 < a.number) × (a.number ≤ 5) → ⊥
not_few a (inl e) h = omega arith
not_few a (inr e) h = omega arith

-- one that is there is not none
some_none : {A : Type 0} {i : ℕ} → ◌≡◌ {A = Option ℕ} (Some i) None → A
some_none e = let z : ◌≡◌ {A = ℕ} 0 1 = cc e in absurd (omega (arith, z))

module _ (s : List ℕ) (n n₁ : List ℕ) (a : Answer) (A1 : Answered s Crate n n₁ a) where
  -- none quarrels: the manual's ranking derives what the crate's does, and that reading is all
  pub agree : Noted s Crate None → Agreed s n n₁ a
  agree N =
      record {
        malformed = λ p m. A1.malformed p m;
        agrees = λ t f c d k. A1.accepts t f c k;
        short = λ t f c d k. A1.short t f c k;
        differs = λ t u i f c d ne q. absurd (N.derived t f c i q.quarrelling);
        refuses = λ e f none x. A1.refuses e f none x;
        deeper = λ t e f c none x. absurd (none t (quiet s 199 c (N.derived t f c)));
      }

  -- one quarrels, so a tree was derived
  module _ (first : ℕ) (N : Noted s Crate (Some first)) (n₂ : List ℕ) (b : Answer) (A2 : Answered s Manual n₁ n₂ b) where
    -- not derived under the manual's ranking: what the manual reading tells
    pub manual_refuses : Left b → Agreed s n n₂ b
    manual_refuses l =
        record {
          malformed = λ p m. some_none (N.unformed p m);
          agrees = λ t f c d k. absurd (no f d);
          short = λ t f c d k. absurd (no f d);
          differs = λ t u i f c d ne q. absurd (no f d);
          refuses = λ e f none x. some_none (N.underived none);
          deeper = λ t e f c none x. let z = A2.refuses e f none x in (z.0, z.1 ∙ ap (λ (k : ℕ). replicate k 0) (kept s Crate A1));
        }
      where
        no : {t : Forest} → Formed s → Chunk s (ranks Manual) 199 t → ⊥
        no f d = neither b (accepted s Manual A2 f d) l

    -- derived under both: two trees
    pub quarrel : Took b → (n₃ : List ℕ) → Zeroed n n₃ → Agreed s n n₃ (quarrelling s first)
    quarrel took n₃ z =
        record {
          malformed = λ p m. some_none (N.unformed p m);
          agrees = λ t f c d k. absurd (no f c d);
          short = λ t f c d k. absurd (no f c d);
          differs = λ t u i f c d ne q. (ap (quarrelling s) (once s (N.derived t f c) q), z);
          refuses = λ e f none x. some_none (N.underived none);
          deeper = λ t e f c none x. absurd (not_few b took (declined s Manual A2 f x));
        }
      where
        no : {t : Forest} → Formed s → Chunk s (ranks Crate) 199 t → Chunk s (ranks Manual) 199 t → ⊥
        no {t} f c d = (differ s 199 c d).0 refl first (N.derived t f c).quarrelling
