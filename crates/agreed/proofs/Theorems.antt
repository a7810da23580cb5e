-- The theorems of the agreed reading: what it hands over; that the manual's ranking refuses what the crate's derives for its depth alone;
-- that the two accept and refuse the same where neither meets its depth. Assumes nothing.
use mathlib.Core.Path.{◌≡◌, refl, sym, ap, ◌∙◌, subst}
use mathlib.Core.List.{List, ◌++◌}
use mathlib.Core.Logic.{◌↔◌, ◌⊎◌, inl, inr}
use Prim.Native.Nat.{ℕ, ◌*◌, ◌≤◌, ◌<◌}
use native.Mathlib.Omega.{arith}
use lib.ListN.{length, drop}
use Rattle.stream.specs.Formed.{Formed, Malformed}
use Rattle.stream.specs.declared.reader.Refusal.{Refusal}
use Rattle.stream.proofs.Judged.{formed_or_not}
use Rattle.operators.specs.Ranks.{ranks}
use Rattle.operators.specs.declared.Ranking.TheVariants.{Crate, Manual}
use Rattle.operators.proofs.Laws.{same_operators}
use Rattle.tree.specs.Forest.{Forest, size, flat}
use Rattle.grammar.specs.Grammar.{Chunk}
use Rattle.grammar.specs.Reading.{Out, fine, fail}
use Rattle.grammar.specs.Levels.{chunk}
use Rattle.grammar.specs.Compare.{Like, Alike, fines, fails, deep_left, deep_right}
use Rattle.grammar.proofs.Theorems.{sound, complete, is_ranked, side_by_side}
use Rattle.grammar.proofs.Sides.{Side, derived, refused, side, numbers, refused_none}
use Rattle.parser.specs.declared.Answer.{Answer}
use Rattle.parser.specs.Answered.{Answered, counting, Zeroed}
use Rattle.agreed.specs.Agreed.{Agreed}
use Rattle.agreed.proofs.Readings.{accepted, declined}
use Rattle.agreed.proofs.Cases.{Took}
use Rattle.agreed.proofs.Decided.{Case, bad, roomed, cramped, apart, underived, deep, the_case}

-- one tree, derived under both rankings of a well-formed stream, and room for its words
pub record Shared (s : List ℕ) (levels : ℕ) (n : List ℕ) : Type 0 where
  pub formed : Formed s
  pub it : Forest
  pub crate : Chunk s (ranks Crate) levels it
  pub manual : Chunk s (ranks Manual) levels it
  pub room : size it * 4 ≤ length n

module _ (s : List ℕ) (n n' : List ℕ) (a : Answer) (x : Agreed s n n' a) where
  told : {b : Answer} → a ≡ b → a.number ≡ b.number
  told e = ap (λ (z : Answer). z.number) e

  -- a tree is handed over exactly if it is derived under both, and has room
  pub hands_over : (a.number ≡ 0) ↔ Shared s 199 n
  hands_over = (λ z. by_case z (the_case s 199 n), λ h. told (x.agrees h.it h.formed h.crate h.manual h.room).0)
    where
      by_case : a.number ≡ 0 → Case s 199 n → Shared s 199 n
      by_case z (bad {p} m) = let e = told (x.malformed p m).0 in absurd (omega arith)
      by_case z (roomed {t} f c d l) = record { formed = f; it = t; crate = c; manual = d; room = l }
      by_case z (cramped {t} f c d l) = let e = told (x.short t f c d l).0 in absurd (omega arith)
      by_case z (apart {t} {u} {i} f c d ne q) = let e = told (x.differs t u i f c d ne q).0 in absurd (omega arith)
      by_case z (underived {e} f none y) = let k = numbers s Crate 199 f y in let w = told (x.refuses e f none y).0 in absurd (omega arith)
      by_case z (deep {t} {e} f c none y) = let k = numbers s Manual 199 f y in let w = told (x.deeper t e f c none y).0 in absurd (omega arith)

  -- and then the array starts with its words, and is unchanged past them
  pub handed : (h : Shared s 199 n) → (a ≡ counting 0 (size h.it * 4)) × (n' ≡ flat h.it ++ drop (size h.it * 4) n)
  handed h = x.agrees h.it h.formed h.crate h.manual h.room

-- two trees, the same but for what stands in expressions, one under each ranking
pub record Both (s : List ℕ) (levels : ℕ) : Type 0 where
  pub one : Forest
  pub other : Forest
  pub crate : Chunk s (ranks Crate) levels one
  pub manual : Chunk s (ranks Manual) levels other
  pub like : Like one other

-- the same refusal of both
pub record Refused (s : List ℕ) (levels : ℕ) : Type 0 where
  pub why : Refusal
  pub crate : chunk s (ranks Crate) levels ≡ fail why
  pub manual : chunk s (ranks Manual) levels ≡ fail why

module _ (s : List ℕ) (levels : ℕ) where
  sides : {o o' : Out} → chunk s (ranks Crate) levels ≡ o → chunk s (ranks Manual) levels ≡ o' → Alike o o'
  sides {o' = o'} x y = subst (λ (z : Out). Alike z o') x (subst (Alike (chunk s (ranks Crate) levels)) y (side_by_side s (ranks Crate) (ranks Manual) same_operators levels))

  -- what the crate's ranking derives, the manual's refuses by a 5 alone; and the other way round
  pub only_deep : {t : Forest} {e : Refusal} → Chunk s (ranks Crate) levels t → chunk s (ranks Manual) levels ≡ fail e → e.number ≡ 5
  only_deep c y = go (sides (complete s (ranks Crate) levels (is_ranked Crate) c).1 y)
    where
      go : {p m v : ℕ} {u : Forest} {d : Refusal} → Alike (fine p m u v) (fail d) → d.number ≡ 5
      go (deep_right h) = h

  pub only_deep_crate : {t : Forest} {e : Refusal} → Chunk s (ranks Manual) levels t → chunk s (ranks Crate) levels ≡ fail e → e.number ≡ 5
  only_deep_crate c x = go (sides x (complete s (ranks Manual) levels (is_ranked Manual) c).1)
    where
      go : {p m v : ℕ} {u : Forest} {d : Refusal} → Alike (fail d) (fine p m u v) → d.number ≡ 5
      go (deep_left h) = h

  -- where neither is refused by a 5: both accept, or both refuse, and tell the same
  pub alike : ((e : Refusal) → chunk s (ranks Crate) levels ≡ fail e → e.number ≡ 5 → ⊥) → ((e : Refusal) → chunk s (ranks Manual) levels ≡ fail e → e.number ≡ 5 → ⊥)
      → Both s levels ⊎ Refused s levels
  alike f g = go (chunk s (ranks Crate) levels) (chunk s (ranks Manual) levels) refl refl
    where
      by_alike : {o o' : Out} → Alike o o' → chunk s (ranks Crate) levels ≡ o → chunk s (ranks Manual) levels ≡ o' → Both s levels ⊎ Refused s levels
      by_alike (fines {t = t} {u = u} l) x y =
          inl record { one = t; other = u; crate = sound s (ranks Crate) levels (is_ranked Crate) x; manual = sound s (ranks Manual) levels (is_ranked Manual) y; like = l }
      by_alike (fails {e}) x y = inr record { why = e; crate = x; manual = y }
      by_alike (deep_left {e} h) x y = absurd (f e x h)
      by_alike (deep_right {e} h) x y = absurd (g e y h)

      go : (o o' : Out) → chunk s (ranks Crate) levels ≡ o → chunk s (ranks Manual) levels ≡ o' → Both s levels ⊎ Refused s levels
      go o o' x y = by_alike (sides x y) x y

-- told by the agreed reading: 5, and every word zero
pub told_deep : (s n n' : List ℕ) (a : Answer) → Agreed s n n' a → {t : Forest} → Formed s → Chunk s (ranks Crate) 199 t → ((u : Forest) → Chunk s (ranks Manual) 199 u → ⊥)
    → (a.number ≡ 5) × Zeroed n n'
told_deep s n n' a x {t} f c none = by_side (side s Manual 199)
  where
    by_side : Side s Manual 199 → (a.number ≡ 5) × Zeroed n n'
    by_side (derived {t = u} d) = absurd (none u d)
    by_side (refused {e} h y) = let z = x.deeper t e f c h y in (ap (λ (w : Answer). w.number) z.0 ∙ only_deep s 199 c y, z.1)

-- the answers of two readings, into any arrays, neither of them 5: both tell 0 or 7, or both the same refusal
pub alike_answers : (s n n₁ m m₁ : List ℕ) (a b : Answer) → Answered s Crate n n₁ a → Answered s Manual m m₁ b → (a.number ≡ 5 → ⊥) → (b.number ≡ 5 → ⊥)
    → (Took a × Took b) ⊎ ((a ≡ b) × (0 < a.number) × (a.number ≤ 6))
alike_answers s n n₁ m m₁ a b x y p q = by_form (formed_or_not s)
  where
    number : {c d : Answer} → c ≡ d → c.number ≡ d.number
    number e = ap (λ (z : Answer). z.number) e

    by_both : Formed s → Both s 199 ⊎ Refused s 199 → (Took a × Took b) ⊎ ((a ≡ b) × (0 < a.number) × (a.number ≤ 6))
    by_both f (inl h) = inl (accepted s Crate x f h.crate, accepted s Manual y f h.manual)
    by_both f (inr h) =
        let u = (x.refuses h.why f (refused_none s Crate 199 h.crate) h.crate).0 in
        let v = (y.refuses h.why f (refused_none s Manual 199 h.manual) h.manual).0 in
        let k = declined s Crate x f h.crate in
        inr (u ∙ sym v, k.0, omega (arith, k.1))

    by_form : Formed s ⊎ ((i : ℕ) × Malformed s i) → (Took a × Took b) ⊎ ((a ≡ b) × (0 < a.number) × (a.number ≤ 6))
    by_form (inl f) =
        by_both f (alike s 199 (λ e z w. p (number (x.refuses e f (refused_none s Crate 199 z) z).0 ∙ w)) (λ e z w. q (number (y.refuses e f (refused_none s Manual 199 z) z).0 ∙ w)))
    by_form (inr z) =
        let u = (x.malformed z.0 z.1).0 in
        let v = (y.malformed z.0 z.1).0 in
        let k : a.number ≡ 6 = number u in
        inr (u ∙ sym v, omega arith, omega arith)
