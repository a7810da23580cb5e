-- Derivations go forward, within the stream. Assumes nothing.
use mathlib.Core.Path.{◌≡◌, refl, sym, ◌∙◌, subst}
use mathlib.Core.List.{List}
use mathlib.Core.Bool.{true, false, ◌&&◌}
use Prim.Native.Nat.{ℕ, ◌+◌, ◌≤◌, ◌<◌}
use native.Mathlib.Omega.{arith}
use native.Mathlib.Decide.{dec_lt}
use lib.ListN.{length}
use lib.Dec.{ltb}
use borrow.Author.Tests.{ltb-true}
use Rattle.stream.specs.Words.{kind}
use Rattle.stream.proofs.Words.{inside as record-inside}
use Rattle.operators.specs.Ranks.{Ranks}
use Rattle.tree.specs.Forest.{Forest}
use Rattle.grammar.specs.Term.{Term}
use Rattle.grammar.specs.Term.{◌⨾◌, on, operator, lead, again}
use Rattle.grammar.specs.Reading.{Held}
use Rattle.grammar.proofs.Tests.{wrong, and_left, and_right, or_elim}
use Rattle.grammar.proofs.Form.{consumes, guarded, wellmade}
use Rattle.grammar.proofs.Derives.{Phrase, Phrases, Derives, Alone}
use Rattle.grammar.proofs.Derives.{empty', expect', any', leaf', weigh', coded', plus', exp', operand', stat', seq', this', that', above', below', node', lead', held', kept', iter', again'}

pub inside : (s : List ℕ) (i : ℕ) → (kind s i ≡ 59 → ⊥) → i < length s
inside s i h = omega (arith, record-inside s i h)

pub record Moves (s : List ℕ) (e : Term) (i j : ℕ) : Type 0 where
  pub along : i ≤ j
  pub takes : consumes e ≡ true → i < j
  pub real : i < j → kind s i ≡ 59 → ⊥
  pub within : i ≤ length s → j ≤ length s

-- what is asked of the phrases one level down
pub record Step (s : List ℕ) (i j : ℕ) : Type 0 where
  pub rises : i < j
  pub real : kind s i ≡ 59 → ⊥
  pub within : j ≤ length s

abbrev pub Steps : List ℕ → Phrase → Type 0
Steps s P = (i j v : ℕ) (t : Forest) → P i j t v → Step s i j

stay : (s : List ℕ) (e : Term) (i : ℕ) → consumes e ≡ false → Moves s e i i
stay s e i h = record { along = omega arith; takes = λ c. wrong (sym h ∙ c); real = λ l. absurd (omega arith); within = λ l. l }

taken : (s : List ℕ) (e : Term) (i : ℕ) → (kind s i ≡ 59 → ⊥) → Moves s e i (i + 1)
taken s e i h = record { along = omega arith; takes = λ c. omega arith; real = λ l. h; within = λ l. omega (arith, inside s i h) }

lower : (s : List ℕ) (e : Term) (i j : ℕ) → Step s i j → Moves s e i j
lower s e i j h = record { along = omega (arith, h.rises); takes = λ c. h.rises; real = λ l. h.real; within = λ l. h.within }

-- the same moves, of a term that takes a token only if the first does
pub alike : (s : List ℕ) (e e' : Term) (i j : ℕ) → (consumes e' ≡ true → consumes e ≡ true) → Moves s e i j → Moves s e' i j
alike s e e' i j h m = record { along = m.along; takes = λ c. m.takes (h c); real = m.real; within = m.within }

both : (s : List ℕ) (a c : Term) (i j k : ℕ) → Moves s a i j → Moves s c j k → Moves s (a ⨾ c) i k
both s a c i j k m n =
    record {
      along = omega (arith, m.along, n.along);
      takes = λ h. or_elim (consumes a) (consumes c) h (λ x. omega (arith, m.takes x, n.along)) (λ x. omega (arith, n.takes x, m.along));
      real = λ h x. go h x (dec_lt i j);
      within = λ h. n.within (m.within h);
    }
  where
    go : i < k → kind s i ≡ 59 → Dec (i < j) → ⊥
    go h x (yes y) = m.real y x
    go h x (no y) = let q : i ≡ j = omega (arith, m.along) in n.real (omega arith) (subst (λ (p : ℕ). kind s p ≡ 59) q x)

pub stepped : (s : List ℕ) (e : Term) (i j : ℕ) → consumes e ≡ true → Moves s e i j → Step s i j
stepped s e i j c m =
    let l = m.takes c in
    let r = m.real l in
    record { rises = l; real = r; within = m.within (omega (arith, inside s i r)) }

kind_below : (k : ℕ) (a : ℕ) → a ≡ k → ltb k 59 ≡ true → a ≡ 59 → ⊥
kind_below k a h l x = omega (arith, ltb-true k 59 l)

module _ (s : List ℕ) (rank : Ranks) (limit : ℕ) (P : Phrases)
    (steps-exp : (l : ℕ) → Steps s (P.exps l)) (steps-stat : Steps s P.stats) where
  pub moves : {h : Held} {b e : Term} {i j v : ℕ} {t : Forest} → wellmade b ≡ true → wellmade e ≡ true → Derives s rank limit P h b e i j t v → Moves s e i j
  moves wb we empty' = stay s _ _ refl
  moves wb we (expect' {i = i} {k = k} h) = taken s _ _ (kind_below k (kind s i) h we)
  moves wb we (any' h) = taken s _ _ h
  moves wb we leaf' = stay s _ _ refl
  moves wb we weigh' = stay s _ _ refl
  moves wb we coded' = stay s _ _ refl
  moves wb we plus' = stay s _ _ refl
  moves wb we (exp' d) = lower s _ _ _ (steps-exp _ _ _ _ _ d)
  moves wb we (operand' d) = lower s _ _ _ (steps-exp _ _ _ _ _ d)
  moves wb we (stat' d) = lower s _ _ _ (steps-stat _ _ _ _ d)
  moves wb we (seq' {e = a} {f = c} d d') = both s a c _ _ _ (moves wb (and_left (wellmade a) (wellmade c) we) d) (moves wb (and_right (wellmade a) (wellmade c) we) d')
  moves wb we (this' {e = a} {f = c} {l = l} {ks = ks} y d) =
      alike s a (on l ks a c) _ _ (and_left (consumes a) (consumes c)) (moves wb (and_left (wellmade a) (wellmade c) (and_left (wellmade a && wellmade c) _ we)) d)
  moves wb we (that' {e = a} {f = c} {l = l} {ks = ks} y d) =
      alike s c (on l ks a c) _ _ (and_right (consumes a) (consumes c)) (moves wb (and_right (wellmade a) (wellmade c) (and_left (wellmade a && wellmade c) _ we)) d)
  moves wb we (above' {e = a} {f = c} y d) = alike s a (operator a c) _ _ (and_left (consumes a) (consumes c)) (moves wb (and_left (wellmade a) (wellmade c) we) d)
  moves wb we (below' {e = a} {f = c} y d) = alike s c (operator a c) _ _ (and_right (consumes a) (consumes c)) (moves wb (and_right (wellmade a) (wellmade c) we) d)
  moves wb we (node' {e = a} d) = alike s a _ _ _ (λ h. h) (moves wb we d)
  moves wb we (lead' {e = a} {f = c} d d') =
      let w = and_right (wellmade a) (wellmade c && guarded c) we in
      let wc = and_left (wellmade c) (guarded c) w in
      alike s (a ⨾ c) (lead a c) _ _ (λ h. h) (both s a c _ _ _ (moves wb (and_left (wellmade a) _ we) d) (moves wc wc d'))
  moves wb we (held' y) = stay s _ _ refl
  moves wb we (kept' {e = a} y d) = alike s a _ _ _ (λ h. h) (moves wb we d)
  moves wb we (iter' {e = a} d) = let w = and_left (wellmade a) (guarded a) we in alike s a _ _ _ (λ h. h) (moves w w d)
  moves wb we (again' {b = a} d) = alike s a again _ _ (λ h. wrong h) (moves wb wb d)

  pub steps_alone : (e : Term) → wellmade e ≡ true → consumes e ≡ true → Steps s (Alone s rank limit P e)
  steps_alone e w c i j v t d = stepped s e i j c (moves w w d)
