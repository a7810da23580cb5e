-- The words of a stream: inside and past its records, and what a well-formed stream has. Assumes nothing.
use Rattle.std.proofs.Common.{◌≡◌, ℕ, ◌+◌, ◌*◌, ◌%◌, ◌<◌, ◌≤◌, Bool, true, not, eqb, ltb, leb, List, length, get_or, sym, ◌∙◌, add-zero, arith, drop-cons, ltb-true, le-ltb, lt-ltb, eq-eqb, ne_eqb, eqb-true, leb-true}
use mathlib.Core.Bool.{and-eq-true_iff}
use mathlib.Core.Logic.{by_cases}
use native.Mathlib.Decide.{dec_lt}
use borrow.Author.Tests.{eqb-false, not-true}
use Rattle.stream.specs.Words.{records, word, kind, payload, line, after}
use Rattle.stream.specs.Formed.{pays, token_words, end_words, good, sized, most, tokens, Formed}

pub word_at : (s : List ℕ) (p k d : ℕ) → p < records s → word s p k d ≡ get_or s (p * 4 + k) d
unfolding word
word_at s p k d h = rw (word, lt-ltb _ _ h)

pub word_past : (s : List ℕ) (p k d : ℕ) → records s ≤ p → word s p k d ≡ d
unfolding word
word_past s p k d h = rw (word, le-ltb _ _ h)

-- what is not at its end is inside
pub inside : (s : List ℕ) (p : ℕ) → (kind s p ≡ 59 → ⊥) → p < records s
inside s p n = by_cases (dec_lt p (records s)) (λ l. l) (λ g. absurd (n (word_past s p 0 59 (omega arith))))

-- inside, what stands past the end does not matter
pub kind_at : (s : List ℕ) (p : ℕ) → p < records s → kind s p ≡ get_or s (p * 4) 0
kind_at s p h =
    let l : p * 4 < length s = omega arith in
    rw (word_at s p 0 59 h, add-zero) (cc (drop-cons s (p * 4) 0 l, drop-cons s (p * 4) 59 l))

-- a test of a record's four words
pub words_at : (t : ℕ → ℕ → ℕ → ℕ → Bool) (s : List ℕ) (p : ℕ) → p < records s
    → t (kind s p) (payload s p) (line s p) (after s p) ≡ t (get_or s (p * 4) 0) (get_or s (p * 4 + 1) 0) (get_or s (p * 4 + 2) 0) (get_or s (p * 4 + 3) 0)
words_at t s p h = rw (kind_at s p h, word_at s p 1 0 h, word_at s p 2 0 h, word_at s p 3 0 h)

-- the tests of a length and of a record, taken apart
sized_parts : (s : List ℕ) → sized s ≡ true → (0 < length s) × (length s % 4 ≡ 0) × (length s ≤ (tokens + 1) * 4)
sized_parts s e =
    let a = (and-eq-true_iff (not (eqb (length s) 0)) _).0 e in
    let b = (and-eq-true_iff (eqb (length s % 4) 0) _).0 a.1 in
    let n = eqb-false (length s) 0 (not-true _ a.0) in
    (omega arith, eqb-true _ _ b.0, leb-true _ _ b.1)

token_parts : (k v l a : ℕ) → token_words k v l a ≡ true → (k < 59) × (pays k v ≡ true) × (l ≤ most) × (a ≤ most)
token_parts k v l a e =
    let x = (and-eq-true_iff (ltb k 59) _).0 e in
    let y = (and-eq-true_iff (pays k v) _).0 x.1 in
    let z = (and-eq-true_iff (leb l most) _).0 y.1 in
    (ltb-true _ _ x.0, y.0, leb-true _ _ z.0, leb-true _ _ z.1)

end_parts : (k v l a : ℕ) → end_words k v l a ≡ true → (k ≡ 59) × (v ≡ 0) × (l ≤ most) × (l ≡ a)
end_parts k v l a e =
    let x = (and-eq-true_iff (eqb k 59) _).0 e in
    let y = (and-eq-true_iff (eqb v 0) _).0 x.1 in
    let z = (and-eq-true_iff (leb l most) _).0 y.1 in
    (eqb-true _ _ x.0, eqb-true _ _ y.0, leb-true _ _ z.0, eqb-true _ _ z.1)

-- which test it is
pub good_token : (s : List ℕ) (p : ℕ) → p + 1 < records s → good s p ≡ token_words (kind s p) (payload s p) (line s p) (after s p)
unfolding good
good_token s p h = rw (good, ne_eqb (p + 1) (records s) (λ e. omega arith))

pub good_end : (s : List ℕ) (p : ℕ) → p + 1 ≡ records s → good s p ≡ end_words (kind s p) (payload s p) (line s p) (after s p)
unfolding good
good_end s p e = rw (good, eq-eqb (p + 1) (records s) e)

module _ (s : List ℕ) (f : Formed s) where
  pub few : records s ≤ 1048577
  few = let z = sized_parts s f.size in omega arith

  -- the end's record at least
  pub some : 0 < records s
  some = let z = sized_parts s f.size in omega arith

  -- the last record, and every record before it
  pub last : (p : ℕ) → p + 1 ≡ records s → (kind s p ≡ 59) × (payload s p ≡ 0) × (line s p ≤ most) × (line s p ≡ after s p)
  last p e = end_parts (kind s p) (payload s p) (line s p) (after s p) (sym (good_end s p e) ∙ f.each p (omega arith))

  pub token : (p : ℕ) → p + 1 < records s → (kind s p < 59) × (pays (kind s p) (payload s p) ≡ true) × (line s p ≤ most) × (after s p ≤ most)
  token p h = token_parts (kind s p) (payload s p) (line s p) (after s p) (sym (good_token s p h) ∙ f.each p (omega arith))

  -- what is not at its end has a record after it
  pub token_next : (p : ℕ) → (kind s p ≡ 59 → ⊥) → p + 1 < records s
  token_next p n = let i = inside s p n in by_cases (dec_lt (p + 1) (records s)) (λ l. l) (λ g. absurd (n (last p (omega arith)).0))
