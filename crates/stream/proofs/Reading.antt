-- What each function of the reader gives, case by case, as equations to rewrite with. Assumes nothing.
use Rattle.std.proofs.Common.{◌≡◌, ℕ, ◌+◌, min, max, false, eqb, List, Some, None, Ok, Err, sym, ◌∙◌, arith, eq-eqb, ne_eqb}
use mathlib.Core.Logic.{by_cases}
use native.Mathlib.Decide.{ℕ_discrete}
use Rattle.stream.specs.Words.{records, kind, line}
use Rattle.stream.specs.Reader.{at_end, token_at, reached, read_ahead, told, ended, unexpected, expecting, passed, get_next, take_next, expect_next, expect_name, look_ahead, check_ahead}
use Rattle.stream.specs.declared.reader.Cursor.{Cursor}

-- a second look reaches no further
pub reached_twice : (s : List ℕ) (m p n : ℕ) → reached s (reached s m p n) p n ≡ reached s m p n
reached_twice s m p n = max_twice m (min (p + n) (records s))
  where
    max_twice : (a b : ℕ) → max (max a b) b ≡ max a b
    max_twice a b = omega arith

module _ (s : List ℕ) (c : Cursor) where
  pub get_end : kind s c.place ≡ 59 → get_next s c ≡ (Err (ended s (read_ahead s c 1) 0), read_ahead s c 1)
  unfolding get_next
  get_end e = rw (get_next, at_end, eq-eqb _ _ e)

  pub get_token : (kind s c.place ≡ 59 → ⊥) → get_next s c ≡ (Ok (token_at s c.place), read_ahead s c 1)
  unfolding get_next
  get_token n = rw (get_next, at_end, ne_eqb _ _ n)

  pub take_end : kind s c.place ≡ 59 → take_next s c ≡ (Err (ended s (read_ahead s c 1) 0), read_ahead s c 1)
  unfolding take_next
  take_end e = rw (take_next, at_end, eq-eqb _ _ e)

  pub take_token : (kind s c.place ≡ 59 → ⊥) → take_next s c ≡ (Ok (token_at s c.place), passed (read_ahead s c 1))
  unfolding take_next
  take_token n = rw (take_next, at_end, ne_eqb _ _ n)

  pub expect_end : (k : ℕ) → kind s c.place ≡ 59 → expect_next s c k ≡ (Err (ended s (read_ahead s c 1) (expecting k)), read_ahead s c 1)
  unfolding expect_next
  expect_end k e = rw (expect_next, at_end, eq-eqb _ _ e)

  pub expect_kind : (k : ℕ) → (kind s c.place ≡ 59 → ⊥) → kind s c.place ≡ k → expect_next s c k ≡ (Ok (token_at s c.place), passed (read_ahead s c 1))
  unfolding expect_next
  expect_kind k n e = rw (expect_next, at_end, ne_eqb _ _ n, eq-eqb _ _ e)

  pub expect_other : (k : ℕ) → (kind s c.place ≡ 59 → ⊥) → (kind s c.place ≡ k → ⊥) → expect_next s c k ≡ (Err (unexpected (line s c.place) c.place (expecting k)), read_ahead s c 1)
  unfolding expect_next
  expect_other k n m = rw (expect_next, at_end, ne_eqb _ _ n, ne_eqb _ _ m)

  pub name_end : kind s c.place ≡ 59 → expect_name s c ≡ (Err (ended s (read_ahead s c 1) 60), read_ahead s c 1)
  unfolding expect_name
  name_end e = rw (expect_name, at_end, eq-eqb _ _ e)

  pub name_kind : kind s c.place ≡ 58 → expect_name s c ≡ (Ok (token_at s c.place), passed (read_ahead s c 1))
  unfolding expect_name
  name_kind e = let n : kind s c.place ≡ 59 → ⊥ = λ q. omega arith in rw (expect_name, at_end, ne_eqb _ _ n, eq-eqb _ _ e)

  pub name_other : (kind s c.place ≡ 59 → ⊥) → (kind s c.place ≡ 58 → ⊥) → expect_name s c ≡ (Err (unexpected (told s (read_ahead s c 1).mark) c.place 60), read_ahead s c 1)
  unfolding expect_name
  name_other n m = rw (expect_name, at_end, ne_eqb _ _ n, ne_eqb _ _ m)

  pub look_end : (n : ℕ) → kind s (c.place + n) ≡ 59 → look_ahead s c n ≡ (None, read_ahead s c (n + 1))
  unfolding look_ahead
  look_end n e = rw (look_ahead, at_end, eq-eqb _ _ e)

  pub look_token : (n : ℕ) → (kind s (c.place + n) ≡ 59 → ⊥) → look_ahead s c n ≡ (Some (token_at s (c.place + n)), read_ahead s c (n + 1))
  unfolding look_ahead
  look_token n m = rw (look_ahead, at_end, ne_eqb _ _ m)

  pub check_end : (n k : ℕ) → kind s (c.place + n) ≡ 59 → check_ahead s c n k ≡ (false, read_ahead s c n)
  unfolding check_ahead
  check_end n k e = rw (check_ahead, at_end, eq-eqb _ _ e)

  pub check_token : (n k : ℕ) → (kind s (c.place + n) ≡ 59 → ⊥) → check_ahead s c n k ≡ (eqb (kind s (c.place + n)) k, read_ahead s c n)
  unfolding check_ahead
  check_token n k m = rw (check_ahead, at_end, ne_eqb _ _ m)

  -- of a kind that is no end: one test, at the end too
  pub check_kind : (n k : ℕ) → (k ≡ 59 → ⊥) → check_ahead s c n k ≡ (eqb (kind s (c.place + n)) k, read_ahead s c n)
  check_kind n k m =
      by_cases (ℕ_discrete (kind s (c.place + n)) 59)
      (λ e. let f : eqb (kind s (c.place + n)) k ≡ false = ne_eqb _ _ (λ q. m (sym q ∙ e)) in rw f (check_end n k e))
      (check_token n k)
