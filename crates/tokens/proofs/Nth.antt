-- What `token_after` comes to, by the tokens' places: the token at n, where no end stands before it, and the line two tokens on; past the first end, what the end itself gives. Assumes nothing.
use mathlib.Core.Path.{◌≡◌, refl, sym, ap, subst, ◌∙◌}
use mathlib.Core.List.{List}
use Rattle.std.proofs.Common.{Some, None}
use Prim.Native.Nat.{ℕ, zero, suc, ◌+◌, ◌-◌, ◌<◌, ◌≤◌, min}
use native.Mathlib.Omega.{arith}
use Rattle.stream.specs.Words.{records, kind}
use Rattle.stream.specs.Reader.{token_at, read_ahead, told, at_end, look_ahead}
use Rattle.stream.specs.declared.reader.Cursor.{Cursor}
use Rattle.stream.proofs.Reading.{look_end}
use Rattle.tokens.specs.Steps.{start, stepped, steps, token_after}
use Rattle.tokens.proofs.Steps.{step_end, step_token}

-- the cursor at n, once two tokens from there on were asked for
abbrev pub there : List ℕ → ℕ → Cursor
there s n = record { place = n; mark = min (n + 2) (records s); note = start.note }

-- none of the first n tokens is the end
abbrev pub Tokens : List ℕ → ℕ → Type 0
Tokens s n = (p : ℕ) → p < n → kind s p ≡ 59 → ⊥

-- a cursor at p whose mark is not yet past the next token
abbrev Near : List ℕ → ℕ → Cursor → Type 0
Near s p c = (c.place ≡ p) × (c.mark ≤ min (p + 1) (records s)) × (c.note ≡ start.note)

near_step : (s : List ℕ) (p : ℕ) (c : Cursor) → Near s p c → (kind s p ≡ 59 → ⊥) → Near s (p + 1) (stepped s c)
near_step s p c k n =
    let e = step_token s c (λ z. n (ap (kind s) (sym k.0) ∙ z)) in
    subst (Near s (p + 1)) (sym e) (omega (arith, k.0), omega (arith, k.0, k.1), k.2)

near_steps : (s : List ℕ) (n p : ℕ) (c : Cursor) → Near s p c → ((i : ℕ) → i < p + n → kind s i ≡ 59 → ⊥) → Near s (p + n) (steps s c n)
near_steps s zero p c k t = let e : p ≡ p + 0 = omega arith in subst (λ m. Near s m c) e k
near_steps s (suc n) p c k t =
    let e : p + 1 + n ≡ p + suc n = omega arith in
    subst (λ m. Near s m (steps s (stepped s c) n)) e (near_steps s n (p + 1) (stepped s c) (near_step s p c k (t p (omega arith))) (λ i l. t i (omega arith)))

near_read : (s : List ℕ) (p : ℕ) (c : Cursor) → Near s p c → read_ahead s c 1 ≡ there s p
near_read s p c k = let m : (read_ahead s c 1).mark ≡ (there s p).mark = omega (arith, k.0, k.1) in λ i. record { place = k.0 i; mark = m i; note = k.2 i }

near : (s : List ℕ) (n : ℕ) → Tokens s n → Near s n (steps s start n)
near s n t = let e : 0 + n ≡ n = omega arith in subst (λ m. Near s m (steps s start n)) e (near_steps s n 0 start (refl, omega arith, refl) (λ i l. t i (omega arith)))

pub nth : (s : List ℕ) (n : ℕ) → Tokens s n → token_after s n ≡ record { look = at_end s n None (Some (token_at s n)); cursor = there s n; line = told s (min (n + 2) (records s)) }
unfolding look_ahead
nth s n t =
    let k = near s n t in
    let c = steps s start n in
    let p : c.place + 0 ≡ n = omega (arith, k.0) in
    let r = near_read s n c k in
    λ i. record { look = at_end s (p i) None (Some (token_at s (p i))); cursor = r i; line = told s (r i).mark }

-- a cursor at the end
abbrev Last : List ℕ → ℕ → Cursor → Type 0
Last s m c = (c.place ≡ m) × (read_ahead s c 1 ≡ there s m)

last_there : (s : List ℕ) (m : ℕ) → Last s m (there s m)
last_there s m = let e : (read_ahead s (there s m) 1).mark ≡ (there s m).mark = omega arith in (refl, (λ i. record { place = m; mark = e i; note = start.note }))

last_steps : (s : List ℕ) (m : ℕ) → kind s m ≡ 59 → (k : ℕ) (c : Cursor) → Last s m c → Last s m (steps s c k)
last_steps s m e zero c l = l
last_steps s m e (suc k) c l = last_steps s m e k (stepped s c) (subst (Last s m) (sym (step_end s c (ap (kind s) l.0 ∙ e) ∙ l.1)) (last_there s m))

steps_add : (s : List ℕ) (m k : ℕ) (c : Cursor) → steps s c (m + k) ≡ steps s (steps s c m) k
steps_add s zero k c = let e : 0 + k ≡ k = omega arith in ap (steps s c) e
steps_add s (suc m) k c = let e : suc m + k ≡ suc (m + k) = omega arith in ap (steps s c) e ∙ steps_add s m k (stepped s c)

pub past : (s : List ℕ) (m n : ℕ) → Tokens s m → kind s m ≡ 59 → m ≤ n → token_after s n ≡ record { look = None; cursor = there s m; line = told s (min (m + 2) (records s)) }
past s m n t e l =
    let k = near s m t in
    let j : m + (n - m) ≡ n = omega arith in
    let a = last_steps s m e (n - m) (steps s start m) (k.0, near_read s m (steps s start m) k) in
    let b : Last s m (steps s start n) = subst (Last s m) (sym (steps_add s m (n - m) start) ∙ ap (steps s start) j) a in
    let c = steps s start n in
    let p : c.place + 0 ≡ m = omega (arith, b.0) in
    let f = look_end s c 0 (ap (kind s) p ∙ e) in
    λ i. record { look = (f i).0; cursor = b.1 i; line = told s (b.1 i).mark }
