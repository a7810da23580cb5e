-- Digits and fields: how many bytes, which, one number for each, and their writing and reading one by one. Assumes nothing.
use mathlib.Core.Path.{◌≡◌, refl, sym, ap, ◌∙◌}
use mathlib.Core.List.{List, [], ◌∷◌, ◌++◌}
use mathlib.Core.Logic.{by_cases}
use Prim.Native.Nat.{ℕ, zero, suc, ◌+◌, ◌-◌, ◌*◌, ◌/◌, ◌%◌, ◌^◌, ◌≤◌, ◌<◌}
use native.Mathlib.Decide.{dec_lt}
use native.Mathlib.Nat.{pow-suc, pow-le-pow_right}
use native.Mathlib.Numerals.{add-one}
use native.Mathlib.Omega.{arith}
use lib.ListN.{length, set, get_or, take, length-append, get_or-append}
use lib.Seq.{sets, take-suc, take_at, get_or_at}
use borrow.Author.Tests.{lt-ltb, le-ltb}
use Rattle.tree.proofs.Lay.{sets_append, sets_comm}
use Rattle.lines.specs.Lines.{glyph, hex, field}

pub glyph_low : (d : ℕ) → d < 10 → glyph d ≡ 48 + d
unfolding glyph
glyph_low d h = rw (glyph, lt-ltb d 10 h)

pub glyph_high : (d : ℕ) → 10 ≤ d → glyph d ≡ 97 + (d - 10)
unfolding glyph
glyph_high d h = rw (glyph, le-ltb d 10 h)

glyph_one : (a b : ℕ) → a < 16 → b < 16 → glyph a ≡ glyph b → a ≡ b
glyph_one a b f g e =
    by_cases (dec_lt a 10)
    (λ h. by_cases (dec_lt b 10) (λ k. omega (arith, glyph_low a h, glyph_low b k)) (λ k. omega (arith, glyph_low a h, glyph_high b (omega arith))))
    (λ h. by_cases (dec_lt b 10) (λ k. omega (arith, glyph_high a (omega arith), glyph_low b k)) (λ k. omega (arith, glyph_high a (omega arith), glyph_high b (omega arith))))

pub length_hex : (k n : ℕ) → length (hex k n) ≡ k
unfolding hex
length_hex zero n = refl
length_hex (suc k) n = omega (arith, length-append (hex k (n / 16)) (glyph (n % 16) ∷ []), length_hex k (n / 16))

pub length_field : (k n e : ℕ) → length (field k n e) ≡ suc k
length_field k n e = omega (arith, length-append (hex k n) (e ∷ []), length_hex k n)

-- one digit more
hex_more : (k v d : ℕ) → d < 16 → hex (suc k) (v * 16 + d) ≡ hex k v ++ glyph d ∷ []
unfolding hex
hex_more k v d h =
    let q : (v * 16 + d) / 16 ≡ v = omega arith in
    let r : (v * 16 + d) % 16 ≡ d = omega arith in
    ap (λ (x : ℕ). hex k x ++ glyph ((v * 16 + d) % 16) ∷ []) q ∙ ap (λ (x : ℕ). hex k v ++ glyph x ∷ []) r

-- each byte is a digit's
hex_at : (k n i : ℕ) → i < k → (d : ℕ) × (d < 16) × (get_or (hex k n) i 0 ≡ glyph d)
unfolding hex
hex_at zero n i h = absurd (omega arith)
hex_at (suc k) n i h =
    by_cases (dec_lt i k)
    (λ l. let z = hex_at k (n / 16) i l in
    (z.0, z.1, get_or-append (hex k (n / 16)) (glyph (n % 16) ∷ []) 0 i (omega (arith, length_hex k (n / 16))) ∙ z.2))
    (λ g. (n % 16, omega arith, get_or_at (hex k (n / 16)) (glyph (n % 16)) [] 0 i (length_hex k (n / 16) ∙ omega arith)))

-- one number for so many digits
snoc_one : (xs ys : List ℕ) (a b : ℕ) → length xs ≡ length ys → xs ++ a ∷ [] ≡ ys ++ b ∷ [] → (xs ≡ ys) × (a ≡ b)
snoc_one xs ys a b l e = (
  sym (take_at xs (a ∷ []) (length xs) refl) ∙ ap (take (length xs)) e ∙ take_at ys (b ∷ []) (length xs) (sym l),
  sym (get_or_at xs a [] 0 (length xs) refl) ∙ ap (λ (z : List ℕ). get_or z (length xs) 0) e ∙ get_or_at ys b [] 0 (length xs) (sym l),
)

pub hex_one : (k m n : ℕ) → m < 16 ^ k → n < 16 ^ k → hex k m ≡ hex k n → m ≡ n
unfolding hex
hex_one zero m n f g e = omega arith
hex_one (suc k) m n f g e =
    let p = pow-suc 16 k in
    let s = snoc_one (hex k (m / 16)) (hex k (n / 16)) _ _ (length_hex k (m / 16) ∙ sym (length_hex k (n / 16))) e in
    let q = hex_one k (m / 16) (n / 16) (omega arith) (omega arith) s.0 in
    let r = glyph_one (m % 16) (n % 16) (omega arith) (omega arith) s.1 in
    omega arith

-- writing: the last digit first, the others as if it were there already
pub put_turn : (l : List ℕ) (p q i n : ℕ) → q ≡ p + i → sets (set l q (glyph (n % 16))) p (hex i (n / 16)) ≡ sets l p (hex (suc i) n)
unfolding hex
put_turn l p q i n e =
    let xs = hex i (n / 16) in
    let g = glyph (n % 16) in
    let h : p + length xs ≡ q = omega (arith, length_hex i (n / 16)) in
    sets_comm xs (g ∷ []) l p q (omega arith) ∙ ap (λ (k : ℕ). sets (sets l p xs) k (g ∷ [])) (sym h) ∙ sym (sets_append xs (g ∷ []) l p)

-- writing one thing after another
pub put_after : (l : List ℕ) {l₁ l₂ : List ℕ} (p q : ℕ) (xs ys : List ℕ) → q ≡ p + length xs → l₁ ≡ sets l p xs → l₂ ≡ sets l₁ q ys → l₂ ≡ sets l p (xs ++ ys)
put_after l p q xs ys e a b =
    b ∙ ap (λ (k : List ℕ). sets k q ys) a ∙ ap (λ (k : ℕ). sets (sets l p xs) k ys) e ∙ sym (sets_append xs ys l p)

-- reading: no digit yet, and one digit more
pub read_none : [] ≡ hex 0 0
unfolding hex
read_none = refl

pub read_turn : (ds : List ℕ) (i v d : ℕ) → i < length ds → d < 16 → get_or ds i 0 ≡ glyph d → take i ds ≡ hex i v → take (i + 1) ds ≡ hex (i + 1) (v * 16 + d)
read_turn ds i v d h k g e =
    let n : suc i ≡ i + 1 = omega arith in
    ap (λ (x : ℕ). take x ds) (sym n) ∙ take-suc ds i 0 h ∙ ap (λ (x : List ℕ). x ++ get_or ds i 0 ∷ []) e ∙ ap (λ (x : ℕ). hex i v ++ x ∷ []) g
    ∙ sym (hex_more i v d k) ∙ ap (λ (x : ℕ). hex x (v * 16 + d)) n

-- a byte that is no digit is in no field
pub no_field : (part ds : List ℕ) (e f i : ℕ) → part ≡ ds ++ e ∷ [] → i < length ds → ((d : ℕ) → d < 16 → get_or ds i 0 ≡ glyph d → ⊥) → (k v : ℕ) → part ≡ field k v f → ⊥
no_field part ds e f i p h bare k v q =
    let n : length ds ≡ k = omega (arith, ap length p, ap length q, length-append ds (e ∷ []), length_field k v f) in
    let s = (snoc_one ds (hex k v) e f (omega (arith, length_hex k v)) (sym p ∙ q)).0 in
    let z = hex_at k v i (omega arith) in
    bare z.0 z.1 (ap (λ (y : List ℕ). get_or y i 0) s ∙ z.2)

-- before the first digit
pub put_none : (l : List ℕ) (p i n : ℕ) → i ≡ 0 → sets l p (hex i n) ≡ l
unfolding hex
put_none l p i n e = ap (λ (k : ℕ). sets l p (hex k n)) e

-- the number so far
pub pow_more : (i v d : ℕ) → v < 16 ^ i → d < 16 → v * 16 + d < 16 ^ (i + 1)
pow_more i v d h k = rw (add-one, pow-suc) (omega arith)

pub room : (i v : ℕ) → i < 16 → v < 16 ^ i → v < 1152921504606846976
room i v h k = let p : 16 ^ i ≤ 16 ^ 15 = pow-le-pow_right {n = 16} (omega arith) {i = i} {j = 15} (omega arith) in omega arith
