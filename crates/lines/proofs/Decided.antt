-- The contract of `read_lines` leaves one answer, and one stream. Assumes nothing.
use mathlib.Core.Path.{◌≡◌, refl, sym, ap, ◌∙◌}
use mathlib.Core.List.{List, [], ◌∷◌, ◌++◌, append-nil, append_assoc}
use mathlib.Core.Logic.{◌⊎◌, inr, ⊎_elim}
use Prim.Native.Nat.{ℕ, suc, ◌^◌, ◌≤◌, ◌<◌}
use native.Mathlib.Omega.{arith}
use lib.ListN.{length, take, drop, length-append}
use lib.Seq.{sets, take_at, drop_at}
use Rattle.lines.specs.Lines.{hex, field, Line, line, Fits, AllFit, more, shown, show, words, Taken, NoLine, Told}
use Rattle.std.specs.Prelude.{Result, Ok, Err}
use Rattle.lines.specs.declared.BadLine.{BadLine}
use Rattle.lines.proofs.Hex.{length_hex, length_field, hex_one}
use Rattle.lines.proofs.Text.{assoc4, length_shown}

-- a number is told from its digits
field_one : (k v w e : ℕ) (m n : List ℕ) → v < 16 ^ k → w < 16 ^ k → field k v e ++ m ≡ field k w e ++ n → (v ≡ w) × (m ≡ n)
field_one k v w e m n f g q =
    let d : hex k v ++ e ∷ m ≡ hex k w ++ e ∷ n = sym (append_assoc (hex k v) (e ∷ []) m) ∙ q ∙ append_assoc (hex k w) (e ∷ []) n in
    let h : hex k v ≡ hex k w = sym (take_at (hex k v) (e ∷ m) k (length_hex k v)) ∙ ap (take k) d ∙ take_at (hex k w) (e ∷ n) k (length_hex k w) in (
      hex_one k v w f g h,
      sym (drop_at (field k v e) m (suc k) (length_field k v e)) ∙ ap (drop (suc k)) q ∙ drop_at (field k w e) n (suc k) (length_field k w e),
    )

-- and a line from its bytes
line_one : (l k : Line) (m n : List ℕ) → Fits l → Fits k → shown l ++ m ≡ shown k ++ n → (l ≡ k) × (m ≡ n)
unfolding shown
line_one (line a b c d) (line a' b' c' d') m n f g e =
    let e₁ = sym (assoc4 (field 2 a 32) (field 16 b 32) (field 8 c 32) (field 8 d 10) m) ∙ e ∙ assoc4 (field 2 a' 32) (field 16 b' 32) (field 8 c' 32) (field 8 d' 10) n in
    let z₁ = field_one 2 a a' 32 _ _ f.0 g.0 e₁ in
    let z₂ = field_one 16 b b' 32 _ _ f.1 g.1 z₁.1 in
    let z₃ = field_one 8 c c' 32 _ _ f.2 g.2 z₂.1 in
    let z₄ = field_one 8 d d' 10 _ _ f.3 g.3 z₃.1 in
    let p = z₁.0 in
    let q = z₂.0 in
    let r = z₃.0 in
    let s = z₄.0 in
    (cc, z₄.1)

-- two ways to take lines from the front of a text: the same, or one goes on where the other stops
data Compared (ls ks : List Line) (r s : List ℕ) : Type 0 where
  same : ls ≡ ks → r ≡ s → Compared ls ks r s
  longer : (l : Line) (m : List ℕ) → length ks < length ls → s ≡ shown l ++ m → Compared ls ks r s
  shorter : (l : Line) (m : List ℕ) → length ls < length ks → r ≡ shown l ++ m → Compared ls ks r s

compare_more : {l k : Line} {ls ks : List Line} {r s : List ℕ} → l ≡ k → Compared ls ks r s → Compared (l ∷ ls) (k ∷ ks) r s
compare_more e (same p q) = same (cc) q
compare_more e (longer l m h q) = longer l m (omega arith) q
compare_more e (shorter l m h q) = shorter l m (omega arith) q

compare : (ls ks : List Line) (r s : List ℕ) → AllFit ls → AllFit ks → show ls ++ r ≡ show ks ++ s → Compared ls ks r s
compare [] [] r s f g e = same refl e
compare [] (k ∷ ks) r s f g e = shorter k (show ks ++ s) (omega arith) (e ∙ append_assoc (shown k) (show ks) s)
compare (l ∷ ls) [] r s f g e = longer l (show ls ++ r) (omega arith) (sym e ∙ append_assoc (shown l) (show ls) r)
compare (l ∷ ls) (k ∷ ks) r s (more f fs) (more g gs) e =
    let z = line_one l k (show ls ++ r) (show ks ++ s) f g (sym (append_assoc (shown l) (show ls) r) ∙ e ∙ append_assoc (shown k) (show ks) s) in
    compare_more z.0 (compare ls ks r s fs gs z.1)

-- both stop at the same place
module _ (most : ℕ) (s s₁ s₂ : List ℕ) (ls ks : List Line) (i j : ℕ) (q r : List ℕ) (t : Taken ls i most s s₁) (u : Taken ks j most s s₂) where
  agree : (i ≡ most) ⊎ NoLine q → (j ≡ most) ⊎ NoLine r → Compared ls ks q r → (i ≡ j) × (s₁ ≡ s₂) × (q ≡ r)
  agree a b (same e f) = (sym t.count ∙ ap length e ∙ u.count, t.stored ∙ ap (λ (x : List Line). sets s 0 (words x)) e ∙ sym u.stored, f)
  agree a b (longer l m h e) =
      let x = t.count in
      let y = u.count in
      let z = t.few in
      absurd (⊎_elim (λ o. omega arith) (λ no. no l m e) b)
  agree a b (shorter l m h e) =
      let x = t.count in
      let y = u.count in
      let z = u.few in
      absurd (⊎_elim (λ o. omega arith) (λ no. no l m e) a)

no_line_none : NoLine []
no_line_none l m e = omega (arith, ap length e, length-append (shown l) m, length_shown l)

abbrev bad : ℕ → Result ℕ BadLine
bad n = Err (record { index = n })

pub decided : (text : List ℕ) (most : ℕ) (s s₁ s₂ : List ℕ) (a b : Result ℕ BadLine) → Told text most s s₁ a → Told text most s s₂ b → (a ≡ b) × (s₁ ≡ s₂)
decided text most s s₁ s₂ (Ok n) (Ok m) (ls, t, e) (ks, u, f) =
    let z = agree most s s₁ s₂ ls ks n m [] [] t u (inr no_line_none) (inr no_line_none)
    (compare ls ks [] [] t.fit u.fit (append-nil (show ls) ∙ sym e ∙ f ∙ sym (append-nil (show ks)))) in
    (ap Ok z.0, z.1)
decided text most s s₁ s₂ (Ok n) (Err j) (ls, t, e) (ks, r, u, f, some, b) =
    let z = agree most s s₁ s₂ ls ks n j.index [] r t u (inr no_line_none) b (compare ls ks [] r t.fit u.fit (append-nil (show ls) ∙ sym e ∙ f)) in
    absurd (some (sym z.2))
decided text most s s₁ s₂ (Err i) (Ok m) (ls, q, t, e, some, a) (ks, u, f) =
    let z = agree most s s₁ s₂ ls ks i.index m q [] t u a (inr no_line_none) (compare ls ks q [] t.fit u.fit (sym e ∙ f ∙ sym (append-nil (show ks)))) in
    absurd (some z.2)
decided text most s s₁ s₂ (Err i) (Err j) (ls, q, t, e, x, a) (ks, r, u, f, y, b) =
    let z = agree most s s₁ s₂ ls ks i.index j.index q r t u a b (compare ls ks q r t.fit u.fit (sym e ∙ f)) in
    (ap bad z.0, z.1)

-- what was written is read
pub read_back : (lines : List Line) (most : ℕ) (s s' : List ℕ) (r : Result ℕ BadLine) → AllFit lines → length lines ≤ most
    → Told (show lines) most s s' r → (r ≡ Ok (length lines)) × (s' ≡ sets s 0 (words lines))
read_back ls most s s' r f h t =
    decided (show ls) most s s' (sets s 0 (words ls)) r (Ok (length ls)) t (ls, record { fit = f; count = refl; few = h; stored = refl }, refl)
