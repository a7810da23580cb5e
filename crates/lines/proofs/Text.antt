-- Lines in a text: their parts, and one more of them. Assumes nothing.
use mathlib.Core.Path.{◌≡◌, refl, sym, ap, ◌∙◌, subst}
use mathlib.Core.List.{List, [], ◌∷◌, ◌++◌, append-nil, append_assoc}
use Prim.Native.Nat.{ℕ, suc, ◌+◌, ◌*◌, ◌^◌, ◌<◌, min}
use native.Mathlib.Nat.{add-zero}
use native.Mathlib.Omega.{arith}
use lib.ListN.{length, get_or, take, drop, length-append, length-drop, take-append-drop}
use lib.Seq.{sets, drop-drop, drop_at, take_at, take_all, length-take-le}
use Rattle.std.specs.Prelude.{Some, None}
use Rattle.tree.specs.Forest.{words as record_words}
use Rattle.lines.specs.Lines.{field, Line, line, Fits, AllFit, none, more, shown, each, show, fours, words, shown_answer, Taken, NoLine}
use Rattle.lines.specs.Parts.{Field}
use Rattle.lines.proofs.Hex.{length_field, put_after}

pub assoc4 : (a b c d m : List ℕ) → (a ++ (b ++ (c ++ d))) ++ m ≡ a ++ (b ++ (c ++ (d ++ m)))
assoc4 a b c d m = simp append_assoc

assoc_left : (a b c d : List ℕ) → ((a ++ b) ++ c) ++ d ≡ a ++ (b ++ (c ++ d))
assoc_left a b c d = simp append_assoc

assoc5 : (a b c d e : List ℕ) → (((a ++ b) ++ c) ++ d) ++ e ≡ a ++ (b ++ (c ++ (d ++ e)))
assoc5 a b c d e = simp append_assoc

length4 : (a b c d : List ℕ) → length (a ++ (b ++ (c ++ d))) ≡ length a + (length b + (length c + length d))
length4 a b c d = simp length-append

pub length_shown : (l : Line) → length (shown l) ≡ 38
unfolding shown
length_shown (line k p l a) =
    omega (
      arith,
      length4 (field 2 k 32) (field 16 p 32) (field 8 l 32) (field 8 a 10),
      length_field 2 k 32,
      length_field 16 p 32,
      length_field 8 l 32,
      length_field 8 a 10,
    )

-- where its numbers stand
line_parts : (bytes : List ℕ) (k p l a : ℕ) → bytes ≡ shown (line k p l a)
    → (take 3 bytes ≡ field 2 k 32) × (take 17 (drop 3 bytes) ≡ field 16 p 32) × (take 9 (drop 20 bytes) ≡ field 8 l 32) × (take 9 (drop 29 bytes) ≡ field 8 a 10)
unfolding shown
line_parts bytes k p l a e =
    let w = field 2 k 32 in
    let x = field 16 p 32 in
    let y = field 8 l 32 in
    let z = field 8 a 10 in
    let d₁ = ap (drop 3) e ∙ drop_at w (x ++ (y ++ z)) 3 (length_field 2 k 32) in
    let d₂ = sym (drop-drop 17 3 bytes) ∙ ap (drop 17) d₁ ∙ drop_at x (y ++ z) 17 (length_field 16 p 32) in
    let d₃ = sym (drop-drop 9 20 bytes) ∙ ap (drop 9) d₂ ∙ drop_at y z 9 (length_field 8 l 32) in (
      ap (take 3) e ∙ take_at w (x ++ (y ++ z)) 3 (length_field 2 k 32),
      ap (take 17) d₁ ∙ take_at x (y ++ z) 17 (length_field 16 p 32),
      ap (take 9) d₂ ∙ take_at y z 9 (length_field 8 l 32),
      ap (take 9) d₃ ∙ take_all 9 z (omega (arith, length_field 8 a 10)),
    )

-- a part of so many bytes has one digit less
sized : (part : List ℕ) (n v e : ℕ) → length part ≡ suc n → Field part e (Some v) → (v < 16 ^ n) × (part ≡ field n v e)
sized part n v e h (k, f, q) =
    let m : k ≡ n = omega (arith, ap length q, length_field k v e) in
    (subst (λ (i : ℕ). v < 16 ^ i) m f, q ∙ ap (λ (i : ℕ). field i v e) m)

pub line_whole : (bytes : List ℕ) (k p l a : ℕ) → length bytes ≡ 38 → Field (take 3 bytes) 32 (Some k) → Field (take 17 (drop 3 bytes)) 32 (Some p)
    → Field (take 9 (drop 20 bytes)) 32 (Some l) → Field (take 9 (drop 29 bytes)) 10 (Some a) → Fits (line k p l a) × (bytes ≡ shown (line k p l a))
unfolding shown
line_whole bytes k p l a h f₁ f₂ f₃ f₄ =
    let l₁ = length-drop 3 bytes in
    let l₂ = length-drop 20 bytes in
    let l₃ = length-drop 29 bytes in
    let z₁ = sized (take 3 bytes) 2 k 32 (length-take-le 3 bytes (omega arith)) f₁ in
    let z₂ = sized (take 17 (drop 3 bytes)) 16 p 32 (length-take-le 17 (drop 3 bytes) (omega arith)) f₂ in
    let z₃ = sized (take 9 (drop 20 bytes)) 8 l 32 (length-take-le 9 (drop 20 bytes) (omega arith)) f₃ in
    let z₄ = sized (take 9 (drop 29 bytes)) 8 a 10 (length-take-le 9 (drop 29 bytes) (omega arith)) f₄ in
    let d₃ = sym (take-append-drop 9 (drop 20 bytes)) ∙ ap (λ (x : List ℕ). take 9 (drop 20 bytes) ++ x) (drop-drop 9 20 bytes) in
    let d₂ = sym (take-append-drop 17 (drop 3 bytes)) ∙ ap (λ (x : List ℕ). take 17 (drop 3 bytes) ++ x) (drop-drop 17 3 bytes ∙ d₃) in
    let d₁ = sym (take-append-drop 3 bytes) ∙ ap (λ (x : List ℕ). take 3 bytes ++ x) d₂ in
    let e₁ = z₁.1 in
    let e₂ = z₂.1 in
    let e₃ = z₃.1 in
    let e₄ = sym (take_all 9 (drop 29 bytes) (omega arith)) ∙ z₄.1 in
    ((z₁.0, z₂.0, z₃.0, z₄.0), cc)

-- what has another length, or another thing where a number should be, is no line
pub no_length : (bytes : List ℕ) → (length bytes ≡ 38 → ⊥) → (l : Line) → bytes ≡ shown l → ⊥
no_length bytes h l e = h (ap length e ∙ length_shown l)

pub no_kind : (bytes : List ℕ) → Field (take 3 bytes) 32 None → (l : Line) → bytes ≡ shown l → ⊥
no_kind bytes bare (line k p l a) e = bare 2 k (line_parts bytes k p l a e).0

pub no_payload : (bytes : List ℕ) → Field (take 17 (drop 3 bytes)) 32 None → (l : Line) → bytes ≡ shown l → ⊥
no_payload bytes bare (line k p l a) e = bare 16 p (line_parts bytes k p l a e).1

pub no_number : (bytes : List ℕ) → Field (take 9 (drop 20 bytes)) 32 None → (l : Line) → bytes ≡ shown l → ⊥
no_number bytes bare (line k p l a) e = bare 8 l (line_parts bytes k p l a e).2

pub no_after : (bytes : List ℕ) → Field (take 9 (drop 29 bytes)) 10 None → (l : Line) → bytes ≡ shown l → ⊥
no_after bytes bare (line k p l a) e = bare 8 a (line_parts bytes k p l a e).3

-- where the next 38 bytes are no line, or there are fewer, no line's bytes stand in front
pub no_line : (rest bytes after : List ℕ) → rest ≡ bytes ++ after → length bytes ≡ min 38 (length rest) → ((l : Line) → bytes ≡ shown l → ⊥) → NoLine rest
no_line rest bytes after e h bare l m f =
    let n : length bytes ≡ 38 = omega (arith, ap length f, length-append (shown l) m, length_shown l) in
    bare l (sym (take_at bytes after 38 n) ∙ ap (take 38) (sym e ∙ f) ∙ take_at (shown l) m 38 (length_shown l))

-- one line more
fit_more : (l : Line) {ls : List Line} → Fits l → AllFit ls → AllFit (ls ++ l ∷ [])
fit_more l f none = more f none
fit_more l f (more g gs) = more g (fit_more l f gs)

length_fours : (l : Line) → length (fours l) ≡ 4
length_fours (line k p l a) = refl

-- the words of a line, one by one
pub four_words : (l : Line) (ws : List ℕ) → ws ≡ fours l → record_words (get_or ws 0 0) (get_or ws 1 0) (get_or ws 2 0) (get_or ws 3 0) ≡ fours l
four_words (line k p l a) ws e = ap (λ (x : List ℕ). record_words (get_or x 0 0) (get_or x 1 0) (get_or x 2 0) (get_or x 3 0)) e

pub length_words : (ls : List Line) → length (words ls) ≡ length ls * 4
length_words [] = refl
length_words (l ∷ ls) = omega (arith, length-append (fours l) (words ls), length_fours l, length_words ls)

pub each_more : (f : Line → List ℕ) (ls : List Line) (l : Line) → each f (ls ++ l ∷ []) ≡ each f ls ++ f l
each_more f [] l = append-nil (f l)
each_more f (k ∷ ls) l = ap (λ (x : List ℕ). f k ++ x) (each_more f ls l) ∙ sym (append_assoc (f k) (each f ls) (f l))

pub taken_more : (ls : List Line) (l : Line) (n most : ℕ) (s : List ℕ) {s₁ s₂ : List ℕ} → Taken ls n most s s₁ → n < most → Fits l
    → s₂ ≡ sets s₁ (n * 4) (fours l) → Taken (ls ++ l ∷ []) (n + 1) most s s₂
taken_more ls l n most s t h f e =
    let c = t.count in
    record {
      fit = fit_more l f t.fit;
      count = omega (arith, length-append ls (l ∷ []));
      few = omega arith;
      stored =
          put_after s 0 (n * 4) (words ls) (fours l) (omega (arith, length_words ls)) t.stored e
          ∙ ap (λ (x : List ℕ). sets s 0 x) (sym (each_more fours ls l));
    }

pub text_more : (ls : List Line) (l : Line) (text d e : List ℕ) → text ≡ show ls ++ d → d ≡ shown l ++ e → text ≡ show (ls ++ l ∷ []) ++ e
text_more ls l text d e a b =
    a ∙ ap (λ (x : List ℕ). show ls ++ x) b ∙ sym (append_assoc (show ls) (shown l) e) ∙ ap (λ (x : List ℕ). x ++ e) (sym (each_more shown ls l))

-- a line, and an answer, written field by field
pub put_line : (o : List ℕ) (at a b c d : ℕ) {o₁ o₂ o₃ o₄ : List ℕ} → o₁ ≡ sets o (at + 0) (field 2 a 32) → o₂ ≡ sets o₁ (at + 3) (field 16 b 32)
    → o₃ ≡ sets o₂ (at + 20) (field 8 c 32) → o₄ ≡ sets o₃ (at + 29) (field 8 d 10) → o₄ ≡ sets o at (shown (line a b c d))
unfolding shown
put_line o at a b c d e₁ e₂ e₃ e₄ =
    let w = field 2 a 32 in
    let x = field 16 b 32 in
    let y = field 8 c 32 in
    let z = field 8 d 10 in
    let l₁ = length_field 2 a 32 in
    let l₂ = length_field 16 b 32 in
    let l₃ = length_field 8 c 32 in
    let f₁ = e₁ ∙ ap (λ (k : ℕ). sets o k w) (add-zero at) in
    let f₂ = put_after o at (at + 3) w x (omega arith) f₁ e₂ in
    let f₃ = put_after o at (at + 20) (w ++ x) y (omega (arith, length-append w x)) f₂ e₃ in
    let f₄ = put_after o at (at + 29) ((w ++ x) ++ y) z (omega (arith, length-append (w ++ x) y, length-append w x)) f₃ e₄ in
    f₄ ∙ ap (sets o at) (assoc_left w x y z)

pub put_answer_lem : (o : List ℕ) (a b c d e : ℕ) {o₁ o₂ o₃ o₄ o₅ : List ℕ} → o₁ ≡ sets o 0 (field 8 a 32) → o₂ ≡ sets o₁ 9 (field 8 b 32)
    → o₃ ≡ sets o₂ 18 (field 8 c 32) → o₄ ≡ sets o₃ 27 (field 8 d 32) → o₅ ≡ sets o₄ 36 (field 8 e 10) → o₅ ≡ sets o 0 (shown_answer a b c d e)
unfolding shown_answer
put_answer_lem o a b c d e e₁ e₂ e₃ e₄ e₅ =
    let v = field 8 a 32 in
    let w = field 8 b 32 in
    let x = field 8 c 32 in
    let y = field 8 d 32 in
    let z = field 8 e 10 in
    let l₁ = length_field 8 a 32 in
    let l₂ = length_field 8 b 32 in
    let l₃ = length_field 8 c 32 in
    let l₄ = length_field 8 d 32 in
    let f₂ = put_after o 0 9 v w (omega arith) e₁ e₂ in
    let f₃ = put_after o 0 18 (v ++ w) x (omega (arith, length-append v w)) f₂ e₃ in
    let f₄ = put_after o 0 27 ((v ++ w) ++ x) y (omega (arith, length-append (v ++ w) x, length-append v w)) f₃ e₄ in
    let f₅ = put_after o 0 36 (((v ++ w) ++ x) ++ y) z (omega (arith, length-append ((v ++ w) ++ x) y, length-append (v ++ w) x, length-append v w)) f₄ e₅ in
    f₅ ∙ ap (sets o 0) (assoc5 v w x y z)
