-- Bytes at the front of an array; records and their lines. Assumes nothing.
use mathlib.Core.Path.{◌≡◌, refl, sym, ap, ◌∙◌}
use mathlib.Core.List.{List, [], ◌∷◌, ◌++◌}
use Prim.Native.Nat.{ℕ, zero, suc, ◌+◌, ◌*◌, ◌/◌, ◌≤◌, ◌<◌}
use native.Mathlib.Omega.{arith}
use lib.ListN.{length, take, drop, get_or, length-append, length-drop}
use lib.Seq.{sets, sets-eq, length-take-le, take-add, drop-drop}
use Rattle.std.specs.Simd.{first_chunks}
use Rattle.lines.specs.Lines.{Line, line, shown, show, fours, words, shown_answer, field}
use Rattle.lines.proofs.Hex.{length_field, put_after}
use Rattle.lines.proofs.Text.{length_shown, length_words, each_more}
use Rattle.script.specs.Answers.{Put}
use Rattle.script.specs.Parts.{Wrote, PutTree}

length5 : (a b c d e : List ℕ) → length (a ++ (b ++ (c ++ (d ++ e)))) ≡ length a + (length b + (length c + (length d + length e)))
length5 a b c d e = simp length-append

pub length_answer : (a b c d e : ℕ) → length (shown_answer a b c d e) ≡ 45
unfolding shown_answer
length_answer a b c d e =
    omega (
      arith,
      length5 (field 8 a 32) (field 8 b 32) (field 8 c 32) (field 8 d 32) (field 8 e 10),
      length_field 8 a 32,
      length_field 8 b 32,
      length_field 8 c 32,
      length_field 8 d 32,
      length_field 8 e 10,
    )

pub length_show : (ls : List Line) → length (show ls) ≡ length ls * 38
length_show [] = refl
length_show (l ∷ ls) = omega (arith, length-append (shown l) (show ls), length_shown l, length_show ls)

-- so many bytes, written or not
pub put : (bytes out : List ℕ) {out' : List ℕ} (k : ℕ) → length bytes ≡ k → k ≤ length out → out' ≡ sets out 0 bytes → Put bytes out out' k
put bytes out k e h w =
    record {
      count = sym e;
      fits = λ _. let q : 0 + length bytes ≡ k = omega arith in w ∙ sets-eq bytes out 0 (omega arith) ∙ ap (λ (n : ℕ). bytes ++ drop n out) q;
      short = λ s. absurd (omega arith);
    }

pub put_none : (bytes out : List ℕ) (k : ℕ) → length bytes ≡ k → length out < k → Put bytes out out k
put_none bytes out k e h = record { count = sym e; fits = λ f. absurd (omega arith); short = λ _. refl }

-- words in fours are records
grouped : (n : ℕ) (ws : List ℕ) → length ws ≡ n * 4 → (ls : List Line) × (words ls ≡ ws)
grouped zero [] e = ([], refl)
grouped zero (w ∷ ws) e = absurd (omega arith)
grouped (suc n) [] e = absurd (omega arith)
grouped (suc n) (a ∷ []) e = absurd (omega arith)
grouped (suc n) (a ∷ b ∷ []) e = absurd (omega arith)
grouped (suc n) (a ∷ b ∷ c ∷ []) e = absurd (omega arith)
grouped (suc n) (a ∷ b ∷ c ∷ d ∷ ws) e = let z = grouped n ws (omega arith) in (line a b c d ∷ z.0, ap (λ (x : List ℕ). a ∷ b ∷ c ∷ d ∷ x) z.1)

-- four words more
chunk_at : (n i : ℕ) (ws d : List ℕ) → i < n → get_or (first_chunks 4 n ws) i d ≡ take 4 (drop (i * 4) ws)
chunk_at zero i ws d h = absurd (omega arith)
chunk_at (suc n) zero ws d h = refl
chunk_at (suc n) (suc i) ws d h =
    let e : 4 + i * 4 ≡ suc i * 4 = omega arith in
    chunk_at n i (drop 4 ws) d (omega arith) ∙ ap (take 4) (drop-drop (i * 4) 4 ws ∙ ap (λ (k : ℕ). drop k ws) e)

four : (w : List ℕ) → length w ≡ 4 → fours (line (get_or w 0 0) (get_or w 1 0) (get_or w 2 0) (get_or w 3 0)) ≡ w
four [] e = absurd (omega arith)
four (a ∷ []) e = absurd (omega arith)
four (a ∷ b ∷ []) e = absurd (omega arith)
four (a ∷ b ∷ c ∷ []) e = absurd (omega arith)
four (a ∷ b ∷ c ∷ d ∷ []) e = refl
four (a ∷ b ∷ c ∷ d ∷ x ∷ w) e = absurd (omega arith)

pub wrote_more : (ws out : List ℕ) {out₁ out₂ : List ℕ} (n i : ℕ) (w d : List ℕ) → n * 4 ≡ length ws → i < n → w ≡ get_or (first_chunks 4 n ws) i d
    → Wrote (take (i * 4) ws) out out₁ → out₂ ≡ sets out₁ (i * 38) (shown (line (get_or w 0 0) (get_or w 1 0) (get_or w 2 0) (get_or w 3 0)))
    → Wrote (take ((i + 1) * 4) ws) out out₂
wrote_more ws out n i w d q h f (ls, a, b) e =
    let l = line (get_or w 0 0) (get_or w 1 0) (get_or w 2 0) (get_or w 3 0) in
    let g = f ∙ chunk_at n i ws d h in
    let z : length w ≡ 4 = omega (arith, ap length g, length-take-le 4 (drop (i * 4) ws) (omega (arith, length-drop (i * 4) ws))) in
    let t : i * 4 + 4 ≡ (i + 1) * 4 = omega arith in
    let m : i * 38 ≡ 0 + length (show ls) = omega (arith, length_show ls, length_words ls, ap length a, length-take-le (i * 4) ws (omega arith)) in (
      ls ++ l ∷ [],
      each_more fours ls l ∙ ap (λ (x : List ℕ). x ++ fours l) a ∙ ap (λ (x : List ℕ). take (i * 4) ws ++ x) (four w z ∙ g)
          ∙ sym (take-add (i * 4) 4 ws) ∙ ap (λ (k : ℕ). take k ws) t,
      put_after out 0 (i * 38) (show ls) (shown l) m b e ∙ ap (sets out 0) (sym (each_more shown ls l)),
    )

-- a tree's lines, written or not
pub put_tree_lem : (ws out : List ℕ) {out' : List ℕ} (k : ℕ) → length ws / 4 * 4 ≡ length ws → length ws / 4 * 38 ≡ k → k ≤ length out → Wrote ws out out' → PutTree ws out out' k
put_tree_lem ws out k e f g (ls, a, b) = (ls, a, put (show ls) out k (omega (arith, length_show ls, length_words ls, ap length a)) g b)

pub put_tree_none : (ws out : List ℕ) (k : ℕ) → length ws / 4 * 4 ≡ length ws → length ws / 4 * 38 ≡ k → length out < k → PutTree ws out out k
put_tree_none ws out k e f g =
    let z = grouped (length ws / 4) ws (sym e) in
    (z.0, z.1, put_none (show z.0) out k (omega (arith, length_show z.0, length_words z.0, ap length z.1)) g)
