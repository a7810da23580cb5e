-- What is said of a text leaves one answer, which depends on the first 38,951 bytes alone: 1,025 lines of 38 bytes, and one that shows that
-- there is more. Assumes nothing.
use mathlib.Core.Path.{◌≡◌, refl, sym, ap, ◌∙◌, subst}
use mathlib.Core.List.{List, [], ◌∷◌, ◌++◌, append-nil, append_assoc}
use mathlib.Core.Logic.{◌⊎◌, ◌↔◌, inl, inr, ⊎_elim, by_cases}
use Prim.Native.Nat.{ℕ, ◌+◌, ◌-◌, ◌*◌, ◌≤◌, ◌<◌}
use native.Mathlib.Decide.{dec_lt}
use native.Mathlib.Omega.{arith}
use lib.ListN.{length, take, drop, replicate, length-append, length-take, length-replicate, take-append-drop, drop_of_length-le}
use lib.Seq.{sets, take_all, take_at, take-append-le, take-append-add}
use Rattle.lines.specs.Lines.{Line, line, AllFit, shown, show, words, shown_answer, Taken, NoLine, Told}
use Rattle.std.specs.Prelude.{Result, Ok, Err}
use Rattle.lines.specs.declared.BadLine.{BadLine}
use Rattle.lines.proofs.Text.{length_shown, length_words}
use Rattle.lines.proofs.Decided.{decided as read_one}
use Rattle.parser.specs.declared.Answer.{Answer}
use Rattle.agreed.specs.Agreed.{Agreed}
use Rattle.agreed.proofs.Decided.{decided as agreed-one}
use Rattle.script.specs.Answers.{Printed, tree, numbers, Says, reads, refuses, Answers}
use Rattle.script.proofs.Written.{length_answer, length_show}
use Rattle.script.proofs.Said.{counted, stored}

words_one : (rs ss : List Line) → words rs ≡ words ss → rs ≡ ss
words_one [] [] e = refl
words_one [] (line a b c d ∷ ss) e = absurd (omega (arith, ap length e))
words_one (line a b c d ∷ rs) [] e = absurd (omega (arith, ap length e))
words_one (line a b c d ∷ rs) (line a' b' c' d' ∷ ss) e = let z = words_one rs ss (cc) in cc

-- one thing is printed for an answer
printed_one : (a : Answer) (nodes : List ℕ) {b c : List ℕ} → Printed a nodes b → Printed a nodes c → b ≡ c
printed_one a nodes (tree rs e w p) (tree ss f x q) = p ∙ ap show (words_one rs ss (w ∙ sym x)) ∙ sym q
printed_one a nodes (tree rs e w p) (numbers f q) = absurd (f e)
printed_one a nodes (numbers e p) (tree ss f x q) = absurd (e f)
printed_one a nodes (numbers e p) (numbers f q) = p ∙ sym q

-- what a text's lines are
abbrev none : List ℕ
none = replicate 4100 0

abbrev good : ℕ → Result ℕ BadLine
good n = Ok n

abbrev bad : ℕ → Result ℕ BadLine
bad i = Err (record { index = i })

abbrev fault : Result ℕ BadLine → ℕ
fault (Ok n) = 0
fault (Err b) = b.index

module _ (text : List ℕ) (ls : List Line) (f : AllFit ls) (few : length ls ≤ 1025) where
  taken : Taken ls (length ls) 1025 none (sets none 0 (words ls))
  taken = record { fit = f; count = refl; few = few; stored = refl }

  whole : text ≡ show ls → Told text 1025 none (sets none 0 (words ls)) (good (length ls))
  whole e = (ls, taken, e)

  part : (rest : List ℕ) → text ≡ show ls ++ rest → (rest ≡ [] → ⊥) → (length ls ≡ 1025) ⊎ NoLine rest → Told text 1025 none (sets none 0 (words ls)) (bad (length ls))
  part rest e more why = (ls, rest, taken, e, more, why)

same_words : (ls ks : List Line) → length ls ≤ 1025 → length ks ≤ 1025 → good (length ls) ≡ good (length ks) → sets none 0 (words ls) ≡ sets none 0 (words ks) → words ls ≡ words ks
same_words ls ks f g e s =
    let n : length ls * 4 ≡ length ks * 4 = let z : length ls ≡ length ks = cc in omega arith in
    let r = length-replicate {A = ℕ} 4100 0 in
    sym (stored ls none (omega arith)) ∙ ap (λ (k : ℕ). take k (sets none 0 (words ls))) n ∙ ap (take (length ks * 4)) s ∙ stored ks none (omega arith)

-- if the text is at most 1,025 lines: what is printed for their words' agreed reading, whichever meets its promise
pub read : {text bytes : List ℕ} → Says text bytes → (ls : List Line) → AllFit ls → length ls ≤ 1025 → text ≡ show ls
    → (a : Answer) (nodes : List ℕ) → Agreed (words ls) (replicate 8192 0) nodes a → Printed a nodes bytes
read {text} {bytes} (reads ks g h' e' b ms y p) ls f h e a ns x =
    let z = read_one text 1025 none _ _ (good (length ks)) (good (length ls)) (whole text ks g h' e') (whole text ls f h e) in
    let w = same_words ks ls h' h z.0 z.1 in
    let u = agreed-one (words ls) (replicate 8192 0) (subst (λ (v : List ℕ). Agreed v (replicate 8192 0) ms b) w y) x in
    subst (λ (v : Answer). Printed v ns bytes) u.0 (subst (λ (v : List ℕ). Printed b v bytes) u.1 p)
read {text} (refuses ks r g h' e' more why p) ls f h e a ns x =
    let z = (read_one text 1025 none _ _ (bad (length ks)) (good (length ls)) (part text ks g h' r e' more why) (whole text ls f h e)).0 in
    absurd (let q : ◌≡◌ {A = ℕ} 0 1 = cc in omega arith)

-- if it is not: 6, and the line
pub refused : {text bytes : List ℕ} → Says text bytes → (ls : List Line) (rest : List ℕ) → AllFit ls → length ls ≤ 1025 → text ≡ show ls ++ rest
    → (rest ≡ [] → ⊥) → (length ls ≡ 1025) ⊎ NoLine rest → bytes ≡ shown_answer 6 0 (length ls) 0 0
refused {text} (reads ks g h' e' b ms y p) ls r f h e more why =
    let z = (read_one text 1025 none _ _ (good (length ks)) (bad (length ls)) (whole text ks g h' e') (part text ls f h r e more why)).0 in
    absurd (let q : ◌≡◌ {A = ℕ} 0 1 = cc in omega arith)
refused {text} (refuses ks q g h' e' more' why' p) ls r f h e more why =
    let z = (read_one text 1025 none _ _ (bad (length ks)) (bad (length ls)) (part text ks g h' q e' more' why') (part text ls f h r e more why)).0 in
    let n : length ks ≡ length ls = ap fault z in
    p ∙ ap (λ (i : ℕ). shown_answer 6 0 i 0 0) n

says_one : {text b c : List ℕ} → Says text b → Says text c → b ≡ c
says_one x (reads ls f h e a ns y p) = printed_one a ns (read x ls f h e a ns y) p
says_one x (refuses ls r f h e more why p) = refused x ls r f h e more why ∙ sym p

-- no second answer would do
pub decided : (text out : List ℕ) {o₁ o₂ : List ℕ} (k m : ℕ) → Answers text out o₁ k → Answers text out o₂ m → (o₁ ≡ o₂) × (k ≡ m)
decided text out k m (b, x, p) (c, y, q) =
    let e = says_one x y in
    let n : k ≡ m = p.count ∙ ap length e ∙ sym q.count in (
      by_cases (dec_lt (length out) k) (λ l. p.short l ∙ sym (q.short (omega arith)))
          (λ l. p.fits (omega arith) ∙ ap (λ (z : List ℕ). z ++ drop k out) e ∙ ap (λ (i : ℕ). c ++ drop i out) n ∙ sym (q.fits (omega arith))),
      n,
    )

-- 2,048 lines are the most
at_most : {text bytes : List ℕ} → Says text bytes → length bytes ≤ 77824
at_most (reads ls f h e a ns y (tree rs z w p)) =
    let m = (counted (words ls) y z).1 in
    omega (arith, ap length p, length_show rs, length_words rs, ap length w, length-take a.count ns)
at_most (reads ls f h e a ns y (numbers z p)) = omega (arith, ap length p, length_answer a.number a.line a.found a.expected a.count)
at_most (refuses ls r f h e more why p) = omega (arith, ap length p, length_answer 6 0 (length ls) 0 0)

pub takes : (text out : List ℕ) {out' : List ℕ} (k : ℕ) → Answers text out out' k → k ≤ 77824
takes text out k (b, x, p) = omega (arith, p.count, at_most x)

-- where there is no line, there is none in what stands in front
no_line_front : (r d : List ℕ) → NoLine (r ++ d) → NoLine r
no_line_front r d bare l m e = bare l (m ++ d) (ap (λ (x : List ℕ). x ++ d) e ∙ append_assoc (shown l) m d)

-- nor in what goes on after 38 bytes
no_line_on : (r d : List ℕ) → 38 ≤ length r → NoLine r → NoLine (r ++ d)
no_line_on r d h bare l m e =
    let n = length_shown l in
    let q : take 38 r ≡ shown l = sym (take-append-le 38 r d h) ∙ ap (take 38) e ∙ take_at (shown l) m 38 n in
    bare l (drop 38 r) (sym (take-append-drop 38 r) ∙ ap (λ (x : List ℕ). x ++ drop 38 r) q)

some_front : (r : List ℕ) (n : ℕ) → 0 < n → (r ≡ [] → ⊥) → take n r ≡ [] → ⊥
some_front [] n h more e = more refl
some_front (x ∷ r) n h more e = omega (arith, ap length e, length-take n (x ∷ r))

nil_front : (r d : List ℕ) → r ++ d ≡ [] → r ≡ []
nil_front [] d e = refl
nil_front (x ∷ r) d e = absurd (omega (arith, ap length e))

-- the first 38,951 bytes are enough
pub enough : (text bytes : List ℕ) → Says text bytes ↔ Says (take 38951 text) bytes
enough text bytes = (to, from)
  where
    short : (ls : List Line) → length ls ≤ 1025 → text ≡ show ls → take 38951 text ≡ show ls
    short ls h e = take_all 38951 text (omega (arith, ap length e, length_show ls)) ∙ e

    to : Says text bytes → Says (take 38951 text) bytes
    to (reads ls f h e a ns y p) = reads ls f h (short ls h e) a ns y p
    to (refuses ls r f h e more why p) =
        let n = length_show ls in
        let j = 38951 - length (show ls) in
        let q : length (show ls) + j ≡ 38951 = omega arith in
        refuses ls (take j r) f h (ap (take 38951) e ∙ ap (λ (i : ℕ). take i (show ls ++ r)) (sym q) ∙ take-append-add (show ls) r j) (some_front r j (omega arith) more)
        (⊎_elim (λ i. inl i) (λ bare. inr (no_line_front (take j r) (drop j r) (subst NoLine (sym (take-append-drop j r)) bare))) why) p

    from : Says (take 38951 text) bytes → Says text bytes
    from (reads ls f h e a ns y p) =
        let l : length text ≤ 38951 = omega (arith, ap length e, length_show ls, length-take 38951 text) in
        reads ls f h (sym (take_all 38951 text l) ∙ e) a ns y p
    from (refuses ls r f h e more why p) =
        let n = length_show ls in
        let d = drop 38951 text in
        let m = ap length e in
        let k = length-append (show ls) r in
        let t = length-take 38951 text in
        let w : text ≡ show ls ++ (r ++ d) = sym (take-append-drop 38951 text) ∙ ap (λ (x : List ℕ). x ++ d) e ∙ append_assoc (show ls) r d in
        refuses ls (r ++ d) f h w (λ z. more (nil_front r d z))
        (⊎_elim (λ i. inl i)
        (λ bare. by_cases (dec_lt (length text) 38952)
        (λ l. inr (subst NoLine (sym (ap (λ (x : List ℕ). r ++ x) (drop_of_length-le text {i = 38951} (omega arith)) ∙ append-nil r)) bare))
        (λ l. by_cases (dec_lt (length ls) 1025) (λ g. inr (no_line_on r d (omega arith) bare)) (λ g. inl (omega arith)))) why) p
