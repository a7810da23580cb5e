-- What is said of a text, from what was read of it. Assumes nothing.
use mathlib.Core.Path.{◌≡◌, refl, sym, ap, ◌∙◌, subst}
use mathlib.Core.List.{List}
use mathlib.Core.Logic.{◌⊎◌}
use Prim.Native.Nat.{ℕ, ◌+◌, ◌*◌, ◌/◌, ◌≤◌}
use native.Mathlib.Omega.{arith}
use lib.ListN.{length, take, drop, replicate, length-append, length-replicate}
use lib.Seq.{sets, sets-eq, take_at}
use Rattle.tree.specs.Forest.{size, flat}
use Rattle.tree.proofs.Lay.{length_flat}
use Rattle.lines.specs.Lines.{Line, words, shown_answer, NoLine, Told}
use Rattle.std.specs.Prelude.{Ok, Err}
use Rattle.lines.specs.declared.BadLine.{BadLine}
use Rattle.lines.proofs.Text.{length_words}
use Rattle.parser.specs.declared.Answer.{Answer}
use Rattle.agreed.specs.Agreed.{Agreed}
use Rattle.agreed.proofs.Theorems.{hands_over, handed}
use Rattle.script.specs.Answers.{five, tree, numbers, reads, refuses, Put, Answers}
use Rattle.script.specs.Parts.{PutTree, Reading}

-- a tree that is handed over has its records in the array
pub counted : (s : List ℕ) {nodes : List ℕ} {a : Answer} → Agreed s (replicate 8192 0) nodes a → a.number ≡ 0
    → (a.count / 4 * 4 ≡ a.count) × (a.count ≤ 8192) × (a.count ≤ length nodes)
counted s {nodes} {a} x z =
    let room : List ℕ = replicate 8192 0 in
    let h = (hands_over s room nodes a x).0 z in
    let y = handed s room nodes a x h in
    let t = h.it in
    let c : a.count ≡ size t * 4 = ap (λ (b : Answer). b.count) y.0 in
    let r = h.room in
    let l = length-replicate {A = ℕ} 8192 0 in
    let n = ap length y.1 ∙ length-append (flat t) (drop (size t * 4) room) in
    let m = length_flat t in
    (omega arith, omega arith, omega arith)

pub told_tree : (s out : List ℕ) {nodes out' : List ℕ} {a : Answer} (k : ℕ) → Agreed s (replicate 8192 0) nodes a → a.number ≡ 0
    → PutTree (take a.count nodes) out out' k → Reading s out out' k
told_tree s out k x z (rs, w, p) = record { answer = _; nodes = _; bytes = _; agreed = x; printed = tree rs z w refl; put = p }

pub told_numbers : (s out : List ℕ) {nodes out' : List ℕ} {a : Answer} (k : ℕ) → Agreed s (replicate 8192 0) nodes a → (a.number ≡ 0 → ⊥)
    → Put (five a) out out' k → Reading s out out' k
told_numbers s out k x z p = record { answer = _; nodes = _; bytes = _; agreed = x; printed = numbers z refl; put = p }

-- the words of a stream that was stored
pub stored : (ls : List Line) (s : List ℕ) → length ls * 4 ≤ length s → take (length ls * 4) (sets s 0 (words ls)) ≡ words ls
stored ls s h =
    let e = length_words ls in
    ap (take (length ls * 4)) (sets-eq (words ls) s 0 (omega arith)) ∙ take_at (words ls) (drop (0 + length (words ls)) s) (length ls * 4) e

-- a whole text, and one with a line at fault
pub answers_read : (text out : List ℕ) {out' : List ℕ} (s : List ℕ) (n k : ℕ) → Told text 1025 (replicate 4100 0) s (Ok n) → Reading (take (n * 4) s) out out' k
    → Answers text out out' k
answers_read text out s n k (ls, t, e) r =
    let c = t.count in
    let f = t.few in
    let l = length-replicate {A = ℕ} 4100 0 in
    let q : n * 4 ≡ length ls * 4 = omega arith in
    let w : take (n * 4) s ≡ words ls = ap (take (n * 4)) t.stored ∙ ap (λ (i : ℕ). take i (sets (replicate 4100 0) 0 (words ls))) q ∙ stored ls (replicate 4100 0) (omega arith) in
    (r.bytes, reads ls t.fit (omega arith) e r.answer r.nodes (subst (λ (z : List ℕ). Agreed z (replicate 8192 0) r.nodes r.answer) w r.agreed) r.printed, r.put)

pub answers_bad : (text out : List ℕ) {out' : List ℕ} (s s' : List ℕ) (bad : BadLine) (k : ℕ) → Told text 1025 s s' (Err bad) → Put (shown_answer 6 0 bad.index 0 0) out out' k
    → Answers text out out' k
answers_bad text out s s' bad k (ls, rest, t, e, more, why) p =
    let c = t.count in
    (shown_answer 6 0 bad.index 0 0, refuses ls rest t.fit (omega (arith, t.few)) e more (subst (λ (n : ℕ). (n ≡ 1025) ⊎ NoLine rest) (sym c) why) (ap (λ (n : ℕ). shown_answer 6 0 n 0 0) (sym c)), p)
