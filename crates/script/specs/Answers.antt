-- What 01's program prints for a text, and what becomes of the array that it is written to. Assumes nothing: these are definitions.
use Rattle.std.specs.Prelude.{◌≡◌, List, [], ◌++◌, ◌⊎◌, ℕ, ◌≤◌, ◌<◌, length, take, drop, replicate}
use Rattle.lines.specs.Lines.{Line, AllFit, show, words, shown_answer, NoLine}
use Rattle.parser.specs.declared.Answer.{Answer}
use Rattle.agreed.specs.Agreed.{Agreed}

-- the five numbers of an answer, on one line
abbrev pub five : Answer → List ℕ
five a = shown_answer a.number a.line a.found a.expected a.count

-- of an answer and the words that the node array then has: the tree, a record a line; or the five numbers
pub data Printed (a : Answer) (nodes bytes : List ℕ) : Type 0 where
  tree : (records : List Line) → a.number ≡ 0 → words records ≡ take a.count nodes → bytes ≡ show records → Printed a nodes bytes
  numbers : (a.number ≡ 0 → ⊥) → bytes ≡ five a → Printed a nodes bytes

-- at most 1,025 lines and nothing else: what the agreed reading of their words answers, into 2,048 records;
-- or something more after the first so many, which are 1,025 or are not followed by a line: 6 and that line's index
pub data Says (text bytes : List ℕ) : Type 0 where
  reads : (lines : List Line) → AllFit lines → length lines ≤ 1025 → text ≡ show lines
      → (a : Answer) (nodes : List ℕ) → Agreed (words lines) (replicate 8192 0) nodes a → Printed a nodes bytes → Says text bytes
  refuses : (lines : List Line) (rest : List ℕ) → AllFit lines → length lines ≤ 1025 → text ≡ show lines ++ rest → (rest ≡ [] → ⊥)
      → (length lines ≡ 1025) ⊎ NoLine rest → bytes ≡ shown_answer 6 0 (length lines) 0 0 → Says text bytes

-- k bytes: at the front of the array, if they fit in it; else it is unchanged
pub record Put (bytes out out' : List ℕ) (k : ℕ) : Type 0 where
  pub count : k ≡ length bytes
  pub fits : k ≤ length out → out' ≡ bytes ++ drop k out
  pub short : length out < k → out' ≡ out

abbrev pub Answers : (text out out' : List ℕ) (k : ℕ) → Type 0
Answers text out out' k = (bytes : List ℕ) × Says text bytes × Put bytes out out' k
