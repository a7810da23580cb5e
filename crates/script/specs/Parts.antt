-- What the private functions tell. Assumes nothing: these are definitions.
use Rattle.std.specs.Prelude.{◌≡◌, List, ℕ, replicate}
use Rattle.std.proofs.lemmas.List.Edits.{sets}
use Rattle.lines.specs.Lines.{Line, show, words}
use Rattle.parser.specs.declared.Answer.{Answer}
use Rattle.agreed.specs.Agreed.{Agreed}
use Rattle.script.specs.Answers.{Printed, Put}

-- the lines of the records in these words, as far as they fit
abbrev pub Wrote : (ws out out' : List ℕ) → Type 0
Wrote ws out out' = (records : List Line) × (words records ≡ ws) × (out' ≡ sets out 0 (show records))

-- the same, where there is room
abbrev pub PutTree : (ws out out' : List ℕ) (k : ℕ) → Type 0
PutTree ws out out' k = (records : List Line) × (words records ≡ ws) × Put (show records) out out' k

-- what is printed for a stream's agreed reading
pub record Reading (stream out out' : List ℕ) (k : ℕ) : Type 0 where
  pub answer : Answer
  pub nodes : List ℕ
  pub bytes : List ℕ
  pub agreed : Agreed stream (replicate 8192 0) nodes answer
  pub printed : Printed answer nodes bytes
  pub put : Put bytes out out' k
