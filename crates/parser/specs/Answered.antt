-- What a reading promises of its five numbers and of every word of the node array, for any words. Assumes nothing: these are definitions.
use Rattle.std.specs.Prelude.{◌≡◌, Option, None, List, ◌++◌, ℕ, ◌*◌, ◌≤◌, ◌<◌, length, drop, replicate}
use Rattle.stream.specs.Formed.{Formed, Malformed}
use Rattle.stream.specs.declared.reader.Refusal.{Refusal}
use Rattle.operators.specs.Ranks.{ranks}
use Rattle.operators.specs.declared.Ranking.{Ranking}
use Rattle.tree.specs.Forest.{Forest, size, flat}
use Rattle.grammar.specs.Grammar.{Chunk}
use Rattle.grammar.specs.Reading.{fail}
use Rattle.grammar.specs.Levels.{chunk}
use Rattle.quarrel.specs.Notes.{Names}
use Rattle.parser.specs.declared.Answer.{Answer}

-- 01's numbers of a refusal, and of what is told by a count of words alone
abbrev pub refusing : Refusal → Answer
refusing e = record { number = e.number; line = e.line; found = e.found; expected = e.expected; count = 0 }

abbrev pub counting : (number words : ℕ) → Answer
counting number words = record { number = number; line = 0; found = 0; expected = 0; count = words }

-- a refusal leaves every word zero
abbrev pub Zeroed : List ℕ → List ℕ → Type 0
Zeroed n n' = n' ≡ replicate (length n) 0

-- malformed: 6, with the bad record; derived by the grammar within 199 levels: 0, and the tree's words in front of words unchanged, or 7
-- where the array is too short for it; not derived: what the reading tells
pub record Answered (s : List ℕ) (r : Ranking) (n n' : List ℕ) (a : Answer) : Type 0 where
  pub malformed : (p : ℕ) → Malformed s p → (a ≡ refusing (record { number = 6; line = 0; found = p; expected = 0 })) × Zeroed n n'
  pub accepts : (t : Forest) → Formed s → Chunk s (ranks r) 199 t → size t * 4 ≤ length n → (a ≡ counting 0 (size t * 4)) × (n' ≡ flat t ++ drop (size t * 4) n)
  pub short : (t : Forest) → Formed s → Chunk s (ranks r) 199 t → length n < size t * 4 → (a ≡ counting 7 (size t * 4)) × Zeroed n n'
  pub refuses : (e : Refusal) → Formed s → ((t : Forest) → Chunk s (ranks r) 199 t → ⊥) → chunk s (ranks r) 199 ≡ fail e → (a ≡ refusing e) × Zeroed n n'

-- the first token that quarrels in the tree that is derived, or that none does; none, too, where none is derived or the stream is malformed
pub record Noted (s : List ℕ) (r : Ranking) (first : Option ℕ) : Type 0 where
  pub derived : (t : Forest) → Formed s → Chunk s (ranks r) 199 t → Names s t first
  pub underived : ((t : Forest) → Chunk s (ranks r) 199 t → ⊥) → first ≡ None
  pub unformed : (p : ℕ) → Malformed s p → first ≡ None
