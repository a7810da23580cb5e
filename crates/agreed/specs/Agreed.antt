-- What the agreed reading promises of its five numbers and of every word of the node array, for any words. Assumes nothing: these are
-- definitions.
use Rattle.std.specs.Prelude.{◌≡◌, List, ◌++◌, ℕ, ◌*◌, ◌≤◌, ◌<◌, length, drop}
use Rattle.stream.specs.Words.{line}
use Rattle.stream.specs.Formed.{Formed, Malformed}
use Rattle.stream.specs.declared.reader.Refusal.{Refusal}
use Rattle.operators.specs.Ranks.{ranks}
use Rattle.operators.specs.declared.Ranking.TheVariants.{Crate, Manual}
use Rattle.tree.specs.Forest.{Forest, size, flat}
use Rattle.grammar.specs.Grammar.{Chunk}
use Rattle.grammar.specs.Reading.{fail}
use Rattle.grammar.specs.Levels.{chunk}
use Rattle.quarrel.specs.Rule.{First}
use Rattle.parser.specs.declared.Answer.{Answer}
use Rattle.parser.specs.Answered.{refusing, counting, Zeroed}

-- the answer that names a `~=`
abbrev pub quarrelling : List ℕ → ℕ → Answer
quarrelling s i = record { number = 8; line = line s i; found = i; expected = 0; count = 0 }

-- malformed: 6; one tree derived under both rankings within 199 levels: 0 and its words, or 7; two trees: 8 and the first `~=` that quarrels;
-- not derived under the crate's ranking: what that reading tells; derived under it, and not under the manual's: what the manual reading tells
pub record Agreed (s : List ℕ) (n n' : List ℕ) (a : Answer) : Type 0 where
  pub malformed : (p : ℕ) → Malformed s p → (a ≡ refusing (record { number = 6; line = 0; found = p; expected = 0 })) × Zeroed n n'
  pub agrees : (t : Forest) → Formed s → Chunk s (ranks Crate) 199 t → Chunk s (ranks Manual) 199 t → size t * 4 ≤ length n → (a ≡ counting 0 (size t * 4)) × (n' ≡ flat t ++ drop (size t * 4) n)
  pub short : (t : Forest) → Formed s → Chunk s (ranks Crate) 199 t → Chunk s (ranks Manual) 199 t → length n < size t * 4 → (a ≡ counting 7 (size t * 4)) × Zeroed n n'
  pub differs : (t u : Forest) (i : ℕ) → Formed s → Chunk s (ranks Crate) 199 t → Chunk s (ranks Manual) 199 u → (t ≡ u → ⊥) → First s t i → (a ≡ quarrelling s i) × Zeroed n n'
  pub refuses : (e : Refusal) → Formed s → ((t : Forest) → Chunk s (ranks Crate) 199 t → ⊥) → chunk s (ranks Crate) 199 ≡ fail e → (a ≡ refusing e) × Zeroed n n'
  pub deeper : (t : Forest) (e : Refusal) → Formed s → Chunk s (ranks Crate) 199 t → ((u : Forest) → Chunk s (ranks Manual) 199 u → ⊥) → chunk s (ranks Manual) 199 ≡ fail e → (a ≡ refusing e) × Zeroed n n'
