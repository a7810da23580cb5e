-- What `reading_line` tells, from the words of the stream. Assumes nothing.
use Rattle.std.proofs.Common.{◌≡◌, ℕ, ◌+◌, ◌-◌, ◌*◌, ◌<◌, ◌≤◌, List, get_or, sym}
use Rattle.stream.specs.Words.{records}
use Rattle.stream.specs.Reader.{told}
use Rattle.stream.proofs.Words.{word_at, word_past}

-- the line told is the after-line of the record before the mark, or 0 past the last
pub told_at : (s : List ℕ) (p m : ℕ) → p ≡ m - 1 → p < records s → get_or s (p * 4 + 3) 0 ≡ told s m
told_at s p m e l = rw (← e) (sym (word_at s p 3 0 l))

pub told_past : (s : List ℕ) (p m : ℕ) → p ≡ m - 1 → records s ≤ p → 0 ≡ told s m
told_past s p m e l = rw (← e) (sym (word_past s p 3 0 l))
