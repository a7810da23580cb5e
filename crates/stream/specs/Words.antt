-- The words of a stream, four a record: kind, payload, line, after-line. Assumes nothing: these are definitions.
use Rattle.std.specs.Prelude.{ℕ, ◌+◌, ◌*◌, ◌/◌, true, false, List, length, nat_lt, slice_index_or}
use Rattle.stream.specs.Kinds.{EndOfStream}

-- how many whole records there are, the end's among them
abbrev pub records : List ℕ → ℕ
records s = length s / 4

-- word k of record p, and d where there is no such record
unfoldable pub word : List ℕ → (p k d : ℕ) → ℕ
word s p k d = elim (nat_lt p (records s)) [ true ↦ slice_index_or s (p * 4 + k) d | false ↦ d ]

-- past its last record a stream is at its end
abbrev pub kind : List ℕ → ℕ → ℕ
kind s p = word s p 0 EndOfStream

abbrev pub payload : List ℕ → ℕ → ℕ
payload s p = word s p 1 0

abbrev pub line : List ℕ → ℕ → ℕ
line s p = word s p 2 0

-- the lexer's line just after the token
abbrev pub after : List ℕ → ℕ → ℕ
after s p = word s p 3 0
