-- Where a token reader stands, and where its steps lead. Assumes nothing: these are definitions.
use Rattle.std.specs.Prelude.{List, false, ℕ, zero, suc, None}
use Rattle.stream.specs.Reader.{read_ahead, told, passed, at_end, look_ahead}
use Rattle.stream.specs.declared.reader.Cursor.{Cursor}
use Rattle.tokens.specs.declared.TokenReader.{TokenReader}
use Rattle.tokens.specs.declared.Stop.{Stop}

-- at the beginning: nothing taken, nothing asked for; the note is never looked at
abbrev pub start : Cursor
start = record { place = 0; mark = 0; note = record { heard = false; waits = None; found = None } }

-- the same stream, at another cursor
abbrev pub moved : TokenReader → Cursor → TokenReader
moved r c = record { stream = r.stream; cursor = c }

-- after take_next: past the token; at the end the mark alone has moved
unfoldable pub stepped : List ℕ → Cursor → Cursor
stepped s c = let d = read_ahead s c 1 in at_end s c.place d (passed d)

-- after so many
abbrev pub steps : List ℕ → Cursor → ℕ → Cursor
steps s c zero = c
steps s c (suc n) = steps s (stepped s c) n

-- a look from there, the cursor by then, and the line that the reading has come to with it
abbrev pub token_after : List ℕ → ℕ → Stop
token_after s n = let c = steps s start n in record { look = (look_ahead s c 0).0; cursor = read_ahead s c 1; line = told s (read_ahead s c 1).mark }
