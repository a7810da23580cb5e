-- 000's reader: what each of its functions gives, at a cursor with its place and its mark. Assumes nothing: these are definitions.
use Rattle.std.specs.Prelude.{ℕ, ◌+◌, ◌-◌, ◌%◌, ◌^◌, min, max, Bool, true, false, List, ◌==◌, Option, Some, None, Result, Ok, Err}
use Rattle.stream.specs.Kinds.{EndOfStream, Name}
use Rattle.stream.specs.Words.{records, kind, payload, line, after}
use Rattle.stream.specs.declared.reader.Cursor.{Cursor}
use Rattle.stream.specs.declared.reader.Token.{Token}
use Rattle.stream.specs.declared.reader.Refusal.{Refusal}

abbrev pub token_at : List ℕ → ℕ → Token
token_at s p = record { kind = kind s p; payload = payload s p; line = line s p }

-- the mark, once so many tokens from p on were asked for: it goes as far as there are records
abbrev pub reached : List ℕ → (mark p many : ℕ) → ℕ
reached s m p n = max m (min (p + n) (records s))

abbrev pub asked : List ℕ → Cursor → ℕ → Cursor
asked s c many = record { place = c.place; mark = reached s c.mark c.place many; note = c.note }

-- read_ahead(n) holds n + 1 tokens
abbrev pub read_ahead : List ℕ → Cursor → ℕ → Cursor
read_ahead s c n = asked s c (n + 1)

-- the reading line: the after-line of the last token under the mark, or the end line once the mark has passed it
abbrev pub told : List ℕ → ℕ → ℕ
told s m = after s (m - 1)

-- EndOfStream tells the reading line
abbrev pub ended : List ℕ → Cursor → ℕ → Refusal
ended s c expected = record { number = 2; line = told s c.mark; found = 0; expected = expected }

-- Unexpected tells where the token stands, and a line
abbrev pub unexpected : (line place expected : ℕ) → Refusal
unexpected l p expected = record { number = 1; line = l; found = p; expected = expected }

-- what is expected where a token of this kind is
abbrev pub expecting : ℕ → ℕ
expecting k = (k + 1) % 2 ^ 64

abbrev pub passed : Cursor → Cursor
passed c = record { place = c.place + 1; mark = c.mark; note = c.note }

-- the end of the stream, or else
abbrev pub at_end {ℓ} : {A : Type ℓ} → List ℕ → ℕ → A → A → A
at_end s p a b = elim (kind s p == EndOfStream) [ true ↦ a | false ↦ b ]

-- a step's answer, and the cursor by then: where it refuses, the mark alone has moved
abbrev pub Step : Type 0 → Type 0
Step A = Result A Refusal × Cursor

-- the next token, which must be there
abbrev pub next : List ℕ → Cursor → (expected : ℕ) → Step Token
next s c expected = let d = read_ahead s c 1 in at_end s c.place (Err (ended s d expected), d) (Ok (token_at s c.place), d)

unfoldable pub get_next : List ℕ → Cursor → Step Token
get_next s c = next s c 0

unfoldable pub take_next : List ℕ → Cursor → Step Token
take_next s c = let d = read_ahead s c 1 in at_end s c.place (Err (ended s d 0), d) (Ok (token_at s c.place), passed d)

unfoldable pub expect_next : List ℕ → Cursor → ℕ → Step Token
expect_next s c k =
    let d = read_ahead s c 1 in
    at_end s c.place (Err (ended s d (expecting k)), d)
    (elim (kind s c.place == k) [ true ↦ (Ok (token_at s c.place), passed d) | false ↦ (Err (unexpected (line s c.place) c.place (expecting k)), d) ])

-- a name that is missing is told at the reading line
unfoldable pub expect_name : List ℕ → Cursor → Step Token
expect_name s c =
    let d = read_ahead s c 1 in
    at_end s c.place (Err (ended s d 60), d)
    (elim (kind s c.place == Name) [ true ↦ (Ok (token_at s c.place), passed d) | false ↦ (Err (unexpected (told s d.mark) c.place 60), d) ])

-- the nth token ahead, or none at the end, and the cursor by then
unfoldable pub look_ahead : List ℕ → Cursor → ℕ → Option Token × Cursor
look_ahead s c n = (at_end s (c.place + n) None (Some (token_at s (c.place + n))), read_ahead s c (n + 1))

-- the end is no token, so it matches none
unfoldable pub check_ahead : List ℕ → Cursor → (n kind : ℕ) → Bool × Cursor
check_ahead s c n k = (at_end s (c.place + n) false (kind s (c.place + n) == k), read_ahead s c n)
