-- Which streams are well formed; what refusal 6 tells of any other. Assumes nothing: these are definitions.
use Rattle.std.specs.Prelude.{◌≡◌, ℕ, ◌+◌, ◌*◌, ◌%◌, ◌<◌, Bool, true, false, not, ◌&&◌, ◌||◌, List, length, ◌==◌, nat_le, nat_lt, Result, Ok, Err}
use Rattle.stream.specs.Kinds.{Integer, Float, String, Name, EndOfStream}
use Rattle.stream.specs.Words.{records, kind, payload, line, after}
use Rattle.stream.specs.declared.form.BadRecord.{BadRecord}

-- the most that a line or an id may be, and the most tokens
abbrev pub most : ℕ
most = 4294967295

abbrev pub tokens : ℕ
tokens = 1048576

-- 64 bits for Integer and Float, an id for String and Name, else 0
abbrev pub pays : (kind payload : ℕ) → Bool
pays k v = k == Integer || (k == Float || (((k == String || k == Name) && nat_le v most) || v == 0))

-- a token's record; the end's, with the end line in both line words
abbrev pub token_words : (kind payload line after : ℕ) → Bool
token_words k v l a = nat_lt k EndOfStream && (pays k v && (nat_le l most && nat_le a most))

abbrev pub end_words : (kind payload line after : ℕ) → Bool
end_words k v l a = k == EndOfStream && (v == 0 && (nat_le l most && l == a))

-- record p is as it should be: the last is the end's, and no other
unfoldable pub good : List ℕ → ℕ → Bool
good s p =
    elim (p + 1 == records s) [
      | true ↦ end_words (kind s p) (payload s p) (line s p) (after s p)
      | false ↦ token_words (kind s p) (payload s p) (line s p) (after s p)
    ]

-- the length: not zero, a multiple of four, within the token limit and the end's record
abbrev pub sized : List ℕ → Bool
sized s = not (length s == 0) && (length s % 4 == 0 && nat_le (length s) ((tokens + 1) * 4))

pub record Formed (s : List ℕ) : Type 0 where
  pub size : sized s ≡ true
  pub each : (p : ℕ) → p < records s → good s p ≡ true

-- length is judged first, then the first bad record
pub data Malformed (s : List ℕ) : ℕ → Type 0 where
  bad_length : sized s ≡ false → Malformed s 0
  bad_record : {p : ℕ} → sized s ≡ true → ((q : ℕ) → q < p → good s q ≡ true) → p < records s → good s p ≡ false → Malformed s p

abbrev pub Judged : List ℕ → Result Unit BadRecord → Type 0
Judged s (Ok _) = Formed s
Judged s (Err e) = Malformed s e.index
