-- What the private functions tell. Assumes nothing: these are definitions.
use Rattle.std.specs.Prelude.{◌≡◌, Option, Some, None, List, ℕ, ◌^◌, ◌<◌}
use Rattle.lines.specs.Lines.{glyph, field, Line, Fits, shown, fours}

-- a digit's value, or none
abbrev pub Digit : ℕ → Option ℕ → Type 0
Digit b (Some d) = (d < 16) × (b ≡ glyph d)
Digit b None = (d : ℕ) → d < 16 → b ≡ glyph d → ⊥

-- the number that a field has, or none where it is no field
abbrev pub Field : (part : List ℕ) (end : ℕ) → Option ℕ → Type 0
Field part end (Some v) = (k : ℕ) × (v < 16 ^ k) × (part ≡ field k v end)
Field part end None = (k v : ℕ) → part ≡ field k v end → ⊥

-- the words of a line, or none where it is no line
abbrev pub Took : (bytes : List ℕ) → Option (List ℕ) → Type 0
Took bytes (Some ws) = (l : Line) × Fits l × (bytes ≡ shown l) × (ws ≡ fours l)
Took bytes None = (l : Line) → bytes ≡ shown l → ⊥
