-- A line of text, for a reader to see. Assumes nothing.
use mathlib.Core.Path.{◌≡◌, refl}
use mathlib.Core.List.{[], ◌∷◌, ◌++◌}
use Rattle.lines.specs.Lines.{glyph, hex, line, shown}

-- "3a 0000000000012345 00000007 89abcdef\n"
pub seen : shown (line 58 74565 7 2309737967)
    ≡ (51 ∷ 97 ∷ 32 ∷ [])
    ++ (48 ∷ 48 ∷ 48 ∷ 48 ∷ 48 ∷ 48 ∷ 48 ∷ 48 ∷ 48 ∷ 48 ∷ 48 ∷ 49 ∷ 50 ∷ 51 ∷ 52 ∷ 53 ∷ 32 ∷ [])
    ++ (48 ∷ 48 ∷ 48 ∷ 48 ∷ 48 ∷ 48 ∷ 48 ∷ 55 ∷ 32 ∷ [])
    ++ (56 ∷ 57 ∷ 97 ∷ 98 ∷ 99 ∷ 100 ∷ 101 ∷ 102 ∷ 10 ∷ [])
unfolding glyph hex shown
seen = refl
