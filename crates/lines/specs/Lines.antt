-- Records as lines of text: 2, 16, 8 and 8 lowercase hexadecimal digits, a space between, a newline at the end; what is told of a text. Assumes nothing: these are definitions.
use Rattle.std.specs.Prelude.{◌≡◌, true, false, Result, Ok, Err, List, [], ◌∷◌, ◌++◌, ◌⊎◌, ℕ, zero, suc, ◌+◌, ◌-◌, ◌/◌, ◌%◌, ◌^◌, ◌≤◌, ◌<◌, ltb, length}
use Rattle.std.proofs.lemmas.List.Edits.{sets}
use Rattle.lines.specs.declared.BadLine.{BadLine}

-- a digit's byte: from '0' on, and from ten on 'a'
unfoldable pub glyph : ℕ → ℕ
glyph d = elim (ltb d 10) [ true ↦ 48 + d | false ↦ 97 + (d - 10) ]

-- the last k digits of n, most significant first
unfoldable pub hex : (k n : ℕ) → List ℕ
hex zero n = []
hex (suc k) n = hex k (n / 16) ++ glyph (n % 16) ∷ []

-- digits, and the byte that ends them: a space, or a newline
abbrev pub field : (k n end : ℕ) → List ℕ
field k n end = hex k n ++ end ∷ []

pub data Line : Type 0 where
  line : (kind payload line after : ℕ) → Line

abbrev pub Fits : Line → Type 0
Fits (line k p l a) = (k < 256) × (p < 2 ^ 64) × (l < 2 ^ 32) × (a < 2 ^ 32)

pub data AllFit : List Line → Type 0 where
  none : AllFit []
  more : {l : Line} {ls : List Line} → Fits l → AllFit ls → AllFit (l ∷ ls)

-- a line's 38 bytes
unfoldable pub shown : Line → List ℕ
shown (line k p l a) = field 2 k 32 ++ (field 16 p 32 ++ (field 8 l 32 ++ field 8 a 10))

-- some lines, one after another
abbrev pub each : (Line → List ℕ) → List Line → List ℕ
each f [] = []
each f (l ∷ ls) = f l ++ each f ls

abbrev pub show : List Line → List ℕ
show = each shown

-- a record's four words
abbrev pub fours : Line → List ℕ
fours (line k p l a) = k ∷ p ∷ l ∷ a ∷ []

abbrev pub words : List Line → List ℕ
words = each fours

-- the 45 bytes of an answer
unfoldable pub shown_answer : (a b c d e : ℕ) → List ℕ
shown_answer a b c d e = field 8 a 32 ++ (field 8 b 32 ++ (field 8 c 32 ++ (field 8 d 32 ++ field 8 e 10)))

-- so many lines, all fitting, at most `most`, are stored from the start, as far as they fit
pub record Taken (lines : List Line) (n most : ℕ) (stream stream' : List ℕ) : Type 0 where
  pub fit : AllFit lines
  pub count : length lines ≡ n
  pub few : n ≤ most
  pub stored : stream' ≡ sets stream 0 (words lines)

-- no line's bytes begin the text
abbrev pub NoLine : List ℕ → Type 0
NoLine rest = (l : Line) (m : List ℕ) → rest ≡ shown l ++ m → ⊥

-- the text is that of n lines; or there is more after the first i, which are as many as there may be or are not followed by a line
abbrev pub Told : (text : List ℕ) (most : ℕ) (stream stream' : List ℕ) → Result ℕ BadLine → Type 0
Told text most stream stream' (Ok n) = (lines : List Line) × Taken lines n most stream stream' × (text ≡ show lines)
Told text most stream stream' (Err bad) =
    (lines : List Line) × (rest : List ℕ) × Taken lines bad.index most stream stream' × (text ≡ show lines ++ rest) × (rest ≡ [] → ⊥) × ((bad.index ≡ most) ⊎ NoLine rest)
