-- 01's scripts marked *, and what each is answered. Assumes nothing: these are definitions.
use Rattle.std.specs.Prelude.{◌≡◌, List, [], ◌∷◌, ◌++◌, ℕ, ◌≤◌, length, drop}
use Rattle.stream.specs.Kinds.{Goto, Return, Minus, Add, Mul, Pow, Assign, Equal, NotEqual, Dot, Comma, LeftParen, RightParen, LeftBrace, RightBrace, Integer, Name, EndOfStream}
use Rattle.operators.specs.declared.Ranking.TheVariants.{Crate}
use Rattle.tree.specs.Forest.{words}
use Rattle.parser.specs.declared.Answer.{Answer}
use Rattle.parser.specs.Answered.{Answered, refusing, counting, Zeroed}
use Rattle.agreed.specs.Agreed.{Agreed}

-- which reading is asked
pub data Reading : Type 0 where
  crate : Reading
  agreed : Reading

-- what it answers: the tree's words, or the numbers of a refusal
pub data Due : Type 0 where
  accepted : (tree : List ℕ) → Due
  refused : (number line found expected : ℕ) → Due

pub record Script : Type 0 where
  pub reading : Reading
  pub stream : List ℕ
  pub due : Due

-- what the reading promises of its answer, for any words
abbrev pub Promised : Reading → (s n n' : List ℕ) → Answer → Type 0
Promised crate s n n' a = Answered s Crate n n' a
Promised agreed s n n' a = Agreed s n n' a

-- an answer, where there is room for the tree: its five numbers and every word of the node array
abbrev pub Given : Due → (n n' : List ℕ) → Answer → Type 0
Given (accepted w) n n' a = length w ≤ length n → (a ≡ counting 0 (length w)) × (n' ≡ w ++ drop (length w) n)
Given (refused number line found expected) n n' a = (a ≡ refusing (record { number = number; line = line; found = found; expected = expected })) × Zeroed n n'

-- no answer but the one that is due keeps the promise
abbrev pub Shown : Script → Type 0
Shown x = (n n' : List ℕ) (a : Answer) → Promised x.reading x.stream n n' a → Given x.due n n' a

abbrev pub script : Reading → List ℕ → Due → Script
script r s d = record { reading = r; stream = s; due = d }

-- a token of this kind and payload on a line; tokens of line 1; the end on a line
abbrev pub on_line : (line kind payload : ℕ) → List ℕ
on_line l k v = k ∷ v ∷ l ∷ l ∷ []

abbrev pub token : (kind : ℕ) → List ℕ
token k = on_line 1 k 0

abbrev pub integer : (value : ℕ) → List ℕ
integer v = on_line 1 Integer v

abbrev pub name : (id : ℕ) → List ℕ
name v = on_line 1 Name v

abbrev pub end : (line : ℕ) → List ℕ
end l = on_line l EndOfStream 0

-- the tree of a name that stands in an expression
abbrev pub variable : (id : ℕ) → List ℕ
variable v = words 29 0 0 2 ++ words 30 v 0 1

-- names have any ids
abbrev pub marked_scripts : (a b c d f : ℕ) → List Script
marked_scripts a b c d f =
    -- the empty stream, end line 4
    script crate (end 4) (accepted (words 1 0 4 1))
    -- return -x^2, x = 7
    ∷ script crate (token Return ++ token Minus ++ name 7 ++ token Pow ++ integer 2 ++ end 1)
    (accepted (words 1 1 1 10 ++ words 2 1 1 9 ++ words 17 0 0 8 ++ words 18 1 0 7 ++ words 17 1 0 6 ++ words 29 0 0 2 ++ words 30 7 0 1 ++ words 19 4 0 3 ++ words 17 0 0 2 ++ words 20 2 0 1))
    -- (a) = 1
    ∷ script crate (token LeftParen ++ name a ++ token RightParen ++ token Assign ++ integer 1 ++ end 1) (refused 3 1 0 0)
    -- f() = 1
    ∷ script crate (name f ++ token LeftParen ++ token RightParen ++ token Assign ++ integer 1 ++ end 1) (refused 3 1 0 0)
    -- (a).b = 1
    ∷ script crate (token LeftParen ++ name a ++ token RightParen ++ token Dot ++ name b ++ token Assign ++ integer 1 ++ end 1)
    (accepted (words 1 0 1 10 ++ words 16 1 1 9 ++ words 29 1 0 6 ++ words 31 0 0 4 ++ words 17 0 0 3 ++ variable a ++ words 32 b 0 1 ++ words 17 0 0 2 ++ words 20 1 0 1))
    -- a, and on line 2 f() = 1
    ∷ script crate (name a ++ token Comma ++ on_line 2 Name f ++ on_line 2 LeftParen 0 ++ on_line 2 RightParen 0 ++ on_line 2 Assign 0 ++ on_line 2 Integer 1 ++ end 2) (refused 3 1 0 0)
    -- return 1 2
    ∷ script crate (token Return ++ integer 1 ++ integer 2 ++ end 1) (refused 2 1 0 0)
    -- return {,}
    ∷ script crate (token Return ++ token LeftBrace ++ token Comma ++ token RightBrace ++ end 1) (refused 1 1 2 61)
    -- goto on line 1, 1 on line 3, 2 on line 4
    ∷ script crate (token Goto ++ on_line 3 Integer 1 ++ on_line 4 Integer 2 ++ end 4) (refused 1 4 1 60)
    -- return a ~= b + c
    ∷ script agreed (token Return ++ name a ++ token NotEqual ++ name b ++ token Add ++ name c ++ end 1) (refused 8 1 2 0)
    -- return a == b ~= c
    ∷ script agreed (token Return ++ name a ++ token Equal ++ name b ++ token NotEqual ++ name c ++ end 1) (refused 8 1 4 0)
    -- return a + b ~= c * d
    ∷ script agreed (token Return ++ name a ++ token Add ++ name b ++ token NotEqual ++ name c ++ token Mul ++ name d ++ end 1)
    (accepted (words 1 1 1 17 ++ words 2 1 1 16 ++ words 17 2 0 15 ++ variable a ++ words 19 0 0 4 ++ words 17 0 0 3 ++ variable b
    ++ words 19 13 0 8 ++ words 17 1 0 7 ++ variable c ++ words 19 2 0 4 ++ words 17 0 0 3 ++ variable d))
    -- return a ~= b == c
    ∷ script agreed (token Return ++ name a ++ token NotEqual ++ name b ++ token Equal ++ name c ++ end 1)
    (accepted (words 1 1 1 13 ++ words 2 1 1 12 ++ words 17 2 0 11 ++ variable a ++ words 19 13 0 4 ++ words 17 0 0 3 ++ variable b ++ words 19 14 0 4 ++ words 17 0 0 3 ++ variable c))
    ∷ []
