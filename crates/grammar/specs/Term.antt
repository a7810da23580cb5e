-- Terms of EBNF, in which the reader's productions are written. Assumes nothing: these are definitions.
use Rattle.std.specs.Prelude.{List, [], ◌∷◌, Bool, true, false, ℕ, ◌+◌}

infixr 30 ◌⨾◌
infixr 20 ◌⇒◌∣◌
-- How the next token is looked at: look_ahead(0); get_next or take_next; check_ahead(0); check_ahead(1).
pub data Look : Type 0 where
  ahead next check second : Look

-- which token it looks at
abbrev pub far : Look → ℕ → ℕ
far ahead p = p
far next p = p
far check p = p
far second p = p + 1

-- where a record's line comes from: its first token, the token after it, or nowhere
pub data Line : Type 0 where
  opening closing unlined : Line

-- where a record starts: here, or where what is held does
pub data From : Type 0 where
  here back : From

-- a suffixed expression that can be assigned to, and one that is a call
pub data Shape : Type 0 where
  target call : Shape

pub data Term : Type 0 where
  empty : Term  -- nothing
  expect : (kind code : ℕ) (own : Bool) → Term  -- a token of this kind
  any : Term  -- a token
  leaf : (tag : ℕ) → Term  -- a record of the token just taken, with its payload
  weigh : Term  -- the value is the payload of the token just taken
  coded : Term  -- the value is the number of the operator just taken
  plus : ℕ → Term  -- the value is this much more
  exp : (limit : ℕ) → Term  -- an expression, one level down
  operand : Term  -- an expression under the limit of the operator just taken
  stat : Term  -- a statement, one level down
  ◌⨾◌ : Term → Term → Term  -- one after the other
  on : Look → List ℕ → Term → Term → Term  -- the first if the next token is of one of these kinds, else the second
  operator : Term → Term → Term  -- the first if the next token is an operator above the limit, else the second
  refuse : (code : ℕ) → Term  -- nothing fits
  node : (tag : ℕ) → From → Line → Term → Term  -- a record over what is derived
  lead : Term → Term → Term  -- one after the other, the first held for the second, in which `again` stands for the second
  held : Shape → (number : ℕ) → Term  -- the trees held, which have this shape
  kept : Shape → (number : ℕ) → Term → Term  -- the term, and its trees have this shape
  iter : Term → Term  -- the term, in which `again` stands for the whole
  again : Term

-- as long as a token of these kinds comes next; if one comes next; until one comes next
abbrev pub many : Look → List ℕ → Term → Term
many l ks e = iter (on l ks (e ⨾ again) empty)

abbrev pub until : Look → List ℕ → Term → Term
until l ks e = iter (on l ks empty (e ⨾ again))

abbrev pub opt : Look → List ℕ → Term → Term
opt l ks e = on l ks e empty

-- the first if a token of this kind comes next (and one must come), else the second
abbrev pub ◌⇒◌∣◌ : ℕ → Term → Term → Term
k ⇒ a ∣ b = on next (k ∷ []) a b

-- how a look takes the end of the stream: it refuses it, or there is no token
abbrev pub must : Look → Bool
must ahead = false
must next = true
must check = false
must second = false
