-- The grammar of Lua 5.4: section 9 of the manual, in its order and under its names, one constructor an alternative.
-- Each relation says: the tokens from i up to j, not including j, derive this tree (or these trees, and how many).
-- Trees, values and lines are those of 01's tree table. Assumes nothing: these are definitions.
--
-- One rule goes with section 9, the manual's own for a `(` after a call (3.3.1): a part in `[ ]` or `{ }` is taken wherever the
-- next token can begin it. `Ends` says that it can't. Where what follows tells the same, as an `end` or a `)` does, nothing is said.
--
-- Where 000 parts from section 9 its form is taken: a `;` is no statement of its own, and takes no level; no attribs.
use Rattle.std.specs.Prelude.{◌≡◌, List, [], ◌∷◌, true, false, ℕ, zero, suc, ◌+◌, ◌*◌, ◌≤◌, ◌<◌}
use Rattle.stream.specs.Kinds.{Break, Do, Else, ElseIf, End, False, For, Function, Goto, If, In, Local, Nil, Not, And, Or, Repeat, Return, Then, True, Until, While}
use Rattle.stream.specs.Kinds.{Minus, Add, Mul, Div, IDiv, Pow, Mod, Len, BitNotXor, BitAnd, BitOr, ShiftRight, ShiftLeft, Concat, Dots, Assign}
use Rattle.stream.specs.Kinds.{LessThan, LessEqual, GreaterThan, GreaterEqual, Equal, NotEqual, Dot, SemiColon, Colon, DoubleColon, Comma}
use Rattle.stream.specs.Kinds.{LeftParen, RightParen, LeftBracket, RightBracket, LeftBrace, RightBrace, Integer, Float, String, Name, EndOfStream}
use Rattle.stream.specs.Words.{kind, payload, line}
use Rattle.operators.specs.Ranks.{Ranks, code, unary_code}
use Rattle.tree.specs.Forest.{Forest, none, tree, join}
use Rattle.grammar.specs.Member.{member}

-- the tokens from i up to j derive this tree
abbrev pub Phrase : Type 1
Phrase = (i j : ℕ) → Forest → Type 0

-- statements, and expressions under a limit, of so many levels
pub record Phrases : Type 1 where
  pub exps : (limit : ℕ) → Phrase
  pub stats : Phrase

-- what can begin a stat, an exp, and what can follow a prefixexp within a longer one
abbrev pub first_stat : List ℕ
first_stat =
    SemiColon ∷ Name ∷ LeftParen ∷ DoubleColon ∷ Break ∷ Goto ∷ Do ∷ While ∷ Repeat ∷ If ∷ For ∷ Function ∷ Local ∷ []

abbrev pub first_exp : List ℕ
first_exp =
    Nil ∷ False ∷ True ∷ Integer ∷ Float ∷ String ∷ Dots ∷ Function ∷ Name ∷ LeftParen ∷ LeftBrace ∷ Not ∷ Minus ∷ BitNotXor ∷ Len ∷ []

abbrev pub first_suffix : List ℕ
first_suffix = Dot ∷ LeftBracket ∷ Colon ∷ LeftParen ∷ LeftBrace ∷ String ∷ []

-- binop ::= '+' | '-' | '*' | '/' | '//' | '^' | '%' | '&' | '~' | '|' | '>>' | '<<' | '..' | '<' | '<=' | '>' | '>=' | '==' | '~=' | and | or
abbrev pub binop : List ℕ
binop =
    Add ∷ Minus ∷ Mul ∷ Div ∷ IDiv ∷ Pow ∷ Mod ∷ BitAnd ∷ BitNotXor ∷ BitOr ∷ ShiftRight ∷ ShiftLeft ∷ Concat
    ∷ LessThan ∷ LessEqual ∷ GreaterThan ∷ GreaterEqual ∷ Equal ∷ NotEqual ∷ And ∷ Or ∷ []

-- unop ::= '-' | not | '#' | '~'
abbrev pub unop : List ℕ
unop = Minus ∷ Not ∷ Len ∷ BitNotXor ∷ []

-- fieldsep ::= ',' | ';'
abbrev pub fieldsep : List ℕ
fieldsep = Comma ∷ SemiColon ∷ []

module _ (s : List ℕ) where
  -- the token at i is of one of these kinds; the next token is none that begins what might be taken
  abbrev pub Among : List ℕ → ℕ → Type 0
  Among ks i = member (kind s i) ks ≡ true

  abbrev pub Ends : List ℕ → ℕ → Type 0
  Ends ks i = member (kind s i) ks ≡ false

  -- the records of a name, and of a statement that begins at i
  abbrev pub name : ℕ → Forest
  name i = tree 30 (payload s i) 0 i none none

  abbrev pub stated : (tag value i : ℕ) → Forest → Forest
  stated tag value i t = tree tag value (line s i) i t none

  -- a record without a line
  abbrev pub made : (tag value i : ℕ) → Forest → Forest
  made tag value i t = tree tag value 0 i t none

module _ (s : List ℕ) (rank : Ranks) (P : Phrases) where
  mutual
    -- block ::= {stat} [retstat]; its line is that of the token after it
    pub data Block : ℕ → ℕ → Forest → Type 0 where
      open_ended : {i j : ℕ} {t : Forest} → Stats i j t → Ends s (Return ∷ []) j → Block i j (tree 1 0 (line s j) i t none)
      returning : {i j k : ℕ} {t u : Forest} → Stats i j t → Retstat j k u → Block i k (tree 1 1 (line s k) i (join t u) none)

    -- {stat}
    pub data Stats : ℕ → ℕ → Forest → Type 0 where
      done : {i : ℕ} → Ends s first_stat i → Stats i i none
      semicolon : {i j : ℕ} {t : Forest} → kind s i ≡ SemiColon → Stats (i + 1) j t → Stats i j t
      next : {i j k : ℕ} {t u : Forest} → P.stats i j t → Stats j k u → Stats i k (join t u)

    -- stat ::=
    pub data Stat : ℕ → ℕ → Forest → Type 0 where
      -- varlist '=' explist
      assignment : {i j k n m : ℕ} {t u : Forest} → Varlist i j n t → kind s j ≡ Assign → Explist (j + 1) k m u → Stat i k (stated s 16 n i (join t u))
      -- functioncall
      call : {i j n : ℕ} {t : Forest} → Functioncall i j n t → Ends s first_suffix j → Stat i j (stated s 15 0 i (made s 29 n i t))
      -- label
      label : {i j : ℕ} {t : Forest} → Label i j t → Stat i j t
      -- break
      break : {i : ℕ} → kind s i ≡ Break → Stat i (i + 1) (stated s 13 0 i none)
      -- goto Name
      goto : {i : ℕ} → kind s i ≡ Goto → kind s (i + 1) ≡ Name → Stat i (i + 1 + 1) (stated s 14 (payload s (i + 1)) i none)
      -- do block end
      do_end : {i j : ℕ} {b : Forest} → kind s i ≡ Do → Block (i + 1) j b → kind s j ≡ End → Stat i (j + 1) (stated s 5 0 i b)
      -- while exp do block end
      while : {i j k : ℕ} {e b : Forest} → kind s i ≡ While → P.exps 0 (i + 1) j e → kind s j ≡ Do → Block (j + 1) k b → kind s k ≡ End
          → Stat i (k + 1) (stated s 4 0 i (join e b))
      -- repeat block until exp
      repeat : {i j k : ℕ} {b e : Forest} → kind s i ≡ Repeat → Block (i + 1) j b → kind s j ≡ Until → P.exps 0 (j + 1) k e
          → Stat i k (stated s 8 0 i (join b e))
      -- if exp then block {elseif exp then block} end
      if_end : {i j k l n : ℕ} {e b t : Forest} → kind s i ≡ If → P.exps 0 (i + 1) j e → kind s j ≡ Then → Block (j + 1) k b → Elseifs k l n t → kind s l ≡ End
          → Stat i (l + 1) (stated s 3 (2 * n) i (join e (join b t)))
      -- if exp then block {elseif exp then block} else block end
      if_else : {i j k l m n : ℕ} {e b t c : Forest} → kind s i ≡ If → P.exps 0 (i + 1) j e → kind s j ≡ Then → Block (j + 1) k b → Elseifs k l n t
          → kind s l ≡ Else → Block (l + 1) m c → kind s m ≡ End
          → Stat i (m + 1) (stated s 3 (2 * n + 1) i (join e (join b (join t c))))
      -- for Name '=' exp ',' exp do block end
      for_two : {i j k l : ℕ} {e f b : Forest} → kind s i ≡ For → kind s (i + 1) ≡ Name → kind s (i + 1 + 1) ≡ Assign → P.exps 0 (i + 1 + 1 + 1) j e
          → kind s j ≡ Comma → P.exps 0 (j + 1) k f → kind s k ≡ Do → Block (k + 1) l b → kind s l ≡ End
          → Stat i (l + 1) (stated s 6 (payload s (i + 1)) i (join e (join f b)))
      -- for Name '=' exp ',' exp ',' exp do block end
      for_three : {i j k l m : ℕ} {e f g b : Forest} → kind s i ≡ For → kind s (i + 1) ≡ Name → kind s (i + 1 + 1) ≡ Assign → P.exps 0 (i + 1 + 1 + 1) j e
          → kind s j ≡ Comma → P.exps 0 (j + 1) k f → kind s k ≡ Comma → P.exps 0 (k + 1) l g → kind s l ≡ Do → Block (l + 1) m b → kind s m ≡ End
          → Stat i (m + 1) (stated s 6 (payload s (i + 1)) i (join e (join f (join g b))))
      -- for namelist in explist do block end
      for_in : {i j k l n m : ℕ} {t u b : Forest} → kind s i ≡ For → Namelist (i + 1) j n t → kind s j ≡ In → Explist (j + 1) k m u → kind s k ≡ Do
          → Block (k + 1) l b → kind s l ≡ End
          → Stat i (l + 1) (stated s 7 n i (join t (join u b)))
      -- function funcname funcbody
      function : {i j k v : ℕ} {t d : Forest} → kind s i ≡ Function → Funcname (i + 1) j v t → Funcbody j k d → Stat i k (stated s 9 v i (join t d))
      -- local function Name funcbody
      local_function : {i j : ℕ} {d : Forest} → kind s i ≡ Local → kind s (i + 1) ≡ Function → kind s (i + 1 + 1) ≡ Name → Funcbody (i + 1 + 1 + 1) j d
          → Stat i j (stated s 10 (payload s (i + 1 + 1)) i d)
      -- local attnamelist
      local : {i j n : ℕ} {t : Forest} → kind s i ≡ Local → Attnamelist (i + 1) j n t → Ends s (Assign ∷ []) j → Stat i j (stated s 11 n i t)
      -- local attnamelist '=' explist
      local_is : {i j k n m : ℕ} {t u : Forest} → kind s i ≡ Local → Attnamelist (i + 1) j n t → kind s j ≡ Assign → Explist (j + 1) k m u
          → Stat i k (stated s 11 n i (join t u))

    -- {elseif exp then block}
    pub data Elseifs : ℕ → ℕ → ℕ → Forest → Type 0 where
      none_left : {i : ℕ} → Elseifs i i 0 none
      elseif : {i j k l n : ℕ} {e b t : Forest} → kind s i ≡ ElseIf → P.exps 0 (i + 1) j e → kind s j ≡ Then → Block (j + 1) k b → Elseifs k l n t
          → Elseifs i l (suc n) (join e (join b t))

    -- attnamelist ::= Name {',' Name}
    pub data Attnamelist : ℕ → ℕ → ℕ → Forest → Type 0 where
      att : {i : ℕ} → kind s i ≡ Name → Ends s (Comma ∷ []) (i + 1) → Attnamelist i (i + 1) 1 (name s i)
      atts : {i j n : ℕ} {t : Forest} → kind s i ≡ Name → kind s (i + 1) ≡ Comma → Attnamelist (i + 1 + 1) j n t → Attnamelist i j (suc n) (join (name s i) t)

    -- retstat ::= return [explist] [';']
    pub data Retstat : ℕ → ℕ → Forest → Type 0 where
      return : {i j : ℕ} → kind s i ≡ Return → Ends s first_exp (i + 1) → Optional (i + 1) j → Retstat i j (stated s 2 0 i none)
      return_exps : {i j k n : ℕ} {t : Forest} → kind s i ≡ Return → Explist (i + 1) j n t → Optional j k → Retstat i k (stated s 2 n i t)

    -- [';']
    pub data Optional : ℕ → ℕ → Type 0 where
      absent : {i : ℕ} → Ends s (SemiColon ∷ []) i → Optional i i
      present : {i : ℕ} → kind s i ≡ SemiColon → Optional i (i + 1)

    -- label ::= '::' Name '::'
    pub data Label : ℕ → ℕ → Forest → Type 0 where
      labelled : {i : ℕ} → kind s i ≡ DoubleColon → kind s (i + 1) ≡ Name → kind s (i + 1 + 1) ≡ DoubleColon
          → Label i (i + 1 + 1 + 1) (stated s 12 (payload s (i + 1)) i none)

    -- funcname ::= Name {'.' Name} [':' Name]; its value is 2 x fields + method
    pub data Funcname : ℕ → ℕ → ℕ → Forest → Type 0 where
      funcname : {i j v : ℕ} {t : Forest} → kind s i ≡ Name → Fields (i + 1) j v t → Funcname i j v (join (name s i) t)

    -- {'.' Name} [':' Name]
    pub data Fields : ℕ → ℕ → ℕ → Forest → Type 0 where
      no_method : {i : ℕ} → Fields i i 0 none
      method : {i : ℕ} → kind s i ≡ Colon → kind s (i + 1) ≡ Name → Fields i (i + 1 + 1) 1 (name s (i + 1))
      field_name : {i j v : ℕ} {t : Forest} → kind s i ≡ Dot → kind s (i + 1) ≡ Name → Fields (i + 1 + 1) j v t → Fields i j (2 + v) (join (name s (i + 1)) t)

    -- varlist ::= var {',' var}
    pub data Varlist : ℕ → ℕ → ℕ → Forest → Type 0 where
      one_var : {i j n : ℕ} {t : Forest} → Var i j n t → Varlist i j 1 (made s 29 n i t)
      more_vars : {i j k n m : ℕ} {t u : Forest} → Var i j n t → kind s j ≡ Comma → Varlist (j + 1) k m u → Varlist i k (suc m) (join (made s 29 n i t) u)

    -- var ::=
    -- Of a var, a prefixexp and a functioncall the suffixes are counted; the trees are those of its primary and its suffixes.
    pub data Var : ℕ → ℕ → ℕ → Forest → Type 0 where
      -- Name
      var_name : {i : ℕ} → kind s i ≡ Name → Var i (i + 1) 0 (name s i)
      -- prefixexp '[' exp ']'
      index : {i j k n : ℕ} {t e : Forest} → Prefixexp i j n t → kind s j ≡ LeftBracket → P.exps 0 (j + 1) k e → kind s k ≡ RightBracket
          → Var i (k + 1) (suc n) (join t (made s 33 0 j e))
      -- prefixexp '.' Name
      field : {i j n : ℕ} {t : Forest} → Prefixexp i j n t → kind s j ≡ Dot → kind s (j + 1) ≡ Name → Var i (j + 1 + 1) (suc n) (join t (made s 32 (payload s (j + 1)) j none))

    -- namelist ::= Name {',' Name}
    pub data Namelist : ℕ → ℕ → ℕ → Forest → Type 0 where
      one_name : {i : ℕ} → kind s i ≡ Name → Namelist i (i + 1) 1 (name s i)
      more_names : {i j n : ℕ} {t : Forest} → kind s i ≡ Name → kind s (i + 1) ≡ Comma → Namelist (i + 1 + 1) j n t → Namelist i j (suc n) (join (name s i) t)

    -- explist ::= exp {',' exp}
    pub data Explist : ℕ → ℕ → ℕ → Forest → Type 0 where
      one_exp : {i j : ℕ} {e : Forest} → P.exps 0 i j e → Ends s (Comma ∷ []) j → Explist i j 1 e
      more_exps : {i j k n : ℕ} {e t : Forest} → P.exps 0 i j e → kind s j ≡ Comma → Explist (j + 1) k n t → Explist i k (suc n) (join e t)

    -- exp ::=
    -- Of an exp the operators of its own chain are counted; the trees are those of its first operand and its tails.
    pub data Exp : (limit : ℕ) → ℕ → ℕ → ℕ → Forest → Type 0 where
      -- nil | false | true
      nil : {limit i : ℕ} → kind s i ≡ Nil → Exp limit i (i + 1) 0 (made s 23 (payload s i) i none)
      false_exp : {limit i : ℕ} → kind s i ≡ False → Exp limit i (i + 1) 0 (made s 25 (payload s i) i none)
      true_exp : {limit i : ℕ} → kind s i ≡ True → Exp limit i (i + 1) 0 (made s 24 (payload s i) i none)
      -- Numeral
      integer : {limit i : ℕ} → kind s i ≡ Integer → Exp limit i (i + 1) 0 (made s 20 (payload s i) i none)
      float : {limit i : ℕ} → kind s i ≡ Float → Exp limit i (i + 1) 0 (made s 21 (payload s i) i none)
      -- LiteralString
      string : {limit i : ℕ} → kind s i ≡ String → Exp limit i (i + 1) 0 (made s 22 (payload s i) i none)
      -- '...'
      varargs : {limit i : ℕ} → kind s i ≡ Dots → Exp limit i (i + 1) 0 (made s 26 (payload s i) i none)
      -- functiondef
      function_exp : {limit i j : ℕ} {d : Forest} → Functiondef i j d → Exp limit i j 0 d
      -- prefixexp
      prefix : {limit i j n : ℕ} {t : Forest} → Prefixexp i j n t → Ends s first_suffix j → Exp limit i j 0 (made s 29 n i t)
      -- tableconstructor
      table : {limit i j : ℕ} {t : Forest} → Tableconstructor i j t → Exp limit i j 0 t
      -- exp binop exp
      binary : {limit i j k n : ℕ} {t e : Forest} → Exp limit i j n t → Among s binop j → limit < rank.left (kind s j) → P.exps (rank.right (kind s j)) (j + 1) k e
          → Exp limit i k (suc n) (join t (made s 19 (code (kind s j)) j e))
      -- unop exp
      unary : {limit i j : ℕ} {e : Forest} → Among s unop i → P.exps 12 (i + 1) j e → Exp limit i j 0 (made s 18 (unary_code (kind s i)) i e)

    -- prefixexp ::= var | functioncall | '(' exp ')'
    pub data Prefixexp : ℕ → ℕ → ℕ → Forest → Type 0 where
      var : {i j n : ℕ} {t : Forest} → Var i j n t → Prefixexp i j n t
      functioncall : {i j n : ℕ} {t : Forest} → Functioncall i j n t → Prefixexp i j n t
      group : {i j : ℕ} {e : Forest} → kind s i ≡ LeftParen → P.exps 0 (i + 1) j e → kind s j ≡ RightParen → Prefixexp i (j + 1) 0 (made s 31 0 i e)

    -- functioncall ::= prefixexp args | prefixexp ':' Name args
    pub data Functioncall : ℕ → ℕ → ℕ → Forest → Type 0 where
      plain_call : {i j k n m : ℕ} {t u : Forest} → Prefixexp i j n t → Args j k m u → Functioncall i k (suc n) (join t (made s 34 m j u))
      method_call : {i j k n m : ℕ} {t u : Forest} → Prefixexp i j n t → kind s j ≡ Colon → kind s (j + 1) ≡ Name → Args (j + 1 + 1) k m u
          → Functioncall i k (suc n) (join t (made s 35 (payload s (j + 1)) j u))

    -- args ::= '(' [explist] ')' | tableconstructor | LiteralString
    -- A lone table or string is an expression's record all the same; it takes no level.
    pub data Args : ℕ → ℕ → ℕ → Forest → Type 0 where
      no_args : {i : ℕ} → kind s i ≡ LeftParen → kind s (i + 1) ≡ RightParen → Args i (i + 1 + 1) 0 none
      list_args : {i j n : ℕ} {t : Forest} → kind s i ≡ LeftParen → Explist (i + 1) j n t → kind s j ≡ RightParen → Args i (j + 1) n t
      table_arg : {i j : ℕ} {t : Forest} → Tableconstructor i j t → Args i j 1 (made s 17 0 i t)
      string_arg : {i : ℕ} → kind s i ≡ String → Args i (i + 1) 1 (made s 17 0 i (made s 22 (payload s i) i none))

    -- functiondef ::= function funcbody
    pub data Functiondef : ℕ → ℕ → Forest → Type 0 where
      functiondef : {i j : ℕ} {d : Forest} → kind s i ≡ Function → Funcbody (i + 1) j d → Functiondef i j d

    -- funcbody ::= '(' [parlist] ')' block end
    pub data Funcbody : ℕ → ℕ → Forest → Type 0 where
      no_pars : {i j : ℕ} {b : Forest} → kind s i ≡ LeftParen → kind s (i + 1) ≡ RightParen → Block (i + 1 + 1) j b → kind s j ≡ End → Funcbody i (j + 1) (made s 28 0 i b)
      pars : {i j k v : ℕ} {t b : Forest} → kind s i ≡ LeftParen → Parlist (i + 1) j v t → kind s j ≡ RightParen → Block (j + 1) k b → kind s k ≡ End
          → Funcbody i (k + 1) (made s 28 v i (join t b))

    -- parlist ::= namelist [',' '...'] | '...'; its value is 2 x parameters + varargs
    pub data Parlist : ℕ → ℕ → ℕ → Forest → Type 0 where
      names : {i j n : ℕ} {t : Forest} → Namelist i j n t → Parlist i j (2 * n) t
      names_dots : {i j n : ℕ} {t : Forest} → Namelist i j n t → kind s j ≡ Comma → kind s (j + 1) ≡ Dots → Parlist i (j + 1 + 1) (2 * n + 1) t
      dots : {i : ℕ} → kind s i ≡ Dots → Parlist i (i + 1) 1 none

    -- tableconstructor ::= '{' [fieldlist] '}'
    pub data Tableconstructor : ℕ → ℕ → Forest → Type 0 where
      no_fields : {i : ℕ} → kind s i ≡ LeftBrace → kind s (i + 1) ≡ RightBrace → Tableconstructor i (i + 1 + 1) (made s 27 0 i none)
      fields : {i j n : ℕ} {t : Forest} → kind s i ≡ LeftBrace → Fieldlist (i + 1) j n t → kind s j ≡ RightBrace → Tableconstructor i (j + 1) (made s 27 n i t)

    -- fieldlist ::= field {fieldsep field} [fieldsep]
    pub data Fieldlist : ℕ → ℕ → ℕ → Forest → Type 0 where
      last_field : {i j : ℕ} {t : Forest} → Field i j t → Fieldlist i j 1 t
      last_field_sep : {i j : ℕ} {t : Forest} → Field i j t → Among s fieldsep j → Fieldlist i (j + 1) 1 t
      more_fields : {i j k n : ℕ} {t u : Forest} → Field i j t → Among s fieldsep j → Fieldlist (j + 1) k n u → Fieldlist i k (suc n) (join t u)

    -- field ::= '[' exp ']' '=' exp | Name '=' exp | exp
    pub data Field : ℕ → ℕ → Forest → Type 0 where
      indexed : {i j k : ℕ} {e f : Forest} → kind s i ≡ LeftBracket → P.exps 0 (i + 1) j e → kind s j ≡ RightBracket → kind s (j + 1) ≡ Assign
          → P.exps 0 (j + 1 + 1) k f → Field i k (made s 38 0 i (join e f))
      named : {i j : ℕ} {e : Forest} → kind s i ≡ Name → kind s (i + 1) ≡ Assign → P.exps 0 (i + 1 + 1) j e → Field i j (made s 37 (payload s i) i e)
      item : {i j : ℕ} {e : Forest} → P.exps 0 i j e → Field i j (made s 36 0 i e)

  -- an exp as long as it can be: no operator above the limit comes next
  pub data Whole (limit : ℕ) : ℕ → ℕ → Forest → Type 0 where
    whole : {i j n : ℕ} {t : Forest} → Exp limit i j n t → rank.left (kind s j) ≤ limit → Whole limit i j (made s 17 n i t)

-- Levels: every statement and every subexpression takes one; blocks, returns, tables and the lone argument take none.
abbrev pub phrases : List ℕ → Ranks → ℕ → Phrases
phrases s rank zero = record { exps = λ limit i j t. ⊥; stats = λ i j t. ⊥ }
phrases s rank (suc g) = record { exps = λ limit. Whole s rank (phrases s rank g) limit; stats = Stat s rank (phrases s rank g) }

-- a ranking of section 9's operators: what has a left rank is a binop
abbrev pub Ranked : Ranks → Type 0
Ranked rank = (k : ℕ) → 0 < rank.left k → member k binop ≡ true

-- chunk ::= block, of the whole stream, within so many levels
pub record Chunk (s : List ℕ) (rank : Ranks) (levels : ℕ) (t : Forest) : Type 0 where
  pub end : ℕ
  pub all : kind s end ≡ EndOfStream
  pub derived : Block s rank (phrases s rank levels) 0 end t
