-- The reader's productions, one term each: section 9 as piccolo's parser goes through it. Assumes nothing: these are definitions.
use Rattle.std.specs.Prelude.{[], ◌∷◌, true, false, ℕ, ◌+◌}
use Rattle.stream.specs.Kinds.{Break, Do, Else, ElseIf, End, False, For, Function, Goto, If, In, Local, Nil, Not, Repeat, Return, Then, True, Until, While}
use Rattle.stream.specs.Kinds.{Minus, Len, BitNotXor, Dots, Assign, Dot, SemiColon, Colon, DoubleColon, Comma, LeftParen, RightParen, LeftBracket, RightBracket, LeftBrace, RightBrace}
use Rattle.stream.specs.Kinds.{Integer, Float, String, Name, EndOfStream}
use Rattle.grammar.specs.Term.{Term, ahead, next, check, second, opening, closing, unlined, here, back, target, call, many, until, opt, ◌⇒◌∣◌}
use Rattle.grammar.specs.Term.{empty, expect, any, leaf, weigh, coded, plus, exp, operand, stat, ◌⨾◌, on, operator, refuse, node, lead, held, kept, iter, again}

-- a token that is expected; a name that is expected
abbrev pub word : ℕ → Term
word k = expect k (k + 1) true

abbrev pub named : Term
named = expect Name 60 false

-- a look at the next token, for the line that closes a block
abbrev pub look : Term
look = on ahead [] empty empty

-- exp, and a name that becomes a record
abbrev pub expr : Term
expr = exp 0

abbrev pub nameleaf : Term
nameleaf = named ⨾ leaf 30

-- explist ::= exp {',' exp}, each weighing w
unfoldable pub explist : ℕ → Term
explist w = plus w ⨾ expr ⨾ many check (Comma ∷ []) (any ⨾ plus w ⨾ expr)

-- retstat ::= return [explist] [';']
unfoldable pub retstat : Term
retstat =
    node 2 here opening (word Return ⨾ on ahead (EndOfStream ∷ End ∷ SemiColon ∷ Else ∷ ElseIf ∷ Until ∷ []) empty (explist 1) ⨾ opt check (SemiColon ∷ []) any)

-- block ::= {stat | ';'} [retstat]
unfoldable pub block : Term
block =
    node 1 here closing
    (until ahead (EndOfStream ∷ Else ∷ ElseIf ∷ End ∷ Until ∷ Return ∷ []) (on ahead (SemiColon ∷ []) any stat)
    ⨾ opt ahead (Return ∷ []) (plus 1 ⨾ retstat)
    ⨾ look)

-- parlist ::= Name [',' parlist] | '...'
unfoldable pub parlist : Term
parlist =
    iter
    (Name ⇒ any ⨾ leaf 30 ⨾ plus 2 ⨾ opt check (Comma ∷ []) (any ⨾ again)
    ∣ Dots ⇒ any ⨾ plus 1
    ∣ refuse 63)

-- funcbody ::= '(' [parlist] ')' block end
unfoldable pub funcbody : Term
funcbody = node 28 here unlined (word LeftParen ⨾ on check (RightParen ∷ []) empty parlist ⨾ word RightParen ⨾ block ⨾ word End)

-- field ::= Name '=' exp | '[' exp ']' '=' exp | exp
unfoldable pub field : Term
field =
    Name ⇒ on second (Assign ∷ []) (node 37 here unlined (named ⨾ weigh ⨾ word Assign ⨾ expr)) (node 36 here unlined expr)
    ∣ LeftBracket ⇒ node 38 here unlined (any ⨾ expr ⨾ word RightBracket ⨾ word Assign ⨾ expr)
    ∣ node 36 here unlined expr

-- tableconstructor ::= '{' fields, fields ::= '}' | field (',' | ';') fields | field '}'
unfoldable pub table : Term
table = node 27 here unlined (word LeftBrace ⨾ iter (on check (RightBrace ∷ []) (word RightBrace) (plus 1 ⨾ field ⨾ on next (Comma ∷ SemiColon ∷ []) (any ⨾ again) (word RightBrace))))

-- args ::= '(' [explist] ')' | tableconstructor | String
unfoldable pub args : ℕ → Term
args w =
    LeftParen ⇒ any ⨾ (RightParen ⇒ empty ∣ explist w) ⨾ word RightParen
    ∣ LeftBrace ⇒ plus w ⨾ node 17 here unlined table
    ∣ String ⇒ plus w ⨾ node 17 here unlined (any ⨾ leaf 22)
    ∣ refuse 62

-- suffix ::= '.' Name | '[' exp ']' | ':' Name args | args
unfoldable pub suffix : Term
suffix =
    Dot ⇒ node 32 here unlined (any ⨾ named ⨾ weigh)
    ∣ LeftBracket ⇒ node 33 here unlined (any ⨾ expr ⨾ word RightBracket)
    ∣ Colon ⇒ node 35 here unlined (any ⨾ named ⨾ weigh ⨾ args 0)
    ∣ node 34 here unlined (args 1)

-- primary ::= '(' exp ')' | Name
unfoldable pub primary : Term
primary =
    LeftParen ⇒ node 31 here unlined (any ⨾ expr ⨾ word RightParen)
    ∣ Name ⇒ any ⨾ leaf 30
    ∣ refuse 61

-- suffixed ::= primary {suffix}
unfoldable pub suffixed : Term
suffixed =
    node 29 here unlined (primary ⨾ many ahead (Dot ∷ LeftBracket ∷ Colon ∷ LeftParen ∷ LeftBrace ∷ String ∷ []) (plus 1 ⨾ suffix))

-- simple ::= Float | Integer | String | nil | true | false | '...' | tableconstructor | function funcbody | suffixed
unfoldable pub simple : Term
simple =
    Float ⇒ any ⨾ leaf 21
    ∣ Integer ⇒ any ⨾ leaf 20
    ∣ String ⇒ any ⨾ leaf 22
    ∣ Nil ⇒ any ⨾ leaf 23
    ∣ True ⇒ any ⨾ leaf 24
    ∣ False ⇒ any ⨾ leaf 25
    ∣ Dots ⇒ any ⨾ leaf 26
    ∣ LeftBrace ⇒ table
    ∣ Function ⇒ any ⨾ funcbody
    ∣ suffixed

-- head ::= (not | '-' | '~' | '#') exp | simple
unfoldable pub head : Term
head =
    Not ⇒ node 18 here unlined (any ⨾ plus 0 ⨾ exp 12)
    ∣ Minus ⇒ node 18 here unlined (any ⨾ plus 1 ⨾ exp 12)
    ∣ BitNotXor ⇒ node 18 here unlined (any ⨾ plus 2 ⨾ exp 12)
    ∣ Len ⇒ node 18 here unlined (any ⨾ plus 3 ⨾ exp 12)
    ∣ simple

-- exp ::= head {binop exp}
unfoldable pub tail : Term
tail = operator (plus 1 ⨾ node 19 here unlined (any ⨾ coded ⨾ operand) ⨾ again) empty

unfoldable pub tails : Term
tails = iter tail

unfoldable pub expression : Term
expression = node 17 here unlined (head ⨾ tails)

-- if exp then block {elseif exp then block} [else block] end
unfoldable pub ifstat : Term
ifstat =
    node 3 here opening
    (word If ⨾ expr ⨾ word Then ⨾ block
    ⨾ many check (ElseIf ∷ []) (any ⨾ plus 2 ⨾ expr ⨾ word Then ⨾ block)
    ⨾ opt check (Else ∷ []) (any ⨾ plus 1 ⨾ block)
    ⨾ word End)

-- while exp do block end
unfoldable pub whilestat : Term
whilestat = node 4 here opening (word While ⨾ expr ⨾ word Do ⨾ block ⨾ word End)

-- do block end
unfoldable pub dostat : Term
dostat = node 5 here opening (any ⨾ block ⨾ word End)

-- for Name '=' exp ',' exp [',' exp] do block end | for namelist in explist do block end
unfoldable pub forstat : Term
forstat =
    lead (word For ⨾ named)
    (Assign ⇒ node 6 back opening (weigh ⨾ any ⨾ expr ⨾ word Comma ⨾ expr ⨾ opt check (Comma ∷ []) (any ⨾ expr) ⨾ word Do ⨾ block ⨾ word End)
    ∣ on next (Comma ∷ In ∷ []) (node 7 back opening (leaf 30 ⨾ plus 1 ⨾ many check (Comma ∷ []) (any ⨾ nameleaf ⨾ plus 1) ⨾ word In ⨾ explist 0 ⨾ word Do ⨾ block ⨾ word End))
    (refuse 64))

-- repeat block until exp
unfoldable pub repeatstat : Term
repeatstat = node 8 here opening (word Repeat ⨾ block ⨾ word Until ⨾ expr)

-- function Name {'.' Name} [':' Name] funcbody
unfoldable pub functionstat : Term
functionstat =
    node 9 here opening
    (word Function ⨾ nameleaf ⨾ many ahead (Dot ∷ []) (any ⨾ nameleaf ⨾ plus 2) ⨾ opt ahead (Colon ∷ []) (any ⨾ nameleaf ⨾ plus 1) ⨾ funcbody)

-- local function Name funcbody
unfoldable pub localfunction : Term
localfunction = node 10 here opening (any ⨾ word Function ⨾ named ⨾ weigh ⨾ funcbody)

-- local namelist ['=' explist]
unfoldable pub localstat : Term
localstat =
    node 11 here opening
    (word Local ⨾ nameleaf ⨾ plus 1 ⨾ many check (Comma ∷ []) (any ⨾ nameleaf ⨾ plus 1) ⨾ opt check (Assign ∷ []) (any ⨾ explist 0))

-- '::' Name '::'
unfoldable pub label : Term
label = node 12 here opening (word DoubleColon ⨾ named ⨾ weigh ⨾ word DoubleColon)

unfoldable pub breakstat : Term
breakstat = node 13 here opening any

-- goto Name
unfoldable pub gotostat : Term
gotostat = node 14 here opening (word Goto ⨾ named ⨾ weigh)

-- varlist '=' explist | functioncall
unfoldable pub exprstat : Term
exprstat =
    lead suffixed
    (on ahead (Assign ∷ Comma ∷ [])
    (node 16 back opening (held target 3 ⨾ plus 1 ⨾ many check (Comma ∷ []) (any ⨾ kept target 3 suffixed ⨾ plus 1) ⨾ word Assign ⨾ explist 0))
    (node 15 back opening (held call 4)))

unfoldable pub statement : Term
statement =
    If ⇒ ifstat
    ∣ While ⇒ whilestat
    ∣ Do ⇒ dostat
    ∣ For ⇒ forstat
    ∣ Repeat ⇒ repeatstat
    ∣ Function ⇒ functionstat
    ∣ Local ⇒ on second (Function ∷ []) localfunction localstat
    ∣ DoubleColon ⇒ label
    ∣ Break ⇒ breakstat
    ∣ Goto ⇒ gotostat
    ∣ exprstat
