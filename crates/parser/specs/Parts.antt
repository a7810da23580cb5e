-- The parts of productions that the descent reads by functions of their own. Assumes nothing: these are definitions.
use Rattle.std.specs.Prelude.{[], ◌∷◌}
use Rattle.stream.specs.Kinds.{Do, Else, ElseIf, End, In, Return, Then, Until, Assign, Dot, SemiColon, Colon, Comma, RightParen, RightBracket, RightBrace, EndOfStream}
use Rattle.grammar.specs.Term.{Term, ahead, next, check, unlined, here, target, many, until, opt, ◌⇒◌∣◌}
use Rattle.grammar.specs.Term.{empty, any, weigh, coded, plus, operand, stat, ◌⨾◌, on, node, kept, iter, again}
use Rattle.grammar.specs.Productions.{word, named, nameleaf, expr, explist, block, retstat, args, field, suffixed}

-- {stat}
abbrev pub stats : Term
stats = until ahead (EndOfStream ∷ Else ∷ ElseIf ∷ End ∷ Until ∷ Return ∷ []) (on ahead (SemiColon ∷ []) any stat)

-- exp then block; {elseif exp then block}
abbrev pub arm : Term
arm = expr ⨾ word Then ⨾ block

abbrev pub arms : Term
arms = many check (ElseIf ∷ []) (any ⨾ plus 2 ⨾ arm)

-- [else block]; [retstat]; [explist] of a return; ['=' explist]; [explist] before a ')'
abbrev pub otherwise : Term
otherwise = opt check (Else ∷ []) (any ⨾ plus 1 ⨾ block)

abbrev pub returns : Term
returns = opt ahead (Return ∷ []) (plus 1 ⨾ retstat)

abbrev pub values : Term
values = on ahead (EndOfStream ∷ End ∷ SemiColon ∷ Else ∷ ElseIf ∷ Until ∷ []) empty (explist 1)

abbrev pub initial : Term
initial = opt check (Assign ∷ []) (any ⨾ explist 0)

abbrev pub listed : Term
listed = RightParen ⇒ empty ∣ explist 1

-- block end; do block end
abbrev pub ended : Term
ended = block ⨾ word End

abbrev pub body : Term
body = word Do ⨾ ended

-- [',' exp]; '=' exp ',' exp [',' exp] do block end
abbrev pub step : Term
step = opt check (Comma ∷ []) (any ⨾ expr)

abbrev pub numeric : Term
numeric = any ⨾ expr ⨾ word Comma ⨾ expr ⨾ step ⨾ body

-- {',' Name}; {',' Name} in explist do block end
abbrev pub names : Term
names = many check (Comma ∷ []) (any ⨾ nameleaf ⨾ plus 1)

abbrev pub generic : Term
generic = names ⨾ word In ⨾ explist 0 ⨾ body

-- {'.' Name} [':' Name]
abbrev pub fieldnames : Term
fieldnames = many ahead (Dot ∷ []) (any ⨾ nameleaf ⨾ plus 2) ⨾ opt ahead (Colon ∷ []) (any ⨾ nameleaf ⨾ plus 1)

-- {',' var}; {',' var} '=' explist
abbrev pub targets : Term
targets = many check (Comma ∷ []) (any ⨾ kept target 3 suffixed ⨾ plus 1)

abbrev pub assigned : Term
assigned = targets ⨾ word Assign ⨾ explist 0

-- an operator and its right operand
abbrev pub operation : Term
operation = node 19 here unlined (any ⨾ coded ⨾ operand)

-- the suffixes
abbrev pub dotted : Term
dotted = node 32 here unlined (any ⨾ named ⨾ weigh)

abbrev pub index : Term
index = node 33 here unlined (any ⨾ expr ⨾ word RightBracket)

abbrev pub method : Term
method = node 35 here unlined (any ⨾ named ⨾ weigh ⨾ args 0)

abbrev pub call : Term
call = node 34 here unlined (args 1)

-- '(' [explist] ')'
abbrev pub list : Term
list = any ⨾ listed ⨾ word RightParen

-- [fieldlist] '}'; the three fields
abbrev pub fields : Term
fields = iter (on check (RightBrace ∷ []) (word RightBrace) (plus 1 ⨾ field ⨾ on next (Comma ∷ SemiColon ∷ []) (any ⨾ again) (word RightBrace)))

abbrev pub item : Term
item = node 36 here unlined expr

abbrev pub keyed : Term
keyed = node 38 here unlined (any ⨾ expr ⨾ word RightBracket ⨾ word Assign ⨾ expr)

abbrev pub fielded : Term
fielded = node 37 here unlined (named ⨾ weigh ⨾ word Assign ⨾ expr)
