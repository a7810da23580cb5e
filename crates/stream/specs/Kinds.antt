-- The kinds of tokens, by 01's names. Assumes nothing: these are definitions.
use Rattle.std.specs.Prelude.{ℕ}

abbrev pub Break : ℕ
Break = 0

abbrev pub Do : ℕ
Do = 1

abbrev pub Else : ℕ
Else = 2

abbrev pub ElseIf : ℕ
ElseIf = 3

abbrev pub End : ℕ
End = 4

abbrev pub False : ℕ
False = 5

abbrev pub For : ℕ
For = 6

abbrev pub Function : ℕ
Function = 7

abbrev pub Goto : ℕ
Goto = 8

abbrev pub If : ℕ
If = 9

abbrev pub In : ℕ
In = 10

abbrev pub Local : ℕ
Local = 11

abbrev pub Nil : ℕ
Nil = 12

abbrev pub Not : ℕ
Not = 13

abbrev pub And : ℕ
And = 14

abbrev pub Or : ℕ
Or = 15

abbrev pub Repeat : ℕ
Repeat = 16

abbrev pub Return : ℕ
Return = 17

abbrev pub Then : ℕ
Then = 18

abbrev pub True : ℕ
True = 19

abbrev pub Until : ℕ
Until = 20

abbrev pub While : ℕ
While = 21

abbrev pub Minus : ℕ
Minus = 22

abbrev pub Add : ℕ
Add = 23

abbrev pub Mul : ℕ
Mul = 24

abbrev pub Div : ℕ
Div = 25

abbrev pub IDiv : ℕ
IDiv = 26

abbrev pub Pow : ℕ
Pow = 27

abbrev pub Mod : ℕ
Mod = 28

abbrev pub Len : ℕ
Len = 29

abbrev pub BitNotXor : ℕ
BitNotXor = 30

abbrev pub BitAnd : ℕ
BitAnd = 31

abbrev pub BitOr : ℕ
BitOr = 32

abbrev pub ShiftRight : ℕ
ShiftRight = 33

abbrev pub ShiftLeft : ℕ
ShiftLeft = 34

abbrev pub Concat : ℕ
Concat = 35

abbrev pub Dots : ℕ
Dots = 36

abbrev pub Assign : ℕ
Assign = 37

abbrev pub LessThan : ℕ
LessThan = 38

abbrev pub LessEqual : ℕ
LessEqual = 39

abbrev pub GreaterThan : ℕ
GreaterThan = 40

abbrev pub GreaterEqual : ℕ
GreaterEqual = 41

abbrev pub Equal : ℕ
Equal = 42

abbrev pub NotEqual : ℕ
NotEqual = 43

abbrev pub Dot : ℕ
Dot = 44

abbrev pub SemiColon : ℕ
SemiColon = 45

abbrev pub Colon : ℕ
Colon = 46

abbrev pub DoubleColon : ℕ
DoubleColon = 47

abbrev pub Comma : ℕ
Comma = 48

abbrev pub LeftParen : ℕ
LeftParen = 49

abbrev pub RightParen : ℕ
RightParen = 50

abbrev pub LeftBracket : ℕ
LeftBracket = 51

abbrev pub RightBracket : ℕ
RightBracket = 52

abbrev pub LeftBrace : ℕ
LeftBrace = 53

abbrev pub RightBrace : ℕ
RightBrace = 54

abbrev pub Integer : ℕ
Integer = 55

abbrev pub Float : ℕ
Float = 56

abbrev pub String : ℕ
String = 57

abbrev pub Name : ℕ
Name = 58

abbrev pub EndOfStream : ℕ
EndOfStream = 59
