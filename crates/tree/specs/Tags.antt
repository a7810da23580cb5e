-- The word of each kind of tree record, 1 to 38 as in docs/FORMAT.md. Assumes nothing: these are definitions.
use Rattle.std.specs.Prelude.{ℕ}
use Rattle.tree.specs.declared.tags.Tag.{Tag}
use Rattle.tree.specs.declared.tags.Tag.TheVariants.{Block, Return, If, While, Do, NumericFor, GenericFor, Repeat, Function, LocalFunction, Local, Label, Break, Goto, CallStatement, Assignment, Expression, Unary, Tail, Integer, Float, String, Nil, True, False, Varargs, Table, Definition, Suffixed, Name, Group, Field, Index, Call, MethodCall, Item, NamedField, IndexedField}

abbrev pub tag_word : Tag → ℕ
tag_word Block = 1
tag_word Return = 2
tag_word If = 3
tag_word While = 4
tag_word Do = 5
tag_word NumericFor = 6
tag_word GenericFor = 7
tag_word Repeat = 8
tag_word Function = 9
tag_word LocalFunction = 10
tag_word Local = 11
tag_word Label = 12
tag_word Break = 13
tag_word Goto = 14
tag_word CallStatement = 15
tag_word Assignment = 16
tag_word Expression = 17
tag_word Unary = 18
tag_word Tail = 19
tag_word Integer = 20
tag_word Float = 21
tag_word String = 22
tag_word Nil = 23
tag_word True = 24
tag_word False = 25
tag_word Varargs = 26
tag_word Table = 27
tag_word Definition = 28
tag_word Suffixed = 29
tag_word Name = 30
tag_word Group = 31
tag_word Field = 32
tag_word Index = 33
tag_word Call = 34
tag_word MethodCall = 35
tag_word Item = 36
tag_word NamedField = 37
tag_word IndexedField = 38
