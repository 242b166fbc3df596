-- The tables by which one token of foresight decides the factored grammar, and reading by them.
use Rattle.std.specs.Prelude.{ℕ, nat_lt, Bool, true, false, List, [], ◌∷◌}
use Rattle.bed_grammar.specs.Exact.{Outcome}
use Rattle.bed_grammar.specs.Tables.{Tables}
use Rattle.bed_grammar.specs.Grammar.{Rhs, Value}
use Rattle.bed_grammar.specs.Parsing.{parse, read_rhs}
use Rattle.bed_lex.specs.declared.token.Token.{Token}
use Rattle.bed_lang.specs.declared.limit.Which.{Which}
use Rattle.bed_read.specs.Classes.{MODULE, SIGNATURE, RESERVING, FOR, PREDICATE, IMPORT, EXPORT, FUNCTION, LOCALS, EXISTS, EMP, BLOCK, CODE, IN, NOTIN, NIL, CONS, APP, OLD, RESULT, WORD, SEQ, IF, ELSE, JOIN, WHILE, CALL, USING, RETURN, BYTE, AND, OR, XOR, FIND, WALK, HINT, UNFOLD, AT, FOLD, APPEND, DIVIDE, MERGE, BYTES, CELL, UNCELL, DROP, CLAIM, WHEN, GIVE, COMMA, LEFT_PAREN, LEFT_BRACE, LEFT_BRACKET, BAR, ARROW, BYTE_ARROW, LESS, AT_MOST, EQUAL, UNEQUAL, PLUS, MINUS, STAR, AMPERSAND, HOLE}
use Rattle.bed_read.specs.Written.{N, Tree, Module, Signatures, Signature, NameList, Names, Reserving, For, Bind, Binds, MoreBinds, BindList, Sort, Predicates, Predicate, Cases, Imports, Import, Functions, Function, Export, Locals, Body, Statements, Assertion, Terms, Term, PureTerm, Block, Pure, Rel, Membership, CodeFact, Word, Sum, Sums, Sign, Part, Seq, PlainSeq, Arg, Args, MoreArgs, HoleArg, HoleArgs, MoreHoleArgs, Operand, Operands, MoreOperands, Test, Place, Offset, Statement, Assignment, Store, StoreByte, If, Else, Join, While, Return, HintStatement, Find, Walk, Over, Source, Op, Call, Callee, Using, Hints, Hint, PredicateHint, At, BlockHint, CellHint, FactHint, Num, NameTerm, StartTerm, Start, Other, Inner, Tail, Arrow}
use Rattle.bed_read.specs.Factored.{factored}

-- Its texts may be empty.
abbrev pub nullables : N → Bool
nullables Signatures = true
nullables NameList = true
nullables (Names w k) = true
nullables Reserving = true
nullables For = true
nullables (MoreBinds k) = true
nullables BindList = true
nullables Predicates = true
nullables (Cases k) = true
nullables Imports = true
nullables Functions = true
nullables Export = true
nullables Locals = true
nullables (Statements n) = true
nullables (Terms k) = true
nullables (Sums k n) = true
nullables (Args n) = true
nullables (MoreArgs n) = true
nullables (HoleArgs n) = true
nullables (MoreHoleArgs n) = true
nullables Operands = true
nullables MoreOperands = true
nullables Offset = true
nullables (Else n) = true
nullables Join = true
nullables Using = true
nullables Hints = true
nullables At = true
nullables _ = false

-- The classes with which its texts begin.
abbrev pub firsts : N → List ℕ
firsts Module = MODULE ∷ []
firsts Signatures = SIGNATURE ∷ []
firsts Signature = SIGNATURE ∷ []
firsts (Names w k) = COMMA ∷ []
firsts Reserving = RESERVING ∷ []
firsts For = FOR ∷ []
firsts (MoreBinds k) = COMMA ∷ []
firsts Sort = WORD ∷ SEQ ∷ []
firsts Predicates = PREDICATE ∷ []
firsts Predicate = PREDICATE ∷ []
firsts (Cases k) = BAR ∷ []
firsts Imports = IMPORT ∷ []
firsts Import = IMPORT ∷ []
firsts Functions = EXPORT ∷ FUNCTION ∷ []
firsts Function = EXPORT ∷ FUNCTION ∷ []
firsts Export = EXPORT ∷ []
firsts Locals = LOCALS ∷ []
firsts (Body n) = LEFT_BRACE ∷ []
firsts (Statements n) = 0 ∷ IF ∷ WHILE ∷ RETURN ∷ BYTE ∷ FIND ∷ WALK ∷ HINT ∷ LEFT_BRACKET ∷ []
firsts (Assertion m) = 0 ∷ 1 ∷ 2 ∷ EXISTS ∷ EMP ∷ BLOCK ∷ OLD ∷ RESULT ∷ LEFT_PAREN ∷ LEFT_BRACKET ∷ AMPERSAND ∷ []
firsts (Terms k) = STAR ∷ []
firsts (Term m) = 0 ∷ 1 ∷ 2 ∷ EMP ∷ BLOCK ∷ OLD ∷ RESULT ∷ LEFT_PAREN ∷ LEFT_BRACKET ∷ AMPERSAND ∷ []
firsts (PureTerm m) = LEFT_BRACKET ∷ []
firsts (Block m) = BLOCK ∷ []
firsts (Pure n) = 0 ∷ 1 ∷ 2 ∷ CODE ∷ NIL ∷ CONS ∷ APP ∷ OLD ∷ RESULT ∷ LEFT_PAREN ∷ AMPERSAND ∷ []
firsts Rel = LESS ∷ AT_MOST ∷ EQUAL ∷ UNEQUAL ∷ []
firsts Membership = IN ∷ NOTIN ∷ []
firsts (CodeFact n) = CODE ∷ []
firsts (Word n) = 0 ∷ 1 ∷ 2 ∷ OLD ∷ RESULT ∷ LEFT_PAREN ∷ AMPERSAND ∷ []
firsts (Sum m n) = 0 ∷ 1 ∷ 2 ∷ OLD ∷ RESULT ∷ LEFT_PAREN ∷ AMPERSAND ∷ []
firsts (Sums k n) = PLUS ∷ MINUS ∷ []
firsts Sign = PLUS ∷ MINUS ∷ []
firsts (Part m n) = 0 ∷ 1 ∷ 2 ∷ OLD ∷ RESULT ∷ LEFT_PAREN ∷ AMPERSAND ∷ []
firsts (Seq n) = 0 ∷ NIL ∷ CONS ∷ APP ∷ []
firsts (PlainSeq n) = NIL ∷ CONS ∷ APP ∷ []
firsts (Arg n) = 0 ∷ 1 ∷ 2 ∷ NIL ∷ CONS ∷ APP ∷ OLD ∷ RESULT ∷ LEFT_PAREN ∷ AMPERSAND ∷ []
firsts (Args n) = 0 ∷ 1 ∷ 2 ∷ NIL ∷ CONS ∷ APP ∷ OLD ∷ RESULT ∷ LEFT_PAREN ∷ AMPERSAND ∷ []
firsts (MoreArgs n) = COMMA ∷ []
firsts (HoleArg n) = 0 ∷ 1 ∷ 2 ∷ NIL ∷ CONS ∷ APP ∷ OLD ∷ RESULT ∷ LEFT_PAREN ∷ AMPERSAND ∷ HOLE ∷ []
firsts (HoleArgs n) = 0 ∷ 1 ∷ 2 ∷ NIL ∷ CONS ∷ APP ∷ OLD ∷ RESULT ∷ LEFT_PAREN ∷ AMPERSAND ∷ HOLE ∷ []
firsts (MoreHoleArgs n) = COMMA ∷ []
firsts Operand = 0 ∷ 1 ∷ 2 ∷ AMPERSAND ∷ []
firsts Operands = 0 ∷ 1 ∷ 2 ∷ AMPERSAND ∷ []
firsts MoreOperands = COMMA ∷ []
firsts Test = 0 ∷ 1 ∷ 2 ∷ AMPERSAND ∷ []
firsts Place = 0 ∷ 1 ∷ 2 ∷ AMPERSAND ∷ []
firsts Offset = PLUS ∷ []
firsts (Statement n) = 0 ∷ IF ∷ WHILE ∷ RETURN ∷ BYTE ∷ FIND ∷ WALK ∷ HINT ∷ LEFT_BRACKET ∷ []
firsts Store = LEFT_BRACKET ∷ []
firsts StoreByte = BYTE ∷ []
firsts (If n) = IF ∷ []
firsts (Else n) = ELSE ∷ []
firsts Join = JOIN ∷ []
firsts (While n) = WHILE ∷ []
firsts Return = RETURN ∷ []
firsts HintStatement = HINT ∷ []
firsts (Find n) = FIND ∷ []
firsts (Walk n) = WALK ∷ []
firsts Over = IN ∷ []
firsts Source = 0 ∷ 1 ∷ 2 ∷ CALL ∷ BYTE ∷ LEFT_BRACKET ∷ AMPERSAND ∷ []
firsts Op = AND ∷ OR ∷ XOR ∷ PLUS ∷ MINUS ∷ STAR ∷ []
firsts Call = CALL ∷ []
firsts Callee = 0 ∷ AMPERSAND ∷ []
firsts Using = USING ∷ []
firsts Hints = COMMA ∷ []
firsts Hint = WORD ∷ UNFOLD ∷ FOLD ∷ APPEND ∷ DIVIDE ∷ MERGE ∷ BYTES ∷ CELL ∷ UNCELL ∷ DROP ∷ CLAIM ∷ WHEN ∷ GIVE ∷ []
firsts PredicateHint = UNFOLD ∷ FOLD ∷ []
firsts At = AT ∷ []
firsts BlockHint = APPEND ∷ DIVIDE ∷ MERGE ∷ []
firsts CellHint = WORD ∷ BYTES ∷ CELL ∷ UNCELL ∷ DROP ∷ []
firsts FactHint = CLAIM ∷ WHEN ∷ GIVE ∷ []
firsts (Num m) = 1 ∷ 2 ∷ []
firsts (StartTerm m) = 1 ∷ 2 ∷ OLD ∷ RESULT ∷ LEFT_PAREN ∷ AMPERSAND ∷ []
firsts (Start m n) = 1 ∷ 2 ∷ OLD ∷ RESULT ∷ LEFT_PAREN ∷ AMPERSAND ∷ []
firsts (Other m n) = OLD ∷ RESULT ∷ LEFT_PAREN ∷ AMPERSAND ∷ []
firsts (Inner n) = 0 ∷ 1 ∷ 2 ∷ OLD ∷ RESULT ∷ LEFT_PAREN ∷ AMPERSAND ∷ []
firsts (Tail n) = IN ∷ NOTIN ∷ LESS ∷ AT_MOST ∷ EQUAL ∷ UNEQUAL ∷ []
firsts Arrow = ARROW ∷ BYTE_ARROW ∷ []
firsts _ = 0 ∷ []

-- The classes that may continue a whole text of it to a longer one.
abbrev pub follow_lasts : N → List ℕ
follow_lasts Module = SIGNATURE ∷ PREDICATE ∷ IMPORT ∷ EXPORT ∷ FUNCTION ∷ []
follow_lasts Signatures = SIGNATURE ∷ []
follow_lasts NameList = 0 ∷ COMMA ∷ []
follow_lasts (Names w k) = COMMA ∷ []
follow_lasts Reserving = RESERVING ∷ []
follow_lasts For = FOR ∷ COMMA ∷ []
follow_lasts Binds = COMMA ∷ []
follow_lasts (MoreBinds k) = COMMA ∷ []
follow_lasts BindList = 0 ∷ COMMA ∷ []
follow_lasts Predicates = PREDICATE ∷ []
follow_lasts (Cases k) = BAR ∷ PLUS ∷ MINUS ∷ STAR ∷ []
follow_lasts Imports = IMPORT ∷ []
follow_lasts Functions = EXPORT ∷ FUNCTION ∷ []
follow_lasts Export = EXPORT ∷ []
follow_lasts Locals = LOCALS ∷ COMMA ∷ []
follow_lasts (Statements n) = 0 ∷ IF ∷ ELSE ∷ JOIN ∷ WHILE ∷ RETURN ∷ BYTE ∷ FIND ∷ WALK ∷ HINT ∷ LEFT_BRACKET ∷ []
follow_lasts (Assertion m) = PLUS ∷ MINUS ∷ STAR ∷ []
follow_lasts (Terms k) = PLUS ∷ MINUS ∷ STAR ∷ []
follow_lasts (Term m) = PLUS ∷ MINUS ∷ []
follow_lasts (Pure n) = PLUS ∷ MINUS ∷ []
follow_lasts (Word n) = PLUS ∷ MINUS ∷ []
follow_lasts (Sum m n) = PLUS ∷ MINUS ∷ []
follow_lasts (Sums k n) = PLUS ∷ MINUS ∷ []
follow_lasts (Arg n) = PLUS ∷ MINUS ∷ []
follow_lasts (Args n) = 0 ∷ 1 ∷ 2 ∷ NIL ∷ CONS ∷ APP ∷ OLD ∷ RESULT ∷ COMMA ∷ LEFT_PAREN ∷ PLUS ∷ MINUS ∷ AMPERSAND ∷ []
follow_lasts (MoreArgs n) = COMMA ∷ PLUS ∷ MINUS ∷ []
follow_lasts (HoleArg n) = PLUS ∷ MINUS ∷ []
follow_lasts (HoleArgs n) = 0 ∷ 1 ∷ 2 ∷ NIL ∷ CONS ∷ APP ∷ OLD ∷ RESULT ∷ COMMA ∷ LEFT_PAREN ∷ PLUS ∷ MINUS ∷ AMPERSAND ∷ HOLE ∷ []
follow_lasts (MoreHoleArgs n) = COMMA ∷ PLUS ∷ MINUS ∷ []
follow_lasts Operands = 0 ∷ 1 ∷ 2 ∷ COMMA ∷ AMPERSAND ∷ []
follow_lasts MoreOperands = COMMA ∷ []
follow_lasts Place = PLUS ∷ []
follow_lasts Offset = PLUS ∷ []
follow_lasts (Statement n) = ELSE ∷ JOIN ∷ []
follow_lasts (If n) = ELSE ∷ JOIN ∷ []
follow_lasts (Else n) = ELSE ∷ []
follow_lasts Join = JOIN ∷ []
follow_lasts Over = PLUS ∷ MINUS ∷ STAR ∷ []
follow_lasts Source = AND ∷ OR ∷ XOR ∷ PLUS ∷ MINUS ∷ STAR ∷ []
follow_lasts Call = PLUS ∷ MINUS ∷ STAR ∷ []
follow_lasts Using = USING ∷ AT ∷ COMMA ∷ PLUS ∷ MINUS ∷ []
follow_lasts Hints = AT ∷ COMMA ∷ PLUS ∷ MINUS ∷ []
follow_lasts Hint = AT ∷ PLUS ∷ MINUS ∷ []
follow_lasts PredicateHint = AT ∷ PLUS ∷ MINUS ∷ []
follow_lasts At = AT ∷ PLUS ∷ MINUS ∷ []
follow_lasts BlockHint = PLUS ∷ MINUS ∷ []
follow_lasts CellHint = PLUS ∷ MINUS ∷ []
follow_lasts FactHint = PLUS ∷ MINUS ∷ []
follow_lasts (NameTerm m) = PLUS ∷ MINUS ∷ []
follow_lasts (StartTerm m) = PLUS ∷ MINUS ∷ []
follow_lasts (Inner n) = PLUS ∷ MINUS ∷ STAR ∷ []
follow_lasts (Tail n) = PLUS ∷ MINUS ∷ []
follow_lasts Arrow = PLUS ∷ MINUS ∷ []
follow_lasts _ = []

-- A rank above those of the nonterminals at its left end.
abbrev pub rank : N → ℕ
rank Signatures = 1
rank NameList = 1
rank (Bind m) = 1
rank Binds = 2
rank BindList = 3
rank Predicates = 1
rank Imports = 1
rank Functions = 2
rank Function = 1
rank (Statements n) = 3
rank (Assertion m) = 4
rank (Term m) = 3
rank (Pure n) = 2
rank (Word n) = 4
rank (Sum m n) = 3
rank (Sums k n) = 1
rank (Part m n) = 2
rank (Seq n) = 1
rank (Arg n) = 4
rank (Args n) = 5
rank (HoleArg n) = 5
rank (HoleArgs n) = 6
rank Operand = 1
rank Operands = 2
rank Test = 2
rank Place = 2
rank (Statement n) = 2
rank Assignment = 1
rank Source = 2
rank Callee = 1
rank Hint = 1
rank (NameTerm m) = 1
rank (StartTerm m) = 2
rank (Start m n) = 1
rank (Inner n) = 1
rank (Tail n) = 1
rank _ = 0

-- The height of a derivation tree that it has.
abbrev pub height : N → ℕ
height Module = 1
height Signature = 2
height (Bind m) = 1
height Binds = 2
height Predicate = 2
height Import = 1
height Function = 2
height (Body n) = 1
height (Assertion m) = 1
height (PureTerm m) = 3
height (Block m) = 4
height (Pure n) = 2
height (CodeFact n) = 4
height (Word n) = 3
height (Sum m n) = 2
height (Part m n) = 1
height (Seq n) = 1
height (Arg n) = 1
height Operand = 1
height Test = 2
height Place = 2
height (Statement n) = 3
height Assignment = 3
height Store = 3
height StoreByte = 3
height (If n) = 3
height (While n) = 3
height Return = 2
height HintStatement = 3
height (Find n) = 3
height (Walk n) = 3
height Over = 2
height Source = 2
height Call = 2
height Callee = 1
height Hint = 2
height PredicateHint = 1
height BlockHint = 4
height CellHint = 4
height FactHint = 2
height (NameTerm m) = 1
height (StartTerm m) = 5
height (Start m n) = 1
height (Inner n) = 1
height (Tail n) = 2
height Arrow = 4
height _ = 0

abbrev pub tables : Tables factored
tables = record { is_terminal = λ c. nat_lt c 85; nullables = nullables; firsts = firsts; follow_lasts = follow_lasts; rank = rank; ranks = 7; height = height }

-- how a nonterminal is read
abbrev pub read : (n : N) → List Token → Outcome Token Which (Tree n)
read n s = parse factored tables n s

-- how a part of a production is read
abbrev pub read_part : (g : Rhs N Which) → List Token → Outcome Token Which (Value Token Tree g)
read_part g s = read_rhs factored tables read g s
