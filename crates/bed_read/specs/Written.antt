-- The grammar of modules, as it is written: one case per production, with the limits.
--
-- A nonterminal may say what stands around it. m is the limit that its first token passes, if it passes one; n is how many
-- brackets, or bodies, may still be opened inside it; k is how many items may still follow. Where an item is one too many
-- its first token has a mark, and past it the grammar goes on as ever.
use Rattle.std.specs.Prelude.{ℕ, ◌-◌, nat_eq, if◌then◌else◌, Bool, true, false, List, [], ◌∷◌, Option, Some, None}
use Rattle.std.proofs.Common.{inl, inr}
use Rattle.std.specs.Option.{option_or}
use Rattle.bed_grammar.specs.Grammar.{Rhs, token, empty, seq, alt, ref, Value, Grammar}
use Rattle.bed_lang.specs.declared.word.Name.{Name}
use Rattle.bed_lang.specs.declared.word.Sort.TheVariants as sort
use Rattle.bed_lang.specs.declared.word.Sort as sorts
use Rattle.bed_lang.specs.declared.word.Word as word
use Rattle.bed_lang.specs.declared.word.Var.TheVariants as var
use Rattle.bed_lang.specs.declared.word.Seq as sequence
use Rattle.bed_lang.specs.declared.logic.Arg as args
use Rattle.bed_lang.specs.declared.logic.Arg.TheVariants as arg
use Rattle.bed_lang.specs.declared.logic.Pure as pures
use Rattle.bed_lang.specs.declared.logic.Pure.TheVariants as pure
use Rattle.bed_lang.specs.declared.logic.Atom.TheVariants as atom
use Rattle.bed_lang.specs.declared.logic.Term as terms
use Rattle.bed_lang.specs.declared.logic.Term.TheVariants as term
use Rattle.bed_lang.specs.declared.logic.Bind as binds
use Rattle.bed_lang.specs.declared.logic.Assertion as assertions
use Rattle.bed_lang.specs.declared.module.Operand as operands
use Rattle.bed_lang.specs.declared.module.Operand.TheVariants as operand
use Rattle.bed_lang.specs.declared.module.Op as ops
use Rattle.bed_lang.specs.declared.module.Op.TheVariants as op
use Rattle.bed_lang.specs.declared.module.Rel as rels
use Rattle.bed_lang.specs.declared.module.Rel.TheVariants as rel
use Rattle.bed_lang.specs.declared.module.Signature as signatures
use Rattle.bed_lang.specs.declared.module.Predicate as predicates
use Rattle.bed_lang.specs.declared.module.Import as imports
use Rattle.bed_lang.specs.declared.module.Function as functions
use Rattle.bed_lang.specs.declared.module.Module as modules
use Rattle.bed_lang.specs.declared.module.Place as places
use Rattle.bed_lang.specs.declared.module.Test as tests
use Rattle.bed_lang.specs.declared.module.Hint as hints
use Rattle.bed_lang.specs.declared.module.Hint.TheVariants as hint
use Rattle.bed_lang.specs.declared.module.Join as joins
use Rattle.bed_lang.specs.declared.statement.Stmt as statements
use Rattle.bed_lang.specs.declared.statement.StmtKind as stmt
use Rattle.bed_lex.specs.declared.token.Token.{Token}
use Rattle.bed_lang.specs.declared.limit.Which.{Which}
use Rattle.bed_lang.specs.declared.limit.Which.TheVariants as limit
use Rattle.bed_read.specs.declared.parts.Piece as pieces
use Rattle.bed_read.specs.declared.parts.Piece.TheVariants as piece
use Rattle.bed_read.specs.declared.parts.Tail as tails
use Rattle.bed_read.specs.declared.parts.Tail.TheVariants as tail
use Rattle.bed_read.specs.declared.parts.Source as sources
use Rattle.bed_read.specs.declared.parts.Source.TheVariants as source
use Rattle.bed_read.specs.declared.parts.Call as calls
use Rattle.bed_read.specs.declared.parts.Over as overs
use Rattle.bed_read.specs.Classes.{class, IsLexeme, MODULE, SIGNATURE, RESERVING, FOR, PRE, POST, PREDICATE, IMPORT, EXPORT, FUNCTION, LOCALS, EXISTS, EMP, BLOCK, CODE, IN, NOTIN, NIL, CONS, APP, OLD, RESULT, WORD, SEQ, IF, ELSE, JOIN, WHILE, INVARIANT, CALL, VIA, USING, AFTER, RETURN, BYTE, AND, OR, XOR, FIND, WALK, OF, AS, KEEP, HINT, UNFOLD, AT, FOLD, CASE, APPEND, DIVIDE, MERGE, BYTES, CELL, UNCELL, DROP, CLAIM, WHEN, GIVE, SEMICOLON, COMMA, COLON, LEFT_PAREN, RIGHT_PAREN, LEFT_BRACE, RIGHT_BRACE, LEFT_BRACKET, RIGHT_BRACKET, DOT, BAR, ARROW, BYTE_ARROW, ASSIGN, LESS, AT_MOST, EQUAL, SAME, UNEQUAL, PLUS, MINUS, STAR, AMPERSAND, HOLE}
use Rattle.bed_read.specs.Trees.{number_of, name_of, moved, word_of, summed, word_argument, hole, compared, membership, cell_at, assigned}

-- The nonterminals: the productions of the language, with the lists, options and choices inside them.
pub data N : Type 0 where
  Module : N
  Signatures : N
  Signature : N
  NameList : N
  Names : Which → ℕ → N
  Reserving : N
  For : N
  Bind : Option Which → N
  Binds : N
  MoreBinds : ℕ → N
  BindList : N
  Sort : N
  Predicates : N
  Predicate : N
  Cases : ℕ → N
  Imports : N
  Import : N
  Functions : N
  Function : N
  Export : N
  Locals : N
  Body : ℕ → N
  Statements : ℕ → N
  Assertion : Option Which → N
  Terms : ℕ → N
  Term : Option Which → N
  PureTerm : Option Which → N
  Block : Option Which → N
  Pure : ℕ → N
  Rel : N
  Membership : N
  CodeFact : ℕ → N
  Word : ℕ → N
  Sum : Option Which → ℕ → N
  Sums : ℕ → ℕ → N
  Sign : N
  Part : Option Which → ℕ → N
  Seq : ℕ → N
  PlainSeq : ℕ → N
  Arg : ℕ → N
  Args : ℕ → N
  MoreArgs : ℕ → N
  HoleArg : ℕ → N
  HoleArgs : ℕ → N
  MoreHoleArgs : ℕ → N
  Operand : N
  Operands : N
  MoreOperands : N
  Test : N
  Place : N
  Offset : N
  Statement : ℕ → N
  Assignment : N
  Store : N
  StoreByte : N
  If : ℕ → N
  Else : ℕ → N
  Join : N
  While : ℕ → N
  Return : N
  HintStatement : N
  Find : ℕ → N
  Walk : ℕ → N
  Over : N
  Source : N
  Op : N
  Call : N
  Callee : N
  Using : N
  Hints : N
  Hint : N
  PredicateHint : N
  At : N
  BlockHint : N
  CellHint : N
  FactHint : N
  Nam : Option Which → N
  Num : Option Which → N
  NameTerm : Option Which → N
  StartTerm : Option Which → N
  Start : Option Which → ℕ → N
  Other : Option Which → ℕ → N
  Inner : ℕ → N
  Tail : ℕ → N
  Arrow : N

-- The tree of a nonterminal. A place beside a tree is that of its first token.
abbrev pub Tree : N → Type 0
Tree Module = modules.Module
Tree Signatures = List signatures.Signature
Tree Signature = signatures.Signature
Tree NameList = List Name
Tree (Names w k) = List Name
Tree Reserving = ℕ
Tree For = List binds.Bind
Tree (Bind m) = binds.Bind
Tree Binds = List binds.Bind
Tree (MoreBinds k) = List binds.Bind
Tree BindList = List binds.Bind
Tree Sort = sorts.Sort
Tree Predicates = List predicates.Predicate
Tree Predicate = predicates.Predicate
Tree (Cases k) = List assertions.Assertion
Tree Imports = List imports.Import
Tree Import = imports.Import
Tree Functions = List functions.Function
Tree Function = functions.Function
Tree Export = Bool
Tree Locals = List Name
Tree (Body n) = List statements.Stmt × ℕ
Tree (Statements n) = List statements.Stmt
Tree (Assertion m) = assertions.Assertion
Tree (Terms k) = List terms.Term
Tree (Term m) = ℕ × terms.Term
Tree (PureTerm m) = ℕ × terms.Term
Tree (Block m) = ℕ × terms.Term
Tree (Pure n) = pures.Pure
Tree Rel = rels.Rel
Tree Membership = Bool
Tree (CodeFact n) = pures.Pure
Tree (Word n) = word.Word
Tree (Sum m n) = pieces.Piece
Tree (Sums k n) = List (Bool × word.Word)
Tree Sign = Bool
Tree (Part m n) = pieces.Piece
Tree (Seq n) = sequence.Seq
Tree (PlainSeq n) = ℕ × sequence.Seq
Tree (Arg n) = args.Arg
Tree (Args n) = List args.Arg
Tree (MoreArgs n) = List args.Arg
Tree (HoleArg n) = args.Arg
Tree (HoleArgs n) = List args.Arg
Tree (MoreHoleArgs n) = List args.Arg
Tree Operand = ℕ × operands.Operand
Tree Operands = List operands.Operand
Tree MoreOperands = List operands.Operand
Tree Test = tests.Test
Tree Place = places.Place
Tree Offset = ℕ
Tree (Statement n) = statements.Stmt
Tree Assignment = statements.Stmt
Tree Store = statements.Stmt
Tree StoreByte = statements.Stmt
Tree (If n) = statements.Stmt
Tree (Else n) = List statements.Stmt
Tree Join = Option joins.Join
Tree (While n) = statements.Stmt
Tree Return = statements.Stmt
Tree HintStatement = statements.Stmt
Tree (Find n) = statements.Stmt
Tree (Walk n) = statements.Stmt
Tree Over = overs.Over
Tree Source = sources.Source
Tree Op = ops.Op
Tree Call = calls.Call
Tree Callee = operands.Operand × Option Name
Tree Using = List hints.Hint
Tree Hints = List hints.Hint
Tree Hint = hints.Hint
Tree PredicateHint = hints.Hint
Tree At = Option word.Word
Tree BlockHint = hints.Hint
Tree CellHint = hints.Hint
Tree FactHint = hints.Hint
Tree (Nam m) = Name
Tree (Num m) = ℕ × ℕ
Tree (NameTerm m) = ℕ × terms.Term
Tree (StartTerm m) = ℕ × terms.Term
Tree (Start m n) = pieces.Piece
Tree (Other m n) = pieces.Piece
Tree (Inner n) = word.Word
Tree (Tail n) = tails.Tail
Tree Arrow = Bool × word.Word

-- the mark past a limit, where nothing is left of it
abbrev pub past : Which → ℕ → Option Which
past which left = if nat_eq left 0 then Some which else None

-- one part after the other
infixr 6 ◌▸◌
abbrev pub ◌▸◌ : Rhs N Which → Rhs N Which → Rhs N Which
a ▸ b = seq a b

-- either of two parts
infixr 4 ◌∥◌
abbrev pub ◌∥◌ : Rhs N Which → Rhs N Which → Rhs N Which
a ∥ b = alt a b

-- a word or mark within the limits
abbrev pub sign : ℕ → Rhs N Which
sign c = token c None

abbrev pub name : Rhs N Which
name = ref (Nam None)

abbrev pub number : Rhs N Which
number = ref (Num None)

abbrev pub written_rule : N → Rhs N Which
-- module = "module" name ";" signature* predicate* import* function*
written_rule Module = sign MODULE ▸ name ▸ sign SEMICOLON ▸ ref Signatures ▸ ref Predicates ▸ ref Imports ▸ ref Functions
written_rule Signatures = ref Signature ▸ ref Signatures ∥ empty
written_rule Predicates = ref Predicate ▸ ref Predicates ∥ empty
written_rule Imports = ref Import ▸ ref Imports ∥ empty
written_rule Functions = ref Function ▸ ref Functions ∥ empty
-- signature = "signature" name "(" name,* ")" ("reserving" number)? ("for" bind,+)? "pre" assertion "post" assertion ";"
-- with at most 60 names, 60 binds, and a number of at most 4096
written_rule Signature = sign SIGNATURE ▸ name ▸ sign LEFT_PAREN ▸ ref NameList ▸ sign RIGHT_PAREN ▸ ref Reserving ▸ ref For
    ▸ sign PRE ▸ ref (Assertion None) ▸ sign POST ▸ ref (Assertion None) ▸ sign SEMICOLON
written_rule NameList = name ▸ ref (Names limit.Params 59) ∥ empty
written_rule (Names w k) = sign COMMA ▸ ref (Nam (past w k)) ▸ ref (Names w (k - 1)) ∥ empty
written_rule Reserving = sign RESERVING ▸ (token 1 None ∥ token 2 (Some limit.Reserve)) ∥ empty
written_rule For = sign FOR ▸ ref Binds ∥ empty
-- bind = name ":" ("word" | "seq")
written_rule (Bind m) = ref (Nam m) ▸ sign COLON ▸ ref Sort
written_rule Binds = ref (Bind None) ▸ ref (MoreBinds 59)
written_rule (MoreBinds k) = sign COMMA ▸ ref (Bind (past limit.Params k)) ▸ ref (MoreBinds (k - 1)) ∥ empty
written_rule BindList = ref Binds ∥ empty
written_rule Sort = sign WORD ∥ sign SEQ
-- predicate = "predicate" name "(" bind,* ")" "=" assertion ("|" assertion)* ";" with at most 60 binds and 16 cases
written_rule Predicate = sign PREDICATE ▸ name ▸ sign LEFT_PAREN ▸ ref BindList ▸ sign RIGHT_PAREN ▸ sign EQUAL ▸ ref (Assertion None) ▸ ref (Cases 15) ▸ sign SEMICOLON
written_rule (Cases k) = sign BAR ▸ ref (Assertion (past limit.Cases k)) ▸ ref (Cases (k - 1)) ∥ empty
-- import = "import" name ":" name ";"
written_rule Import = sign IMPORT ▸ name ▸ sign COLON ▸ name ▸ sign SEMICOLON
-- function = "export"? "function" name ":" name ("locals" name,+)? body with at most 60 locals
written_rule Function = ref Export ▸ sign FUNCTION ▸ name ▸ sign COLON ▸ name ▸ ref Locals ▸ ref (Body 64)
written_rule Export = sign EXPORT ∥ empty
written_rule Locals = sign LOCALS ▸ name ▸ ref (Names limit.Locals 59) ∥ empty
-- body = "{" statement* "}" with at most 64 bodies open
written_rule (Body n) = token LEFT_BRACE (past limit.Nesting n) ▸ ref (Statements (n - 1)) ▸ sign RIGHT_BRACE
written_rule (Statements n) = ref (Statement n) ▸ ref (Statements n) ∥ empty
-- assertion = ("exists" bind,+ ".")? term ("*" term)* with at most 60 binds and 256 terms
written_rule (Assertion m) = token EXISTS m ▸ ref Binds ▸ sign DOT ▸ ref (Term None) ▸ ref (Terms 255)
    ∥ ref (Term m) ▸ ref (Terms 255)
written_rule (Terms k) = sign STAR ▸ ref (Term (past limit.Terms k)) ▸ ref (Terms (k - 1)) ∥ empty
-- term = "emp" | "[" pure "]" | "block" "(" word "," word ")" | name "(" arg,* ")" | word "|->" word | word "|->b" word
-- with at most 64 brackets open
written_rule (Term m) = token EMP m
    ∥ ref (PureTerm m)
    ∥ ref (Block m)
    ∥ ref (Nam m) ▸ sign LEFT_PAREN ▸ ref (Args 63) ▸ sign RIGHT_PAREN
    ∥ ref (Sum m 64) ▸ sign ARROW ▸ ref (Word 64)
    ∥ ref (Sum m 64) ▸ sign BYTE_ARROW ▸ ref (Word 64)
written_rule (PureTerm m) = token LEFT_BRACKET m ▸ ref (Pure 63) ▸ sign RIGHT_BRACKET
written_rule (Block m) = token BLOCK m ▸ sign LEFT_PAREN ▸ ref (Word 63) ▸ sign COMMA ▸ ref (Word 63) ▸ sign RIGHT_PAREN
-- pure = word ("=" | "!=" | "<" | "<=") word | seq "==" seq | word ("in" | "notin") seq | "code" "(" word "," name ")"
written_rule (Pure n) = ref (Word n) ▸ ref Rel ▸ ref (Word n)
    ∥ ref (Seq n) ▸ sign SAME ▸ ref (Seq n)
    ∥ ref (Word n) ▸ ref Membership ▸ ref (Seq n)
    ∥ ref (CodeFact n)
written_rule Rel = sign EQUAL ∥ sign UNEQUAL ∥ sign LESS ∥ sign AT_MOST
written_rule Membership = sign IN ∥ sign NOTIN
written_rule (CodeFact n) = sign CODE ▸ token LEFT_PAREN (past limit.Nesting n) ▸ ref (Word (n - 1)) ▸ sign COMMA ▸ name ▸ sign RIGHT_PAREN
-- word = part (("+" | "-") part)* with at most 256 parts
written_rule (Word n) = ref (Sum None n)
written_rule (Sum m n) = ref (Part m n) ▸ ref (Sums 255 n)
written_rule (Sums k n) = ref Sign ▸ ref (Part (past limit.Terms k) n) ▸ ref (Sums (k - 1) n) ∥ empty
written_rule Sign = sign PLUS ∥ sign MINUS
-- part = number | name | "&" name | "old" name | "result" | "(" number "*" word ")" | "(" word ")"
written_rule (Part m n) = ref (Num m)
    ∥ ref (Nam m)
    ∥ token AMPERSAND m ▸ name
    ∥ token OLD m ▸ name
    ∥ token RESULT m
    ∥ token LEFT_PAREN (option_or m (past limit.Nesting n)) ▸ number ▸ sign STAR ▸ ref (Word (n - 1)) ▸ sign RIGHT_PAREN
    ∥ token LEFT_PAREN (option_or m (past limit.Nesting n)) ▸ ref (Word (n - 1)) ▸ sign RIGHT_PAREN
-- seq = name | "nil" | "cons" "(" word "," seq ")" | "app" "(" seq "," seq ")"
written_rule (Seq n) = name ∥ ref (PlainSeq n)
written_rule (PlainSeq n) = sign NIL
    ∥ sign CONS ▸ token LEFT_PAREN (past limit.Nesting n) ▸ ref (Word (n - 1)) ▸ sign COMMA ▸ ref (Seq (n - 1)) ▸ sign RIGHT_PAREN
    ∥ sign APP ▸ token LEFT_PAREN (past limit.Nesting n) ▸ ref (Seq (n - 1)) ▸ sign COMMA ▸ ref (Seq (n - 1)) ▸ sign RIGHT_PAREN
-- arg = word | seq | "_" and the hole stands only as an argument of a `fold` hint
written_rule (Arg n) = ref (Sum None n) ∥ name ∥ ref (PlainSeq n)
written_rule (Args n) = ref (Arg n) ▸ ref (MoreArgs n) ∥ empty
written_rule (MoreArgs n) = sign COMMA ▸ ref (Arg n) ▸ ref (MoreArgs n) ∥ empty
written_rule (HoleArg n) = sign HOLE ∥ ref (Arg n)
written_rule (HoleArgs n) = ref (HoleArg n) ▸ ref (MoreHoleArgs n) ∥ empty
written_rule (MoreHoleArgs n) = sign COMMA ▸ ref (HoleArg n) ▸ ref (MoreHoleArgs n) ∥ empty
-- operand = number | name | "&" name
written_rule Operand = number ∥ name ∥ sign AMPERSAND ▸ name
written_rule Operands = ref Operand ▸ ref MoreOperands ∥ empty
written_rule MoreOperands = sign COMMA ▸ ref Operand ▸ ref MoreOperands ∥ empty
-- test = operand ("=" | "!=" | "<" | "<=") operand
written_rule Test = ref Operand ▸ ref Rel ▸ ref Operand
-- place = operand ("+" number)?
written_rule Place = ref Operand ▸ ref Offset
written_rule Offset = sign PLUS ▸ number ∥ empty
-- statement, one alternative after the other
written_rule (Statement n) = ref Assignment ∥ ref Store ∥ ref StoreByte ∥ ref (If n) ∥ ref (While n) ∥ ref Return ∥ ref HintStatement ∥ ref (Find n) ∥ ref (Walk n)
-- name "<-" source ";"
written_rule Assignment = name ▸ sign ASSIGN ▸ ref Source ▸ sign SEMICOLON
-- "[" place "]" "<-" operand ";"
written_rule Store = sign LEFT_BRACKET ▸ ref Place ▸ sign RIGHT_BRACKET ▸ sign ASSIGN ▸ ref Operand ▸ sign SEMICOLON
-- "byte" "[" place "]" "<-" operand ";"
written_rule StoreByte = sign BYTE ▸ sign LEFT_BRACKET ▸ ref Place ▸ sign RIGHT_BRACKET ▸ sign ASSIGN ▸ ref Operand ▸ sign SEMICOLON
-- "if" test body ("else" body)? ("join" assertion ";")?
written_rule (If n) = sign IF ▸ ref Test ▸ ref (Body n) ▸ ref (Else n) ▸ ref Join
written_rule (Else n) = sign ELSE ▸ ref (Body n) ∥ empty
written_rule Join = sign JOIN ▸ ref (Assertion None) ▸ sign SEMICOLON ∥ empty
-- "while" test "invariant" assertion body
written_rule (While n) = sign WHILE ▸ ref Test ▸ sign INVARIANT ▸ ref (Assertion None) ▸ ref (Body n)
-- "return" operand ";"
written_rule Return = sign RETURN ▸ ref Operand ▸ sign SEMICOLON
-- "hint" hint ";"
written_rule HintStatement = sign HINT ▸ ref Hint ▸ sign SEMICOLON
-- "find" name "," name "for" operand "in" name "of" seq "as" name "," name "keep" assertion body
written_rule (Find n) = sign FIND ▸ name ▸ sign COMMA ▸ name ▸ sign FOR ▸ ref Operand ▸ ref Over ▸ ref (Body n)
-- "walk" name "," name "in" name "of" seq "as" name "," name "keep" assertion body
written_rule (Walk n) = sign WALK ▸ name ▸ sign COMMA ▸ name ▸ ref Over ▸ ref (Body n)
-- what both share: "in" name "of" seq "as" name "," name "keep" assertion
written_rule Over = sign IN ▸ name ▸ sign OF ▸ ref (Seq 64) ▸ sign AS ▸ name ▸ sign COMMA ▸ name ▸ sign KEEP ▸ ref (Assertion None)
-- source = operand | operand ("+" | "-" | "*" | "and" | "or" | "xor") operand | "[" place "]" | "byte" "[" place "]"
--        | "call" ("&" name | name "via" name) "(" operand,* ")" ("using" hint,+)? "after" assertion
written_rule Source = ref Operand
    ∥ ref Operand ▸ ref Op ▸ ref Operand
    ∥ sign LEFT_BRACKET ▸ ref Place ▸ sign RIGHT_BRACKET
    ∥ sign BYTE ▸ sign LEFT_BRACKET ▸ ref Place ▸ sign RIGHT_BRACKET
    ∥ ref Call
written_rule Op = sign PLUS ∥ sign MINUS ∥ sign STAR ∥ sign AND ∥ sign OR ∥ sign XOR
written_rule Call = sign CALL ▸ ref Callee ▸ sign LEFT_PAREN ▸ ref Operands ▸ sign RIGHT_PAREN ▸ ref Using ▸ sign AFTER ▸ ref (Assertion None)
written_rule Callee = sign AMPERSAND ▸ name ∥ name ▸ sign VIA ▸ name
written_rule Using = sign USING ▸ ref Hint ▸ ref Hints ∥ empty
written_rule Hints = sign COMMA ▸ ref Hint ▸ ref Hints ∥ empty
-- hint, in four groups
written_rule Hint = ref PredicateHint ∥ ref BlockHint ∥ ref CellHint ∥ ref FactHint
-- "unfold" name ("at" word)? | "fold" name "(" arg,* ")" "case" number
written_rule PredicateHint = sign UNFOLD ▸ name ▸ ref At
    ∥ sign FOLD ▸ name ▸ sign LEFT_PAREN ▸ ref (HoleArgs 64) ▸ sign RIGHT_PAREN ▸ sign CASE ▸ number
written_rule At = sign AT ▸ ref (Word 64) ∥ empty
-- "append" word | "divide" word "," word | "merge" word "," word
written_rule BlockHint = sign APPEND ▸ ref (Word 64)
    ∥ sign DIVIDE ▸ ref (Word 64) ▸ sign COMMA ▸ ref (Word 64)
    ∥ sign MERGE ▸ ref (Word 64) ▸ sign COMMA ▸ ref (Word 64)
-- "bytes" word | "word" word | "cell" word | "uncell" word | "drop" word
written_rule CellHint = sign BYTES ▸ ref (Word 64) ∥ sign WORD ▸ ref (Word 64) ∥ sign CELL ▸ ref (Word 64) ∥ sign UNCELL ▸ ref (Word 64) ∥ sign DROP ▸ ref (Word 64)
-- "claim" pure | "when" pure | "give" name "=" arg
written_rule FactHint = sign CLAIM ▸ ref (Pure 64) ∥ sign WHEN ▸ ref (Pure 64) ∥ sign GIVE ▸ name ▸ sign EQUAL ▸ ref (Arg 64)
written_rule (Nam m) = token 0 m
written_rule (Num m) = token 1 m ∥ token 2 m
-- Named by the factored grammar alone: a term that begins with a name, and a cell that doesn't; a part that is no name, and
-- one that is neither name nor number; what stands in the brackets of a part; what follows the first word of a fact; what
-- follows the address of a cell.
written_rule (NameTerm m) = ref (Term m)
written_rule (StartTerm m) = ref (Term m)
written_rule (Start m n) = ref (Part m n)
written_rule (Other m n) = ref (Part m n)
written_rule (Inner n) = number ▸ sign STAR ▸ ref (Word n) ∥ ref (Word n)
written_rule (Tail n) = ref Rel ▸ ref (Word n) ∥ ref Membership ▸ ref (Seq n)
written_rule Arrow = sign ARROW ▸ ref (Word 64) ∥ sign BYTE_ARROW ▸ ref (Word 64)

abbrev pub written_action : (n : N) → Value Token Tree (written_rule n) → Tree n
written_action Module v = record { name = v.1.0; signatures = v.1.1.1.0; predicates = v.1.1.1.1.0; imports = v.1.1.1.1.1.0; functions = v.1.1.1.1.1.1 }
written_action Signatures (inl v) = v.0 ∷ v.1
written_action Signatures (inr v) = []
written_action Signature v = record {
  name = v.1.0;
  params = v.1.1.1.0;
  reserve = v.1.1.1.1.1.0;
  logical = v.1.1.1.1.1.1.0;
  pre = v.1.1.1.1.1.1.1.1.0;
  post = v.1.1.1.1.1.1.1.1.1.1.0;
}
written_action NameList (inl v) = v.0 ∷ v.1
written_action NameList (inr v) = []
written_action (Names w k) (inl v) = v.1.0 ∷ v.1.1
written_action (Names w k) (inr v) = []
-- left out it is 0
written_action Reserving (inl (v, inl t)) = number_of t.kind
written_action Reserving (inl (v, inr t)) = number_of t.kind
written_action Reserving (inr v) = 0
written_action For (inl v) = v.1
written_action For (inr v) = []
written_action (Bind m) v = record { name = v.0; sort = v.1.1 }
written_action Binds v = v.0 ∷ v.1
written_action (MoreBinds k) (inl v) = v.1.0 ∷ v.1.1
written_action (MoreBinds k) (inr v) = []
written_action BindList (inl v) = v
written_action BindList (inr v) = []
written_action Sort (inl v) = sort.Word
written_action Sort (inr v) = sort.Seq
written_action Predicates (inl v) = v.0 ∷ v.1
written_action Predicates (inr v) = []
written_action Predicate v = record { name = v.1.0; params = v.1.1.1.0; cases = v.1.1.1.1.1.1.0 ∷ v.1.1.1.1.1.1.1.0 }
written_action (Cases k) (inl v) = v.1.0 ∷ v.1.1
written_action (Cases k) (inr v) = []
written_action Imports (inl v) = v.0 ∷ v.1
written_action Imports (inr v) = []
written_action Import v = record { name = v.1.0; signature = v.1.1.1.0 }
written_action Functions (inl v) = v.0 ∷ v.1
written_action Functions (inr v) = []
-- `end` is the place of the closing brace
written_action Function v = record { name = v.1.1.0; exported = v.0; signature = v.1.1.1.1.0; locals = v.1.1.1.1.1.0; body = v.1.1.1.1.1.1.0; end = v.1.1.1.1.1.1.1 }
written_action Export (inl v) = true
written_action Export (inr v) = false
written_action Locals (inl v) = v.1.0 ∷ v.1.1
written_action Locals (inr v) = []
-- the statements and the place of the closing brace
written_action (Body n) v = (v.1.0, v.1.1.at)
written_action (Statements n) (inl v) = v.0 ∷ v.1
written_action (Statements n) (inr v) = []
written_action (Assertion m) (inl v) = record { at = v.0.at; binders = v.1.0; terms = v.1.1.1.0.1 ∷ v.1.1.1.1 }
written_action (Assertion m) (inr v) = record { at = v.0.0; binders = []; terms = v.0.1 ∷ v.1 }
written_action (Terms k) (inl v) = v.1.0.1 ∷ v.1.1
written_action (Terms k) (inr v) = []
written_action (Term m) (inl v) = (v.at, term.Emp)
written_action (Term m) (inr (inl v)) = v
written_action (Term m) (inr (inr (inl v))) = v
written_action (Term m) (inr (inr (inr (inl v)))) = (v.0.at, term.Atom (atom.Pred v.0 v.1.1.0))
written_action (Term m) (inr (inr (inr (inr (inl v))))) = cell_at v.0 (true, v.1.1)
written_action (Term m) (inr (inr (inr (inr (inr v))))) = cell_at v.0 (false, v.1.1)
written_action (PureTerm m) v = (v.0.at, term.Pure v.1.0)
written_action (Block m) v = (v.0.at, term.Atom (atom.Block v.1.1.0 v.1.1.1.1.0))
written_action (Pure n) (inl v) = compared v.0 v.1.0 v.1.1
written_action (Pure n) (inr (inl v)) = pure.Same v.0 v.1.1
written_action (Pure n) (inr (inr (inl v))) = membership v.0 v.1.0 v.1.1
written_action (Pure n) (inr (inr (inr v))) = v
written_action Rel (inl v) = rel.Equal
written_action Rel (inr (inl v)) = rel.Unequal
written_action Rel (inr (inr (inl v))) = rel.Less
written_action Rel (inr (inr (inr v))) = rel.AtMost
written_action Membership (inl v) = true
written_action Membership (inr v) = false
written_action (CodeFact n) v = pure.Code v.1.1.0 v.1.1.1.1.0
written_action (Word n) v = word_of v
written_action (Sum m n) v = summed v.0 v.1
written_action (Sums k n) (inl v) = (v.0, word_of v.1.0) ∷ v.1.1
written_action (Sums k n) (inr v) = []
written_action Sign (inl v) = true
written_action Sign (inr v) = false
written_action (Part m n) (inl v) = piece.Word v.0 (word.Number v.1)
written_action (Part m n) (inr (inl v)) = piece.Name v
written_action (Part m n) (inr (inr (inl v))) = piece.Word v.0.at (word.Label v.1)
written_action (Part m n) (inr (inr (inr (inl v)))) = piece.Word v.0.at (word.Var (var.Old (moved v.0.at v.1)))
written_action (Part m n) (inr (inr (inr (inr (inl v))))) = piece.Word v.at (word.Var (var.Answer v.at))
written_action (Part m n) (inr (inr (inr (inr (inr (inl v)))))) = piece.Word v.0.at (word.Times v.1.0.1 v.1.1.1.0)
written_action (Part m n) (inr (inr (inr (inr (inr (inr v)))))) = piece.Word v.0.at v.1.0
written_action (Seq n) (inl v) = sequence.Var (var.Named v)
written_action (Seq n) (inr v) = v.1
written_action (PlainSeq n) (inl v) = (v.at, sequence.Nil)
written_action (PlainSeq n) (inr (inl v)) = (v.0.at, sequence.Cons v.1.1.0 v.1.1.1.1.0)
written_action (PlainSeq n) (inr (inr v)) = (v.0.at, sequence.App v.1.1.0 v.1.1.1.1.0)
-- a name alone, be it a word or a sequence, is Bare
written_action (Arg n) (inl v) = word_argument v
written_action (Arg n) (inr (inl v)) = arg.Bare v
written_action (Arg n) (inr (inr v)) = arg.Seq v.0 v.1
written_action (Args n) (inl v) = v.0 ∷ v.1
written_action (Args n) (inr v) = []
written_action (MoreArgs n) (inl v) = v.1.0 ∷ v.1.1
written_action (MoreArgs n) (inr v) = []
written_action (HoleArg n) (inl v) = hole v.at
written_action (HoleArg n) (inr v) = v
written_action (HoleArgs n) (inl v) = v.0 ∷ v.1
written_action (HoleArgs n) (inr v) = []
written_action (MoreHoleArgs n) (inl v) = v.1.0 ∷ v.1.1
written_action (MoreHoleArgs n) (inr v) = []
written_action Operand (inl v) = (v.0, operand.Number v.1)
written_action Operand (inr (inl v)) = (v.at, operand.Local v)
written_action Operand (inr (inr v)) = (v.0.at, operand.Label v.1)
written_action Operands (inl v) = v.0.1 ∷ v.1
written_action Operands (inr v) = []
written_action MoreOperands (inl v) = v.1.0.1 ∷ v.1.1
written_action MoreOperands (inr v) = []
written_action Test v = record { at = v.0.0; rel = v.1.0; left = v.0.1; right = v.1.1.1 }
written_action Place v = record { base = v.0.1; disp = v.1 }
-- left out it is 0
written_action Offset (inl v) = v.1.1
written_action Offset (inr v) = 0
written_action (Statement n) (inl v) = v
written_action (Statement n) (inr (inl v)) = v
written_action (Statement n) (inr (inr (inl v))) = v
written_action (Statement n) (inr (inr (inr (inl v)))) = v
written_action (Statement n) (inr (inr (inr (inr (inl v))))) = v
written_action (Statement n) (inr (inr (inr (inr (inr (inl v)))))) = v
written_action (Statement n) (inr (inr (inr (inr (inr (inr (inl v))))))) = v
written_action (Statement n) (inr (inr (inr (inr (inr (inr (inr (inl v)))))))) = v
written_action (Statement n) (inr (inr (inr (inr (inr (inr (inr (inr v)))))))) = v
written_action Assignment v = record { at = v.0.at; kind = assigned v.0 v.1.1.0 }
written_action Store v = record { at = v.0.at; kind = stmt.Store v.1.0 v.1.1.1.1.0.1 }
written_action StoreByte v = record { at = v.0.at; kind = stmt.StoreByte v.1.1.0 v.1.1.1.1.1.0.1 }
written_action (If n) v = record { at = v.0.at; kind = stmt.If v.1.0 v.1.1.0.0 v.1.1.1.0 v.1.1.1.1 }
-- left out it is an empty body
written_action (Else n) (inl v) = v.1.0
written_action (Else n) (inr v) = []
written_action Join (inl v) = Some (record { place = v.0.at; assertion = v.1.0 })
written_action Join (inr v) = None
written_action (While n) v = record { at = v.0.at; kind = stmt.While v.1.0 v.1.1.0.at v.1.1.1.0 v.1.1.1.1.0 }
written_action Return v = record { at = v.0.at; kind = stmt.Return v.1.0.1 }
written_action HintStatement v = record { at = v.0.at; kind = stmt.Hint v.1.0 }
written_action (Find n) v = let o = v.1.1.1.1.1.1.0 in record { at = v.0.at; kind = stmt.Find v.1.0 v.1.1.1.0 v.1.1.1.1.1.0.1 o.list o.seq o.seen o.rest o.keep v.1.1.1.1.1.1.1.0 }
written_action (Walk n) v = let o = v.1.1.1.1.0 in record { at = v.0.at; kind = stmt.Walk v.1.0 v.1.1.1.0 o.list o.seq o.seen o.rest o.keep v.1.1.1.1.1.0 }
written_action Over v = record { list = v.1.0; seq = v.1.1.1.0; seen = v.1.1.1.1.1.0; rest = v.1.1.1.1.1.1.1.0; keep = v.1.1.1.1.1.1.1.1.1 }
written_action Source (inl v) = source.Operand v.1
written_action Source (inr (inl v)) = source.Compute v.1.0 v.0.1 v.1.1.1
written_action Source (inr (inr (inl v))) = source.Load v.1.0
written_action Source (inr (inr (inr (inl v)))) = source.LoadByte v.1.1.0
written_action Source (inr (inr (inr (inr v)))) = source.Call v
written_action Op (inl v) = op.Add
written_action Op (inr (inl v)) = op.Sub
written_action Op (inr (inr (inl v))) = op.Mul
written_action Op (inr (inr (inr (inl v)))) = op.And
written_action Op (inr (inr (inr (inr (inl v))))) = op.Or
written_action Op (inr (inr (inr (inr (inr v))))) = op.Xor
written_action Call v = record { place = v.0.at; target = v.1.0.0; via = v.1.0.1; args = v.1.1.1.0; hints = v.1.1.1.1.1.0; after = v.1.1.1.1.1.1.1 }
written_action Callee (inl v) = (operand.Label v.1, None)
written_action Callee (inr v) = (operand.Local v.0, Some v.1.1)
written_action Using (inl v) = v.1.0 ∷ v.1.1
written_action Using (inr v) = []
written_action Hints (inl v) = v.1.0 ∷ v.1.1
written_action Hints (inr v) = []
written_action Hint (inl v) = v
written_action Hint (inr (inl v)) = v
written_action Hint (inr (inr (inl v))) = v
written_action Hint (inr (inr (inr v))) = v
written_action PredicateHint (inl v) = hint.Unfold v.1.0 v.1.1
written_action PredicateHint (inr v) = hint.Fold v.1.0 v.1.1.1.0 v.1.1.1.1.1.1.1
written_action At (inl v) = Some v.1
written_action At (inr v) = None
written_action BlockHint (inl v) = hint.Append v.1
written_action BlockHint (inr (inl v)) = hint.Divide v.1.0 v.1.1.1
written_action BlockHint (inr (inr v)) = hint.Merge v.1.0 v.1.1.1
written_action CellHint (inl v) = hint.Bytes v.1
written_action CellHint (inr (inl v)) = hint.Word v.1
written_action CellHint (inr (inr (inl v))) = hint.Cell v.1
written_action CellHint (inr (inr (inr (inl v)))) = hint.Uncell v.1
written_action CellHint (inr (inr (inr (inr v)))) = hint.Drop v.1
written_action FactHint (inl v) = hint.Claim v.1
written_action FactHint (inr (inl v)) = hint.When v.1
written_action FactHint (inr (inr v)) = hint.Give v.1.0 v.1.1.1
written_action (Nam m) v = name_of v.kind
written_action (Num m) (inl v) = (v.at, number_of v.kind)
written_action (Num m) (inr v) = (v.at, number_of v.kind)
written_action (NameTerm m) v = v
written_action (StartTerm m) v = v
written_action (Start m n) v = v
written_action (Other m n) v = v
written_action (Inner n) (inl v) = word.Times v.0.1 v.1.1
written_action (Inner n) (inr v) = v
written_action (Tail n) (inl v) = tail.Compared v.0 v.1
written_action (Tail n) (inr v) = tail.Belongs v.0 v.1
written_action Arrow (inl v) = (true, v.1)
written_action Arrow (inr v) = (false, v.1)

abbrev pub written : Grammar
written = record { Nonterminal = N; Token = Token; Limit = Which; class = class; IsLexeme = IsLexeme; Tree = Tree; rule = written_rule; action = written_action }
