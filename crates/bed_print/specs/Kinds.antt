-- The tokens of trees, in the order in which they are printed.
use Rattle.std.specs.Prelude.{ℕ, ◌-◌, nat_eq, Bool, true, false, if◌then◌else◌, List, [], ◌∷◌, ◌++◌, map, Option, Some, None}
use Rattle.std.specs.Str.{bytes_eq}
use Rattle.bed_lang.specs.declared.word.Name.{Name}
use Rattle.bed_lang.specs.declared.word.Sort.{Sort}
use Rattle.bed_lang.specs.declared.word.Sort.TheVariants as sort
use Rattle.bed_lang.specs.declared.word.Var.{Var}
use Rattle.bed_lang.specs.declared.word.Var.TheVariants as var
use Rattle.bed_lang.specs.declared.word.Word.{Word, out-Word, fold-Word}
use Rattle.bed_lang.specs.declared.word.Word.TheOpen.{Word-F}
use Rattle.bed_lang.specs.declared.word.Seq.{Seq, fold-Seq}
use Rattle.bed_lang.specs.declared.word.Seq.TheOpen.{Seq-F}
use Rattle.bed_lang.specs.declared.logic.Arg.{Arg}
use Rattle.bed_lang.specs.declared.logic.Arg.TheVariants as arg
use Rattle.bed_lang.specs.declared.logic.Pure.{Pure}
use Rattle.bed_lang.specs.declared.logic.Pure.TheVariants as pure
use Rattle.bed_lang.specs.declared.logic.Atom.{Atom}
use Rattle.bed_lang.specs.declared.logic.Atom.TheVariants as atom
use Rattle.bed_lang.specs.declared.logic.Term.{Term}
use Rattle.bed_lang.specs.declared.logic.Term.TheVariants as term
use Rattle.bed_lang.specs.declared.logic.Bind.{Bind}
use Rattle.bed_lang.specs.declared.logic.Assertion.{Assertion}
use Rattle.bed_lang.specs.declared.module.Operand.{Operand}
use Rattle.bed_lang.specs.declared.module.Operand.TheVariants as operand
use Rattle.bed_lang.specs.declared.module.Op.{Op}
use Rattle.bed_lang.specs.declared.module.Op.TheVariants as op
use Rattle.bed_lang.specs.declared.module.Rel.{Rel}
use Rattle.bed_lang.specs.declared.module.Rel.TheVariants as rel
use Rattle.bed_lang.specs.declared.module.Signature.{Signature}
use Rattle.bed_lang.specs.declared.module.Predicate.{Predicate}
use Rattle.bed_lang.specs.declared.module.Import.{Import}
use Rattle.bed_lang.specs.declared.module.Function.{Function}
use Rattle.bed_lang.specs.declared.module.Module.{Module}
use Rattle.bed_lang.specs.declared.module.Place.{Place}
use Rattle.bed_lang.specs.declared.module.Test.{Test}
use Rattle.bed_lang.specs.declared.module.Hint.{Hint}
use Rattle.bed_lang.specs.declared.module.Hint.TheVariants as hint
use Rattle.bed_lang.specs.declared.module.Join.{Join}
use Rattle.bed_lang.specs.declared.statement.Stmt.{Stmt, Stmt-F, fold-Stmt}
use Rattle.bed_lang.specs.declared.statement.StmtKind.{StmtKind, StmtKind-F, fold-StmtKind}
use Rattle.bed_lex.specs.declared.token.Kind.{Kind}
use Rattle.bed_lex.specs.declared.token.Kind.TheVariants as kind
use Rattle.bed_read.specs.Classes.{MODULE, SIGNATURE, RESERVING, FOR, PRE, POST, PREDICATE, IMPORT, EXPORT, FUNCTION, LOCALS, EXISTS, EMP, BLOCK, CODE, IN, NOTIN, NIL, CONS, APP, OLD, RESULT, WORD, SEQ, IF, ELSE, JOIN, WHILE, INVARIANT, CALL, VIA, USING, AFTER, RETURN, BYTE, AND, OR, XOR, FIND, WALK, OF, AS, KEEP, HINT, UNFOLD, AT, FOLD, CASE, APPEND, DIVIDE, MERGE, BYTES, CELL, UNCELL, DROP, CLAIM, WHEN, GIVE, SEMICOLON, COMMA, COLON, LEFT_PAREN, RIGHT_PAREN, LEFT_BRACE, RIGHT_BRACE, LEFT_BRACKET, RIGHT_BRACKET, DOT, BAR, ARROW, BYTE_ARROW, ASSIGN, LESS, AT_MOST, EQUAL, SAME, UNEQUAL, PLUS, MINUS, STAR, AMPERSAND, HOLE}

-- the fixed word of a class
abbrev pub fixed : ℕ → Kind
fixed c = kind.Word (c - 3)

-- items one after the other
abbrev pub all_of : {T : Type 0} → (T → List Kind) → List T → List Kind
all_of f [] = []
all_of f (x ∷ xs) = f x ++ all_of f xs

-- each item after a fixed word
abbrev pub each_after : ℕ → {T : Type 0} → (T → List Kind) → List T → List Kind
each_after c f [] = []
each_after c f (x ∷ xs) = fixed c ∷ (f x ++ each_after c f xs)

-- items with a fixed word between each two
abbrev pub parted : ℕ → {T : Type 0} → (T → List Kind) → List T → List Kind
parted c f [] = []
parted c f (x ∷ xs) = f x ++ each_after c f xs

abbrev pub name_kinds : Name → List Kind
name_kinds x = kind.Name x ∷ []

abbrev pub var_kinds : Var → List Kind
var_kinds (var.Named x) = kind.Name x ∷ []
var_kinds (var.Old x) = fixed OLD ∷ kind.Name x ∷ []
var_kinds (var.Answer at) = fixed RESULT ∷ []
var_kinds (var.Fresh n) = kind.Fresh n ∷ []
var_kinds var.Hole = fixed HOLE ∷ []

-- a sum that may have one part alone is put in brackets
abbrev pub opening : ℕ → List Kind
opening k = if nat_eq k 0 then fixed LEFT_PAREN ∷ [] else []

abbrev pub closing : ℕ → List Kind
closing k = if nat_eq k 0 then fixed RIGHT_PAREN ∷ [] else []

-- how many further parts the left part of a sum may have, where the sum may have k: in brackets, which have 256 parts, 254
abbrev pub room_left : ℕ → ℕ
room_left k = if nat_eq k 0 then 254 else k - 1

-- a sum or a difference of at most k + 1 parts. So its right part has brackets where it is a sum itself, and its left part
-- where it would be one part too many.
abbrev pub sum_kinds : (ℕ → List Kind) → ℕ → (ℕ → List Kind) → ℕ → List Kind
sum_kinds a c b k = opening k ++ (a (room_left k) ++ fixed c ∷ (b 0 ++ closing k))

abbrev pub word_step : Word-F (ℕ → List Kind) → ℕ → List Kind
word_step (Word-F.Number n) k = kind.Number n ∷ []
word_step (Word-F.Var v) k = var_kinds v
word_step (Word-F.Label x) k = fixed AMPERSAND ∷ kind.Name x ∷ []
word_step (Word-F.Add a b) k = sum_kinds a PLUS b k
word_step (Word-F.Sub a b) k = sum_kinds a MINUS b k
word_step (Word-F.Times n a) k = fixed LEFT_PAREN ∷ kind.Number n ∷ fixed STAR ∷ (a 255 ++ fixed RIGHT_PAREN ∷ [])

-- a word, as a sum of at most k + 1 parts
abbrev pub sum_of : Word → ℕ → List Kind
sum_of = fold-Word (ℕ → List Kind) word_step

abbrev pub word_kinds : Word → List Kind
word_kinds w = sum_of w 255

abbrev pub seq_step : Seq-F (List Kind) → List Kind
seq_step (Seq-F.Var v) = var_kinds v
seq_step Seq-F.Nil = fixed NIL ∷ []
seq_step (Seq-F.Cons a s) = fixed CONS ∷ fixed LEFT_PAREN ∷ (word_kinds a ++ fixed COMMA ∷ (s ++ fixed RIGHT_PAREN ∷ []))
seq_step (Seq-F.App s t) = fixed APP ∷ fixed LEFT_PAREN ∷ (s ++ fixed COMMA ∷ (t ++ fixed RIGHT_PAREN ∷ []))

abbrev pub seq_kinds : Seq → List Kind
seq_kinds = fold-Seq (List Kind) seq_step

abbrev pub is_name_layer : Word-F Word → Bool
is_name_layer (Word-F.Var (var.Named x)) = true
is_name_layer _ = false

-- a word that is a name alone
abbrev pub is_name_alone : Word → Bool
is_name_alone w = is_name_layer (out-Word w)

-- a name alone may be of either sort, so a word that is one has brackets; the name `_` is the hole
abbrev pub arg_kinds : Arg → List Kind
arg_kinds (arg.Word at w) = if is_name_alone w then fixed LEFT_PAREN ∷ (word_kinds w ++ fixed RIGHT_PAREN ∷ []) else word_kinds w
arg_kinds (arg.Seq at s) = seq_kinds s
arg_kinds (arg.Bare x) = if bytes_eq x.bytes (95 ∷ []) then fixed HOLE ∷ [] else kind.Name x ∷ []

abbrev pub pure_kinds : Pure → List Kind
pure_kinds (pure.Equal a b) = word_kinds a ++ fixed EQUAL ∷ word_kinds b
pure_kinds (pure.Unequal a b) = word_kinds a ++ fixed UNEQUAL ∷ word_kinds b
pure_kinds (pure.Less a b) = word_kinds a ++ fixed LESS ∷ word_kinds b
pure_kinds (pure.AtMost a b) = word_kinds a ++ fixed AT_MOST ∷ word_kinds b
pure_kinds (pure.Same s t) = seq_kinds s ++ fixed SAME ∷ seq_kinds t
pure_kinds (pure.Member a s) = word_kinds a ++ fixed IN ∷ seq_kinds s
pure_kinds (pure.NonMember a s) = word_kinds a ++ fixed NOTIN ∷ seq_kinds s
pure_kinds (pure.Code a x) = fixed CODE ∷ fixed LEFT_PAREN ∷ (word_kinds a ++ fixed COMMA ∷ kind.Name x ∷ fixed RIGHT_PAREN ∷ [])

abbrev pub atom_kinds : Atom → List Kind
atom_kinds (atom.Cell a b) = word_kinds a ++ fixed ARROW ∷ word_kinds b
atom_kinds (atom.Byte a b) = word_kinds a ++ fixed BYTE_ARROW ∷ word_kinds b
atom_kinds (atom.Block a b) = fixed BLOCK ∷ fixed LEFT_PAREN ∷ (word_kinds a ++ fixed COMMA ∷ (word_kinds b ++ fixed RIGHT_PAREN ∷ []))
atom_kinds (atom.Pred x xs) = kind.Name x ∷ fixed LEFT_PAREN ∷ (parted COMMA arg_kinds xs ++ fixed RIGHT_PAREN ∷ [])

abbrev pub term_kinds : Term → List Kind
term_kinds term.Emp = fixed EMP ∷ []
term_kinds (term.Pure p) = fixed LEFT_BRACKET ∷ (pure_kinds p ++ fixed RIGHT_BRACKET ∷ [])
term_kinds (term.Atom a) = atom_kinds a

abbrev pub sort_kind : Sort → Kind
sort_kind sort.Word = fixed WORD
sort_kind sort.Seq = fixed SEQ

abbrev pub bind_kinds : Bind → List Kind
bind_kinds b = kind.Name b.name ∷ fixed COLON ∷ sort_kind b.sort ∷ []

abbrev pub binds_kinds : List Bind → List Kind
binds_kinds bs = parted COMMA bind_kinds bs

abbrev pub exists_kinds : List Bind → List Kind
exists_kinds [] = []
exists_kinds (b ∷ bs) = fixed EXISTS ∷ (binds_kinds (b ∷ bs) ++ fixed DOT ∷ [])

abbrev pub assertion_kinds : Assertion → List Kind
assertion_kinds a = exists_kinds a.binders ++ parted STAR term_kinds a.terms

abbrev pub for_kinds : List Bind → List Kind
for_kinds [] = []
for_kinds (b ∷ bs) = fixed FOR ∷ binds_kinds (b ∷ bs)

abbrev pub params_kinds : Name → List Name → List Kind
params_kinds name params =
    fixed SIGNATURE ∷ kind.Name name ∷ fixed LEFT_PAREN ∷ (parted COMMA name_kinds params ++ fixed RIGHT_PAREN ∷ [])

-- `reserving` is always shown
abbrev pub reserve_kinds : ℕ → List Bind → List Kind
reserve_kinds reserve logical = fixed RESERVING ∷ kind.Number reserve ∷ for_kinds logical

abbrev pub signature_kinds : Signature → List Kind
signature_kinds s =
    params_kinds s.name s.params ++ (reserve_kinds s.reserve s.logical
    ++ fixed PRE ∷ (assertion_kinds s.pre ++ fixed POST ∷ (assertion_kinds s.post ++ fixed SEMICOLON ∷ [])))

abbrev pub predicate_kinds : Predicate → List Kind
predicate_kinds p =
    fixed PREDICATE ∷ kind.Name p.name ∷ fixed LEFT_PAREN ∷ (binds_kinds p.params
    ++ fixed RIGHT_PAREN ∷ fixed EQUAL ∷ (parted BAR assertion_kinds p.cases ++ fixed SEMICOLON ∷ []))

abbrev pub import_kinds : Import → List Kind
import_kinds i = fixed IMPORT ∷ kind.Name i.name ∷ fixed COLON ∷ kind.Name i.signature ∷ fixed SEMICOLON ∷ []

abbrev pub operand_kinds : Operand → List Kind
operand_kinds (operand.Number n) = kind.Number n ∷ []
operand_kinds (operand.Local x) = kind.Name x ∷ []
operand_kinds (operand.Label x) = fixed AMPERSAND ∷ kind.Name x ∷ []

abbrev pub op_kind : Op → Kind
op_kind op.Add = fixed PLUS
op_kind op.Sub = fixed MINUS
op_kind op.Mul = fixed STAR
op_kind op.And = fixed AND
op_kind op.Or = fixed OR
op_kind op.Xor = fixed XOR

abbrev pub rel_kind : Rel → Kind
rel_kind rel.Equal = fixed EQUAL
rel_kind rel.Unequal = fixed UNEQUAL
rel_kind rel.Less = fixed LESS
rel_kind rel.AtMost = fixed AT_MOST

-- a displacement of 0 is left out
abbrev pub offset_kinds : ℕ → List Kind
offset_kinds n = if nat_eq n 0 then [] else fixed PLUS ∷ kind.Number n ∷ []

abbrev pub place_kinds : Place → List Kind
place_kinds p = operand_kinds p.base ++ offset_kinds p.disp

abbrev pub test_kinds : Test → List Kind
test_kinds t = operand_kinds t.left ++ rel_kind t.rel ∷ operand_kinds t.right

abbrev pub at_kinds : Option Word → List Kind
at_kinds None = []
at_kinds (Some w) = fixed AT ∷ word_kinds w

abbrev pub hint_kinds : Hint → List Kind
hint_kinds (hint.Unfold x w) = fixed UNFOLD ∷ kind.Name x ∷ at_kinds w
hint_kinds (hint.Fold x xs c) = fixed FOLD ∷ kind.Name x ∷ fixed LEFT_PAREN ∷ (parted COMMA arg_kinds xs ++ fixed RIGHT_PAREN ∷ fixed CASE ∷ kind.Number c ∷ [])
hint_kinds (hint.Append a) = fixed APPEND ∷ word_kinds a
hint_kinds (hint.Divide a b) = fixed DIVIDE ∷ (word_kinds a ++ fixed COMMA ∷ word_kinds b)
hint_kinds (hint.Merge a b) = fixed MERGE ∷ (word_kinds a ++ fixed COMMA ∷ word_kinds b)
hint_kinds (hint.Bytes a) = fixed BYTES ∷ word_kinds a
hint_kinds (hint.Word a) = fixed WORD ∷ word_kinds a
hint_kinds (hint.Cell a) = fixed CELL ∷ word_kinds a
hint_kinds (hint.Uncell a) = fixed UNCELL ∷ word_kinds a
hint_kinds (hint.Drop a) = fixed DROP ∷ word_kinds a
hint_kinds (hint.Claim p) = fixed CLAIM ∷ pure_kinds p
hint_kinds (hint.When p) = fixed WHEN ∷ pure_kinds p
hint_kinds (hint.Give x a) = fixed GIVE ∷ kind.Name x ∷ fixed EQUAL ∷ arg_kinds a

abbrev pub using_kinds : List Hint → List Kind
using_kinds [] = []
using_kinds (h ∷ hs) = fixed USING ∷ parted COMMA hint_kinds (h ∷ hs)

abbrev pub via_kinds : Option Name → List Kind
via_kinds None = []
via_kinds (Some x) = fixed VIA ∷ kind.Name x ∷ []

abbrev pub join_kinds : Option Join → List Kind
join_kinds None = []
join_kinds (Some j) = fixed JOIN ∷ (assertion_kinds j.assertion ++ fixed SEMICOLON ∷ [])

-- the tokens of several trees, one after the other
abbrev pub joined : List (List Kind) → List Kind
joined = all_of (λ ks. ks)

-- a body, by the tokens of its statements
abbrev pub body_of : List (List Kind) → List Kind
body_of body = fixed LEFT_BRACE ∷ (joined body ++ fixed RIGHT_BRACE ∷ [])

-- an empty `else` is left out
abbrev pub else_of : List (List Kind) → List Kind
else_of [] = []
else_of (s ∷ ss) = fixed ELSE ∷ body_of (s ∷ ss)

-- a fixed word and two names
abbrev pub pair_kinds : ℕ → Name → Name → List Kind
pair_kinds c x y = fixed c ∷ kind.Name x ∷ fixed COMMA ∷ kind.Name y ∷ []

-- a list and its elements
abbrev pub list_kinds : Name → Seq → List Kind
list_kinds list s = fixed IN ∷ kind.Name list ∷ fixed OF ∷ seq_kinds s

-- what `find` and `walk` go over, and what they keep
abbrev pub over_kinds : Name → Seq → Name → Name → Assertion → List Kind
over_kinds list s seen rest keep = list_kinds list s ++ (pair_kinds AS seen rest ++ fixed KEEP ∷ assertion_kinds keep)

abbrev pub target_kinds : Operand → Option Name → List Operand → List Kind
target_kinds target via xs =
    fixed CALL ∷ ((operand_kinds target ++ via_kinds via) ++ fixed LEFT_PAREN ∷ (parted COMMA operand_kinds xs ++ fixed RIGHT_PAREN ∷ []))

abbrev pub call_kinds : Operand → Option Name → List Operand → List Hint → Assertion → List Kind
call_kinds target via xs hints after = target_kinds target via xs ++ (using_kinds hints ++ fixed AFTER ∷ assertion_kinds after)

abbrev pub assign_kinds : Name → Operand → List Kind
assign_kinds x a = kind.Name x ∷ fixed ASSIGN ∷ (operand_kinds a ++ fixed SEMICOLON ∷ [])

abbrev pub compute_kinds : Name → Op → Operand → Operand → List Kind
compute_kinds x o a b = kind.Name x ∷ fixed ASSIGN ∷ ((operand_kinds a ++ op_kind o ∷ operand_kinds b) ++ fixed SEMICOLON ∷ [])

abbrev pub load_kinds : Name → Place → List Kind
load_kinds x p = kind.Name x ∷ fixed ASSIGN ∷ fixed LEFT_BRACKET ∷ (place_kinds p ++ fixed RIGHT_BRACKET ∷ fixed SEMICOLON ∷ [])

abbrev pub load_byte_kinds : Name → Place → List Kind
load_byte_kinds x p =
    kind.Name x ∷ fixed ASSIGN ∷ fixed BYTE ∷ fixed LEFT_BRACKET ∷ (place_kinds p ++ fixed RIGHT_BRACKET ∷ fixed SEMICOLON ∷ [])

abbrev pub store_kinds : Place → Operand → List Kind
store_kinds p a = fixed LEFT_BRACKET ∷ (place_kinds p ++ fixed RIGHT_BRACKET ∷ fixed ASSIGN ∷ (operand_kinds a ++ fixed SEMICOLON ∷ []))

abbrev pub store_byte_kinds : Place → Operand → List Kind
store_byte_kinds p a = fixed BYTE ∷ store_kinds p a

-- a loop over a list, without its body
abbrev pub find_kinds : Name → Name → Operand → Name → Seq → Name → Name → Assertion → List Kind
find_kinds n v k p s u t keep = pair_kinds FIND n v ++ fixed FOR ∷ (operand_kinds k ++ over_kinds p s u t keep)

abbrev pub walk_kinds : Name → Name → Name → Seq → Name → Name → Assertion → List Kind
walk_kinds n v p s u t keep = pair_kinds WALK n v ++ over_kinds p s u t keep

abbrev pub kind_step : StmtKind-F (List Kind) (List Kind) → List Kind
kind_step (StmtKind-F.Assign x a) = assign_kinds x a
kind_step (StmtKind-F.Compute x o a b) = compute_kinds x o a b
kind_step (StmtKind-F.Load x p) = load_kinds x p
kind_step (StmtKind-F.LoadByte x p) = load_byte_kinds x p
kind_step (StmtKind-F.Store p a) = store_kinds p a
kind_step (StmtKind-F.StoreByte p a) = store_byte_kinds p a
kind_step (StmtKind-F.Call place x target via xs hints after) =
    kind.Name x ∷ fixed ASSIGN ∷ (call_kinds target via xs hints after ++ fixed SEMICOLON ∷ [])
kind_step (StmtKind-F.If t ys ns j) = fixed IF ∷ (test_kinds t ++ (body_of ys ++ (else_of ns ++ join_kinds j)))
kind_step (StmtKind-F.While t place inv body) =
    fixed WHILE ∷ (test_kinds t ++ fixed INVARIANT ∷ (assertion_kinds inv ++ body_of body))
kind_step (StmtKind-F.Return a) = fixed RETURN ∷ (operand_kinds a ++ fixed SEMICOLON ∷ [])
kind_step (StmtKind-F.Hint h) = fixed HINT ∷ (hint_kinds h ++ fixed SEMICOLON ∷ [])
kind_step (StmtKind-F.Find n v k p s u t keep body) = find_kinds n v k p s u t keep ++ body_of body
kind_step (StmtKind-F.Walk n v p s u t keep body) = walk_kinds n v p s u t keep ++ body_of body

abbrev pub stmt_step : Stmt-F (List Kind) (List Kind) → List Kind
stmt_step s = s.kind

abbrev pub stmt_kinds : Stmt → List Kind
stmt_kinds = fold-Stmt (List Kind) (List Kind) kind_step stmt_step

abbrev pub stmt_kind_kinds : StmtKind → List Kind
stmt_kind_kinds = fold-StmtKind (List Kind) (List Kind) kind_step stmt_step

abbrev pub body_kinds : List Stmt → List Kind
body_kinds body = body_of (map stmt_kinds body)

abbrev pub else_kinds : List Stmt → List Kind
else_kinds body = else_of (map stmt_kinds body)

abbrev pub export_kinds : Bool → List Kind
export_kinds true = fixed EXPORT ∷ []
export_kinds false = []

abbrev pub locals_kinds : List Name → List Kind
locals_kinds [] = []
locals_kinds (x ∷ xs) = fixed LOCALS ∷ parted COMMA name_kinds (x ∷ xs)

-- a function without its locals and body
abbrev pub head_kinds : Function → List Kind
head_kinds f = export_kinds f.exported ++ fixed FUNCTION ∷ kind.Name f.name ∷ fixed COLON ∷ kind.Name f.signature ∷ []

abbrev pub function_kinds : Function → List Kind
function_kinds f = head_kinds f ++ (locals_kinds f.locals ++ body_kinds f.body)

abbrev pub module_kinds : Module → List Kind
module_kinds m =
    fixed MODULE ∷ kind.Name m.name ∷ fixed SEMICOLON ∷ (all_of signature_kinds m.signatures ++ (all_of predicate_kinds m.predicates
    ++ (all_of import_kinds m.imports ++ all_of function_kinds m.functions)))
