-- Trees with every place set to 0: two trees are the same, wherever they and their parts stand, where these are equal.
use Rattle.std.specs.Prelude.{map, Option, Some, None}
use Rattle.bed_lang.specs.declared.word.Name.{Name}
use Rattle.bed_lang.specs.declared.word.Var.{Var}
use Rattle.bed_lang.specs.declared.word.Var.TheVariants as var
use Rattle.bed_lang.specs.declared.word.Word.{Word, Number, Var as WordVar, Label, Add, Sub, Times, fold-Word}
use Rattle.bed_lang.specs.declared.word.Word.TheOpen.{Word-F}
use Rattle.bed_lang.specs.declared.word.Seq.{Seq, Var as SeqVar, Nil, Cons, App, fold-Seq}
use Rattle.bed_lang.specs.declared.word.Seq.TheOpen.{Seq-F}
use Rattle.bed_lang.specs.declared.logic.Arg.{Arg}
use Rattle.bed_lang.specs.declared.logic.Arg.TheVariants as arg
use Rattle.bed_lang.specs.declared.logic.Pure.{Pure}
use Rattle.bed_lang.specs.declared.logic.Pure.TheVariants as pure
use Rattle.bed_lang.specs.declared.logic.Atom.{Atom}
use Rattle.bed_lang.specs.declared.logic.Atom.TheVariants as atom
use Rattle.bed_lang.specs.declared.logic.Term.{Term}
use Rattle.bed_lang.specs.declared.logic.Term.TheVariants as term
use Rattle.bed_lang.specs.declared.logic.Bind.{Bind}
use Rattle.bed_lang.specs.declared.logic.Assertion.{Assertion}
use Rattle.bed_lang.specs.declared.module.Operand.{Operand}
use Rattle.bed_lang.specs.declared.module.Operand.TheVariants as operand
use Rattle.bed_lang.specs.declared.module.Signature.{Signature}
use Rattle.bed_lang.specs.declared.module.Predicate.{Predicate}
use Rattle.bed_lang.specs.declared.module.Import.{Import}
use Rattle.bed_lang.specs.declared.module.Function.{Function}
use Rattle.bed_lang.specs.declared.module.Module.{Module}
use Rattle.bed_lang.specs.declared.module.Place.{Place}
use Rattle.bed_lang.specs.declared.module.Test.{Test}
use Rattle.bed_lang.specs.declared.module.Hint.{Hint}
use Rattle.bed_lang.specs.declared.module.Hint.TheVariants as hint
use Rattle.bed_lang.specs.declared.module.Join.{Join}
use Rattle.bed_lang.specs.declared.statement.Stmt.{Stmt, Stmt-F, fold-Stmt}
use Rattle.bed_lang.specs.declared.statement.StmtKind.{StmtKind, StmtKind-F, fold-StmtKind}
use Rattle.bed_lang.specs.declared.statement.StmtKind as stmt
use Rattle.bed_lex.specs.declared.token.Kind.{Kind}
use Rattle.bed_lex.specs.declared.token.Kind.TheVariants as kind

abbrev pub bare_option : {T : Type 0} → (T → T) → Option T → Option T
bare_option f None = None
bare_option f (Some x) = Some (f x)

abbrev pub bare_name : Name → Name
bare_name x = record { bytes = x.bytes; at = 0 }

abbrev pub bare_kind : Kind → Kind
bare_kind (kind.Name x) = kind.Name (bare_name x)
bare_kind (kind.Number n) = kind.Number n
bare_kind (kind.Word w) = kind.Word w
bare_kind (kind.Fresh n) = kind.Fresh n

abbrev pub bare_var : Var → Var
bare_var (var.Named x) = var.Named (bare_name x)
bare_var (var.Old x) = var.Old (bare_name x)
bare_var (var.Answer at) = var.Answer 0
bare_var (var.Fresh n) = var.Fresh n
bare_var var.Hole = var.Hole

abbrev pub bare_word_step : Word-F Word → Word
bare_word_step (Word-F.Number n) = Number n
bare_word_step (Word-F.Var v) = WordVar (bare_var v)
bare_word_step (Word-F.Label x) = Label (bare_name x)
bare_word_step (Word-F.Add a b) = Add a b
bare_word_step (Word-F.Sub a b) = Sub a b
bare_word_step (Word-F.Times n a) = Times n a

abbrev pub bare_word : Word → Word
bare_word = fold-Word Word bare_word_step

abbrev pub bare_seq_step : Seq-F Seq → Seq
bare_seq_step (Seq-F.Var v) = SeqVar (bare_var v)
bare_seq_step Seq-F.Nil = Nil
bare_seq_step (Seq-F.Cons a s) = Cons (bare_word a) s
bare_seq_step (Seq-F.App s t) = App s t

abbrev pub bare_seq : Seq → Seq
bare_seq = fold-Seq Seq bare_seq_step

abbrev pub bare_arg : Arg → Arg
bare_arg (arg.Word at w) = arg.Word 0 (bare_word w)
bare_arg (arg.Seq at s) = arg.Seq 0 (bare_seq s)
bare_arg (arg.Bare x) = arg.Bare (bare_name x)

abbrev pub bare_pure : Pure → Pure
bare_pure (pure.Equal a b) = pure.Equal (bare_word a) (bare_word b)
bare_pure (pure.Unequal a b) = pure.Unequal (bare_word a) (bare_word b)
bare_pure (pure.Less a b) = pure.Less (bare_word a) (bare_word b)
bare_pure (pure.AtMost a b) = pure.AtMost (bare_word a) (bare_word b)
bare_pure (pure.Same s t) = pure.Same (bare_seq s) (bare_seq t)
bare_pure (pure.Member a s) = pure.Member (bare_word a) (bare_seq s)
bare_pure (pure.NonMember a s) = pure.NonMember (bare_word a) (bare_seq s)
bare_pure (pure.Code a x) = pure.Code (bare_word a) (bare_name x)

abbrev pub bare_atom : Atom → Atom
bare_atom (atom.Cell a b) = atom.Cell (bare_word a) (bare_word b)
bare_atom (atom.Byte a b) = atom.Byte (bare_word a) (bare_word b)
bare_atom (atom.Block a b) = atom.Block (bare_word a) (bare_word b)
bare_atom (atom.Pred x xs) = atom.Pred (bare_name x) (map bare_arg xs)

abbrev pub bare_term : Term → Term
bare_term term.Emp = term.Emp
bare_term (term.Pure p) = term.Pure (bare_pure p)
bare_term (term.Atom a) = term.Atom (bare_atom a)

abbrev pub bare_bind : Bind → Bind
bare_bind b = record { name = bare_name b.name; sort = b.sort }

abbrev pub bare_assertion : Assertion → Assertion
bare_assertion a = record { at = 0; binders = map bare_bind a.binders; terms = map bare_term a.terms }

abbrev pub bare_signature : Signature → Signature
bare_signature s = record {
  name = bare_name s.name;
  params = map bare_name s.params;
  reserve = s.reserve;
  logical = map bare_bind s.logical;
  pre = bare_assertion s.pre;
  post = bare_assertion s.post;
}

abbrev pub bare_predicate : Predicate → Predicate
bare_predicate p = record { name = bare_name p.name; params = map bare_bind p.params; cases = map bare_assertion p.cases }

abbrev pub bare_import : Import → Import
bare_import i = record { name = bare_name i.name; signature = bare_name i.signature }

abbrev pub bare_operand : Operand → Operand
bare_operand (operand.Number n) = operand.Number n
bare_operand (operand.Local x) = operand.Local (bare_name x)
bare_operand (operand.Label x) = operand.Label (bare_name x)

abbrev pub bare_place : Place → Place
bare_place p = record { base = bare_operand p.base; disp = p.disp }

abbrev pub bare_test : Test → Test
bare_test t = record { at = 0; rel = t.rel; left = bare_operand t.left; right = bare_operand t.right }

abbrev pub bare_hint : Hint → Hint
bare_hint (hint.Unfold x w) = hint.Unfold (bare_name x) (bare_option bare_word w)
bare_hint (hint.Fold x xs c) = hint.Fold (bare_name x) (map bare_arg xs) c
bare_hint (hint.Append a) = hint.Append (bare_word a)
bare_hint (hint.Divide a b) = hint.Divide (bare_word a) (bare_word b)
bare_hint (hint.Merge a b) = hint.Merge (bare_word a) (bare_word b)
bare_hint (hint.Bytes a) = hint.Bytes (bare_word a)
bare_hint (hint.Word a) = hint.Word (bare_word a)
bare_hint (hint.Cell a) = hint.Cell (bare_word a)
bare_hint (hint.Uncell a) = hint.Uncell (bare_word a)
bare_hint (hint.Drop a) = hint.Drop (bare_word a)
bare_hint (hint.Claim p) = hint.Claim (bare_pure p)
bare_hint (hint.When p) = hint.When (bare_pure p)
bare_hint (hint.Give x a) = hint.Give (bare_name x) (bare_arg a)

abbrev pub bare_join : Join → Join
bare_join j = record { place = 0; assertion = bare_assertion j.assertion }

abbrev pub bare_kind_step : StmtKind-F StmtKind Stmt → StmtKind
bare_kind_step (StmtKind-F.Assign x a) = stmt.Assign (bare_name x) (bare_operand a)
bare_kind_step (StmtKind-F.Compute x o a b) = stmt.Compute (bare_name x) o (bare_operand a) (bare_operand b)
bare_kind_step (StmtKind-F.Load x p) = stmt.Load (bare_name x) (bare_place p)
bare_kind_step (StmtKind-F.LoadByte x p) = stmt.LoadByte (bare_name x) (bare_place p)
bare_kind_step (StmtKind-F.Store p a) = stmt.Store (bare_place p) (bare_operand a)
bare_kind_step (StmtKind-F.StoreByte p a) = stmt.StoreByte (bare_place p) (bare_operand a)
bare_kind_step (StmtKind-F.Call place x target via xs hints after) =
    stmt.Call 0 (bare_name x) (bare_operand target) (bare_option bare_name via) (map bare_operand xs) (map bare_hint hints) (bare_assertion after)
bare_kind_step (StmtKind-F.If t ys ns j) = stmt.If (bare_test t) ys ns (bare_option bare_join j)
bare_kind_step (StmtKind-F.While t place inv body) = stmt.While (bare_test t) 0 (bare_assertion inv) body
bare_kind_step (StmtKind-F.Return a) = stmt.Return (bare_operand a)
bare_kind_step (StmtKind-F.Hint h) = stmt.Hint (bare_hint h)
bare_kind_step (StmtKind-F.Find n v k p s u t keep body) =
    stmt.Find (bare_name n) (bare_name v) (bare_operand k) (bare_name p) (bare_seq s) (bare_name u) (bare_name t) (bare_assertion keep) body
bare_kind_step (StmtKind-F.Walk n v p s u t keep body) =
    stmt.Walk (bare_name n) (bare_name v) (bare_name p) (bare_seq s) (bare_name u) (bare_name t) (bare_assertion keep) body

abbrev pub bare_stmt_step : Stmt-F StmtKind Stmt → Stmt
bare_stmt_step s = record { at = 0; kind = s.kind }

abbrev pub bare_stmt_kind : StmtKind → StmtKind
bare_stmt_kind = fold-StmtKind StmtKind Stmt bare_kind_step bare_stmt_step

abbrev pub bare_stmt : Stmt → Stmt
bare_stmt = fold-Stmt StmtKind Stmt bare_kind_step bare_stmt_step

abbrev pub bare_function : Function → Function
bare_function f = record {
  name = bare_name f.name;
  exported = f.exported;
  signature = bare_name f.signature;
  locals = map bare_name f.locals;
  body = map bare_stmt f.body;
  end = 0;
}

abbrev pub bare_module : Module → Module
bare_module m = record {
  name = bare_name m.name;
  signatures = map bare_signature m.signatures;
  predicates = map bare_predicate m.predicates;
  imports = map bare_import m.imports;
  functions = map bare_function m.functions;
}
