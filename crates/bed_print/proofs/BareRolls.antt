-- What setting every place to 0 makes of a word, a sequence and a kind of statement, by their outermost part.
use Rattle.std.proofs.Common.{◌≡◌, map, sym, ◌∙◌}
use Rattle.bed_lang.specs.declared.word.Word.{Word, roll-Word, map-Word, fold-roll-Word}
use Rattle.bed_lang.specs.declared.word.Word.TheOpen.{Word-F}
use Rattle.bed_lang.specs.declared.word.Word.TheVariants.{rolls-Number, rolls-Var, rolls-Label, rolls-Add, rolls-Sub, rolls-Times}
use Rattle.bed_lang.specs.declared.word.Seq.{Seq, roll-Seq, map-Seq, fold-roll-Seq}
use Rattle.bed_lang.specs.declared.word.Seq.TheOpen.{Seq-F}
use Rattle.bed_lang.specs.declared.word.Seq.TheVariants.{rolls-Var as seq_rolls-Var, rolls-Nil, rolls-Cons, rolls-App}
use Rattle.bed_lang.specs.declared.statement.Stmt.{Stmt}
use Rattle.bed_lang.specs.declared.statement.StmtKind.{StmtKind, StmtKind-F, roll-StmtKind, map-StmtKind, fold-roll-StmtKind}
use Rattle.bed_lang.specs.declared.statement.StmtKind.TheVariants.{rolls-Assign, rolls-Compute, rolls-Load, rolls-LoadByte, rolls-Store, rolls-StoreByte, rolls-Call, rolls-If, rolls-While, rolls-Return, rolls-Hint, rolls-Find, rolls-Walk}
use Rattle.bed_print.proofs.Places.{bare_option, bare_name, bare_var, bare_word_step, bare_word, bare_seq_step, bare_seq, bare_assertion, bare_operand, bare_place, bare_test, bare_hint, bare_join, bare_kind_step, bare_stmt_step, bare_stmt_kind, bare_stmt}

-- ---- words

abbrev pub bare_word_layer : Word-F Word → Word-F Word
bare_word_layer (Word-F.Number n) = Word-F.Number n
bare_word_layer (Word-F.Var v) = Word-F.Var (bare_var v)
bare_word_layer (Word-F.Label x) = Word-F.Label (bare_name x)
bare_word_layer (Word-F.Add a b) = Word-F.Add a b
bare_word_layer (Word-F.Sub a b) = Word-F.Sub a b
bare_word_layer (Word-F.Times n a) = Word-F.Times n a

word_rolled : (x : Word-F Word) → bare_word_step x ≡ roll-Word (bare_word_layer x)
word_rolled (Word-F.Number n) = sym (rolls-Number n)
word_rolled (Word-F.Var v) = sym (rolls-Var (bare_var v))
word_rolled (Word-F.Label x) = sym (rolls-Label (bare_name x))
word_rolled (Word-F.Add a b) = sym (rolls-Add a b)
word_rolled (Word-F.Sub a b) = sym (rolls-Sub a b)
word_rolled (Word-F.Times n a) = sym (rolls-Times n a)

pub bare_word-roll : (x : Word-F Word) → bare_word (roll-Word x) ≡ roll-Word (bare_word_layer (map-Word Word Word bare_word x))
bare_word-roll x = fold-roll-Word Word bare_word_step x ∙ word_rolled (map-Word Word Word bare_word x)

-- ---- sequences

abbrev pub bare_seq_layer : Seq-F Seq → Seq-F Seq
bare_seq_layer (Seq-F.Var v) = Seq-F.Var (bare_var v)
bare_seq_layer Seq-F.Nil = Seq-F.Nil
bare_seq_layer (Seq-F.Cons a s) = Seq-F.Cons (bare_word a) s
bare_seq_layer (Seq-F.App s t) = Seq-F.App s t

seq_rolled : (x : Seq-F Seq) → bare_seq_step x ≡ roll-Seq (bare_seq_layer x)
seq_rolled (Seq-F.Var v) = sym (seq_rolls-Var (bare_var v))
seq_rolled Seq-F.Nil = sym rolls-Nil
seq_rolled (Seq-F.Cons a s) = sym (rolls-Cons (bare_word a) s)
seq_rolled (Seq-F.App s t) = sym (rolls-App s t)

pub bare_seq-roll : (x : Seq-F Seq) → bare_seq (roll-Seq x) ≡ roll-Seq (bare_seq_layer (map-Seq Seq Seq bare_seq x))
bare_seq-roll x = fold-roll-Seq Seq bare_seq_step x ∙ seq_rolled (map-Seq Seq Seq bare_seq x)

-- ---- kinds of statements

abbrev pub Layer : Type 0
Layer = StmtKind-F StmtKind Stmt

abbrev pub bare_kind_layer : Layer → Layer
bare_kind_layer (StmtKind-F.Assign x a) = StmtKind-F.Assign (bare_name x) (bare_operand a)
bare_kind_layer (StmtKind-F.Compute x o a b) = StmtKind-F.Compute (bare_name x) o (bare_operand a) (bare_operand b)
bare_kind_layer (StmtKind-F.Load x p) = StmtKind-F.Load (bare_name x) (bare_place p)
bare_kind_layer (StmtKind-F.LoadByte x p) = StmtKind-F.LoadByte (bare_name x) (bare_place p)
bare_kind_layer (StmtKind-F.Store p a) = StmtKind-F.Store (bare_place p) (bare_operand a)
bare_kind_layer (StmtKind-F.StoreByte p a) = StmtKind-F.StoreByte (bare_place p) (bare_operand a)
bare_kind_layer (StmtKind-F.Call place x target via xs hints after) =
    StmtKind-F.Call 0 (bare_name x) (bare_operand target) (bare_option bare_name via) (map bare_operand xs) (map bare_hint hints) (bare_assertion after)
bare_kind_layer (StmtKind-F.If t ys ns j) = StmtKind-F.If (bare_test t) ys ns (bare_option bare_join j)
bare_kind_layer (StmtKind-F.While t place inv body) = StmtKind-F.While (bare_test t) 0 (bare_assertion inv) body
bare_kind_layer (StmtKind-F.Return a) = StmtKind-F.Return (bare_operand a)
bare_kind_layer (StmtKind-F.Hint h) = StmtKind-F.Hint (bare_hint h)
bare_kind_layer (StmtKind-F.Find n v k p s u t keep body) =
    StmtKind-F.Find (bare_name n) (bare_name v) (bare_operand k) (bare_name p) (bare_seq s) (bare_name u) (bare_name t) (bare_assertion keep) body
bare_kind_layer (StmtKind-F.Walk n v p s u t keep body) =
    StmtKind-F.Walk (bare_name n) (bare_name v) (bare_name p) (bare_seq s) (bare_name u) (bare_name t) (bare_assertion keep) body

kind_rolled : (x : Layer) → bare_kind_step x ≡ roll-StmtKind (bare_kind_layer x)
kind_rolled (StmtKind-F.Assign x a) = sym (rolls-Assign (bare_name x) (bare_operand a))
kind_rolled (StmtKind-F.Compute x o a b) = sym (rolls-Compute (bare_name x) o (bare_operand a) (bare_operand b))
kind_rolled (StmtKind-F.Load x p) = sym (rolls-Load (bare_name x) (bare_place p))
kind_rolled (StmtKind-F.LoadByte x p) = sym (rolls-LoadByte (bare_name x) (bare_place p))
kind_rolled (StmtKind-F.Store p a) = sym (rolls-Store (bare_place p) (bare_operand a))
kind_rolled (StmtKind-F.StoreByte p a) = sym (rolls-StoreByte (bare_place p) (bare_operand a))
kind_rolled (StmtKind-F.Call place x target via xs hints after) =
    sym (rolls-Call 0 (bare_name x) (bare_operand target) (bare_option bare_name via) (map bare_operand xs) (map bare_hint hints) (bare_assertion after))
kind_rolled (StmtKind-F.If t ys ns j) = sym (rolls-If (bare_test t) ys ns (bare_option bare_join j))
kind_rolled (StmtKind-F.While t place inv body) = sym (rolls-While (bare_test t) 0 (bare_assertion inv) body)
kind_rolled (StmtKind-F.Return a) = sym (rolls-Return (bare_operand a))
kind_rolled (StmtKind-F.Hint h) = sym (rolls-Hint (bare_hint h))
kind_rolled (StmtKind-F.Find n v k p s u t keep body) =
    sym (rolls-Find (bare_name n) (bare_name v) (bare_operand k) (bare_name p) (bare_seq s) (bare_name u) (bare_name t) (bare_assertion keep) body)
kind_rolled (StmtKind-F.Walk n v p s u t keep body) =
    sym (rolls-Walk (bare_name n) (bare_name v) (bare_name p) (bare_seq s) (bare_name u) (bare_name t) (bare_assertion keep) body)

abbrev pub bare_below : Layer → Layer
bare_below = map-StmtKind StmtKind Stmt StmtKind Stmt bare_stmt_kind bare_stmt

pub bare_kind-roll : (x : Layer) → bare_stmt_kind (roll-StmtKind x) ≡ roll-StmtKind (bare_kind_layer (bare_below x))
bare_kind-roll x = fold-roll-StmtKind StmtKind Stmt bare_kind_step bare_stmt_step x ∙ kind_rolled (bare_below x)
