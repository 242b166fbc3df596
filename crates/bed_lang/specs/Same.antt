-- Whether two trees are the same, wherever they and their parts stand: every place is set aside.
use Rattle.std.specs.Prelude.{◌==◌, ◌&&◌, Bool, true, false, List, [], ◌∷◌, map, Option, Some, None}
use Rattle.std.specs.Str.{bytes_eq}
use Rattle.std.specs.Cmp.Lexicographic.{pointwise}
use Rattle.bed_lang.specs.declared.word.Name.{Name}
use Rattle.bed_lang.specs.declared.word.Sort.{Sort}
use Rattle.bed_lang.specs.declared.word.Sort.TheVariants as sort
use Rattle.bed_lang.specs.declared.word.Var.{Var}
use Rattle.bed_lang.specs.declared.word.Var.TheVariants as var
use Rattle.bed_lang.specs.declared.word.Word.{Word, out-Word, fold-Word}
use Rattle.bed_lang.specs.declared.word.Word.TheOpen.{Word-F}
use Rattle.bed_lang.specs.declared.word.Seq.{Seq, out-Seq, fold-Seq}
use Rattle.bed_lang.specs.declared.word.Seq.TheOpen.{Seq-F}
use Rattle.bed_lang.specs.declared.logic.Arg.{Arg}
use Rattle.bed_lang.specs.declared.logic.Arg.TheVariants as arg
use Rattle.bed_lang.specs.declared.logic.Pure.{Pure}
use Rattle.bed_lang.specs.declared.logic.Pure.TheVariants as pure
use Rattle.bed_lang.specs.declared.logic.Atom.{Atom}
use Rattle.bed_lang.specs.declared.logic.Atom.TheVariants as atom
use Rattle.bed_lang.specs.declared.logic.Term.{Term}
use Rattle.bed_lang.specs.declared.logic.Term.TheVariants as term
use Rattle.bed_lang.specs.declared.logic.Bind.{Bind}
use Rattle.bed_lang.specs.declared.logic.Assertion.{Assertion}
use Rattle.bed_lang.specs.declared.module.Operand.{Operand}
use Rattle.bed_lang.specs.declared.module.Operand.TheVariants as operand
use Rattle.bed_lang.specs.declared.module.Op.{Op}
use Rattle.bed_lang.specs.declared.module.Op.TheVariants as op
use Rattle.bed_lang.specs.declared.module.Rel.{Rel}
use Rattle.bed_lang.specs.declared.module.Rel.TheVariants as rel
use Rattle.bed_lang.specs.declared.module.Signature.{Signature}
use Rattle.bed_lang.specs.declared.module.Predicate.{Predicate}
use Rattle.bed_lang.specs.declared.module.Import.{Import}
use Rattle.bed_lang.specs.declared.module.Function.{Function}
use Rattle.bed_lang.specs.declared.module.Module.{Module}
use Rattle.bed_lang.specs.declared.module.Place.{Place}
use Rattle.bed_lang.specs.declared.module.Test.{Test}
use Rattle.bed_lang.specs.declared.module.Hint.{Hint}
use Rattle.bed_lang.specs.declared.module.Hint.TheVariants as hint
use Rattle.bed_lang.specs.declared.module.Join.{Join}
use Rattle.bed_lang.specs.declared.statement.Stmt.{Stmt, Stmt-F, fold-Stmt}
use Rattle.bed_lang.specs.declared.statement.StmtKind.{StmtKind, StmtKind-F, out-StmtKind, fold-StmtKind}
use Rattle.bed_lang.specs.declared.module.Action.{Action}
use Rattle.bed_lang.specs.declared.module.Action.TheVariants as action
use Rattle.bed_lang.specs.declared.condition.Decls.{Decls}
use Rattle.bed_lang.specs.declared.condition.Goal.{Goal}
use Rattle.bed_lang.specs.declared.condition.Goal.TheVariants as goal
use Rattle.bed_lang.specs.declared.condition.Placed.{Placed}
use Rattle.bed_lang.specs.declared.condition.Cond.{Cond}

-- two optional parts: both there and the same, or none
abbrev pub same_option : {T : Type 0} → (T → T → Bool) → Option T → Option T → Bool
same_option f None None = true
same_option f (Some a) (Some b) = f a b
same_option f _ _ = false

abbrev pub same_flag : Bool → Bool → Bool
same_flag true b = b
same_flag false true = false
same_flag false false = true

abbrev pub same_sort : Sort → Sort → Bool
same_sort sort.Word sort.Word = true
same_sort sort.Seq sort.Seq = true
same_sort _ _ = false

abbrev pub same_name : Name → Name → Bool
same_name a b = bytes_eq a.bytes b.bytes

abbrev pub same_var : Var → Var → Bool
same_var (var.Named a) (var.Named b) = same_name a b
same_var (var.Old a) (var.Old b) = same_name a b
same_var (var.Answer a) (var.Answer b) = true
same_var (var.Fresh a) (var.Fresh b) = a == b
same_var var.Hole var.Hole = true
same_var _ _ = false

-- one layer of a word against another, with a test of each part in its place
abbrev pub same_word_layer : Word-F (Word → Bool) → Word-F Word → Bool
same_word_layer (Word-F.Number a) (Word-F.Number b) = a == b
same_word_layer (Word-F.Var a) (Word-F.Var b) = same_var a b
same_word_layer (Word-F.Label a) (Word-F.Label b) = same_name a b
same_word_layer (Word-F.Add a b) (Word-F.Add c d) = a c && b d
same_word_layer (Word-F.Sub a b) (Word-F.Sub c d) = a c && b d
same_word_layer (Word-F.Times n a) (Word-F.Times m b) = (n == m) && a b
same_word_layer _ _ = false

abbrev pub same_word : Word → Word → Bool
same_word = fold-Word (Word → Bool) (λ x. λ w. same_word_layer x (out-Word w))

abbrev pub same_seq_layer : Seq-F (Seq → Bool) → Seq-F Seq → Bool
same_seq_layer (Seq-F.Var a) (Seq-F.Var b) = same_var a b
same_seq_layer Seq-F.Nil Seq-F.Nil = true
same_seq_layer (Seq-F.Cons a s) (Seq-F.Cons b t) = same_word a b && s t
same_seq_layer (Seq-F.App a s) (Seq-F.App b t) = a b && s t
same_seq_layer _ _ = false

abbrev pub same_seq : Seq → Seq → Bool
same_seq = fold-Seq (Seq → Bool) (λ x. λ s. same_seq_layer x (out-Seq s))

abbrev pub same_arg : Arg → Arg → Bool
same_arg (arg.Word p a) (arg.Word q b) = same_word a b
same_arg (arg.Seq p a) (arg.Seq q b) = same_seq a b
same_arg (arg.Bare a) (arg.Bare b) = same_name a b
same_arg _ _ = false

abbrev pub same_pure : Pure → Pure → Bool
same_pure (pure.Equal a b) (pure.Equal c d) = same_word a c && same_word b d
same_pure (pure.Unequal a b) (pure.Unequal c d) = same_word a c && same_word b d
same_pure (pure.Less a b) (pure.Less c d) = same_word a c && same_word b d
same_pure (pure.AtMost a b) (pure.AtMost c d) = same_word a c && same_word b d
same_pure (pure.Same s t) (pure.Same u v) = same_seq s u && same_seq t v
same_pure (pure.Member a s) (pure.Member b t) = same_word a b && same_seq s t
same_pure (pure.NonMember a s) (pure.NonMember b t) = same_word a b && same_seq s t
same_pure (pure.Code a x) (pure.Code b y) = same_word a b && same_name x y
same_pure _ _ = false

abbrev pub same_atom : Atom → Atom → Bool
same_atom (atom.Cell a b) (atom.Cell c d) = same_word a c && same_word b d
same_atom (atom.Byte a b) (atom.Byte c d) = same_word a c && same_word b d
same_atom (atom.Block a b) (atom.Block c d) = same_word a c && same_word b d
same_atom (atom.Pred x xs) (atom.Pred y ys) = same_name x y && pointwise same_arg xs ys
same_atom _ _ = false

abbrev pub same_term : Term → Term → Bool
same_term term.Emp term.Emp = true
same_term (term.Pure a) (term.Pure b) = same_pure a b
same_term (term.Atom a) (term.Atom b) = same_atom a b
same_term _ _ = false

abbrev pub same_bind : Bind → Bind → Bool
same_bind a b = same_name a.name b.name && same_sort a.sort b.sort

abbrev pub same_assertion : Assertion → Assertion → Bool
same_assertion a b = pointwise same_bind a.binders b.binders && pointwise same_term a.terms b.terms

abbrev pub same_operand : Operand → Operand → Bool
same_operand (operand.Number a) (operand.Number b) = a == b
same_operand (operand.Local a) (operand.Local b) = same_name a b
same_operand (operand.Label a) (operand.Label b) = same_name a b
same_operand _ _ = false

abbrev pub same_op : Op → Op → Bool
same_op op.Add op.Add = true
same_op op.Sub op.Sub = true
same_op op.Mul op.Mul = true
same_op op.And op.And = true
same_op op.Or op.Or = true
same_op op.Xor op.Xor = true
same_op _ _ = false

abbrev pub same_rel : Rel → Rel → Bool
same_rel rel.Equal rel.Equal = true
same_rel rel.Unequal rel.Unequal = true
same_rel rel.Less rel.Less = true
same_rel rel.AtMost rel.AtMost = true
same_rel _ _ = false

abbrev pub same_signature : Signature → Signature → Bool
same_signature a b =
    same_name a.name b.name && (pointwise same_name a.params b.params && ((a.reserve == b.reserve)
    && (pointwise same_bind a.logical b.logical && (same_assertion a.pre b.pre && same_assertion a.post b.post))))

abbrev pub same_predicate : Predicate → Predicate → Bool
same_predicate a b = same_name a.name b.name && (pointwise same_bind a.params b.params && pointwise same_assertion a.cases b.cases)

abbrev pub same_import : Import → Import → Bool
same_import a b = same_name a.name b.name && same_name a.signature b.signature

abbrev pub same_place : Place → Place → Bool
same_place a b = same_operand a.base b.base && (a.disp == b.disp)

abbrev pub same_test : Test → Test → Bool
same_test a b = same_rel a.rel b.rel && (same_operand a.left b.left && same_operand a.right b.right)

abbrev pub same_hint : Hint → Hint → Bool
same_hint (hint.Unfold x a) (hint.Unfold y b) = same_name x y && same_option same_word a b
same_hint (hint.Fold x xs m) (hint.Fold y ys n) = same_name x y && (pointwise same_arg xs ys && (m == n))
same_hint (hint.Append a) (hint.Append b) = same_word a b
same_hint (hint.Divide a b) (hint.Divide c d) = same_word a c && same_word b d
same_hint (hint.Merge a b) (hint.Merge c d) = same_word a c && same_word b d
same_hint (hint.Bytes a) (hint.Bytes b) = same_word a b
same_hint (hint.Word a) (hint.Word b) = same_word a b
same_hint (hint.Cell a) (hint.Cell b) = same_word a b
same_hint (hint.Uncell a) (hint.Uncell b) = same_word a b
same_hint (hint.Drop a) (hint.Drop b) = same_word a b
same_hint (hint.Claim a) (hint.Claim b) = same_pure a b
same_hint (hint.When a) (hint.When b) = same_pure a b
same_hint (hint.Give x a) (hint.Give y b) = same_name x y && same_arg a b
same_hint _ _ = false

abbrev pub same_join : Join → Join → Bool
same_join a b = same_assertion a.assertion b.assertion

-- two lists have the same length, and each test accepts the item in its place
abbrev pub accepts_all : {T : Type 0} → List (T → Bool) → List T → Bool
accepts_all [] [] = true
accepts_all (f ∷ fs) (x ∷ xs) = f x && accepts_all fs xs
accepts_all _ _ = false

abbrev pub same_call : Name → Operand → Option Name → List Operand → List Hint → Assertion
    → Name → Operand → Option Name → List Operand → List Hint → Assertion → Bool
same_call x t v xs hs a y u w ys ks b =
    same_name x y && (same_operand t u && (same_option same_name v w
    && (pointwise same_operand xs ys && (pointwise same_hint hs ks && same_assertion a b))))

abbrev pub same_list_head : Name → Name → Name → Seq → Name → Name → Assertion
    → Name → Name → Name → Seq → Name → Name → Assertion → Bool
same_list_head n v p s u t a m w q z x y b =
    same_name n m && (same_name v w && (same_name p q && (same_seq s z && (same_name u x && (same_name t y && same_assertion a b)))))

abbrev pub same_kind_layer : StmtKind-F (StmtKind → Bool) (Stmt → Bool) → StmtKind-F StmtKind Stmt → Bool
same_kind_layer (StmtKind-F.Assign x a) (StmtKind-F.Assign y b) = same_name x y && same_operand a b
same_kind_layer (StmtKind-F.Compute x o a b) (StmtKind-F.Compute y p c d) =
    same_name x y && (same_op o p && (same_operand a c && same_operand b d))
same_kind_layer (StmtKind-F.Load x a) (StmtKind-F.Load y b) = same_name x y && same_place a b
same_kind_layer (StmtKind-F.LoadByte x a) (StmtKind-F.LoadByte y b) = same_name x y && same_place a b
same_kind_layer (StmtKind-F.Store a b) (StmtKind-F.Store c d) = same_place a c && same_operand b d
same_kind_layer (StmtKind-F.StoreByte a b) (StmtKind-F.StoreByte c d) = same_place a c && same_operand b d
same_kind_layer (StmtKind-F.Call p x t v xs hs a) (StmtKind-F.Call q y u w ys ks b) = same_call x t v xs hs a y u w ys ks b
same_kind_layer (StmtKind-F.If s as' bs i) (StmtKind-F.If t cs ds j) =
    same_test s t && (accepts_all as' cs && (accepts_all bs ds && same_option same_join i j))
same_kind_layer (StmtKind-F.While s p a bs) (StmtKind-F.While t q b cs) =
    same_test s t && (same_assertion a b && accepts_all bs cs)
same_kind_layer (StmtKind-F.Return a) (StmtKind-F.Return b) = same_operand a b
same_kind_layer (StmtKind-F.Hint a) (StmtKind-F.Hint b) = same_hint a b
same_kind_layer (StmtKind-F.Find n v k p s u t a bs) (StmtKind-F.Find m w l q z x y b cs) =
    same_list_head n v p s u t a m w q z x y b && (same_operand k l && accepts_all bs cs)
same_kind_layer (StmtKind-F.Walk n v p s u t a bs) (StmtKind-F.Walk m w q z x y b cs) =
    same_list_head n v p s u t a m w q z x y b && accepts_all bs cs
same_kind_layer _ _ = false

abbrev pub same_kind_step : StmtKind-F (StmtKind → Bool) (Stmt → Bool) → StmtKind → Bool
same_kind_step x k = same_kind_layer x (out-StmtKind k)

abbrev pub same_stmt_step : Stmt-F (StmtKind → Bool) (Stmt → Bool) → Stmt → Bool
same_stmt_step x s = x.kind s.kind

abbrev pub same_kind : StmtKind → StmtKind → Bool
same_kind = fold-StmtKind (StmtKind → Bool) (Stmt → Bool) same_kind_step same_stmt_step

abbrev pub same_stmt : Stmt → Stmt → Bool
same_stmt = fold-Stmt (StmtKind → Bool) (Stmt → Bool) same_kind_step same_stmt_step

abbrev pub same_function : Function → Function → Bool
same_function a b =
    same_name a.name b.name && (same_flag a.exported b.exported && (same_name a.signature b.signature
    && (pointwise same_name a.locals b.locals && accepts_all (map same_stmt a.body) b.body)))

abbrev pub same_module : Module → Module → Bool
same_module a b =
    same_name a.name b.name && (pointwise same_signature a.signatures b.signatures
    && (pointwise same_predicate a.predicates b.predicates
    && (pointwise same_import a.imports b.imports && pointwise same_function a.functions b.functions)))

abbrev pub same_action : Action → Action → Bool
same_action (action.Assign x a) (action.Assign y b) = same_name x y && same_operand a b
same_action (action.Compute x o a b) (action.Compute y p c d) =
    same_name x y && (same_op o p && (same_operand a c && same_operand b d))
same_action (action.Load x a) (action.Load y b) = same_name x y && same_place a b
same_action (action.LoadByte x a) (action.LoadByte y b) = same_name x y && same_place a b
same_action (action.Store a b) (action.Store c d) = same_place a c && same_operand b d
same_action (action.StoreByte a b) (action.StoreByte c d) = same_place a c && same_operand b d
same_action (action.Assume s) (action.Assume t) = same_test s t
same_action _ _ = false

abbrev pub same_label : Name × Name → Name × Name → Bool
same_label a b = same_name a.0 b.0 && same_name a.1 b.1

abbrev pub same_decls : Decls → Decls → Bool
same_decls a b =
    pointwise same_signature a.signatures b.signatures
    && (pointwise same_predicate a.predicates b.predicates && pointwise same_label a.labels b.labels)

abbrev pub same_goal : Goal → Goal → Bool
same_goal (goal.Meets a) (goal.Meets b) = same_assertion a b
same_goal (goal.Calls t v xs x a) (goal.Calls u w ys y b) =
    same_operand t u && (same_option same_name v w && (pointwise same_operand xs ys && (same_name x y && same_assertion a b)))
same_goal (goal.Returns a) (goal.Returns b) = same_operand a b
same_goal _ _ = false

abbrev pub same_placed : Placed → Placed → Bool
same_placed a b = (a.before == b.before) && same_hint a.hint b.hint

abbrev pub same_cond : Cond → Cond → Bool
same_cond a b =
    same_name a.module b.module && (same_name a.function b.function && (pointwise same_name a.locals b.locals
    && (same_flag a.entry b.entry && (same_assertion a.start b.start && (pointwise same_action a.actions b.actions
    && (same_goal a.goal b.goal && pointwise same_placed a.hints b.hints))))))
