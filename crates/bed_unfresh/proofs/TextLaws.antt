-- The grammar of modules has no fresh variable.
use Rattle.std.proofs.Common.{◌≡◌, ℕ, Bool, true, false, ◌&&◌, ◌⊎◌, inl, inr, if◌then◌else◌, Option, Some, None, List, [], ◌∷◌, map, refl, sym, ◌∙◌, ap, subst}
use Rattle.bed_grammar.specs.Grammar.{Rhs, token, empty, seq, alt, ref, Value, Derives, Marked, unmarked}
use Rattle.bed_grammar.specs.Grammar.Derives.{shift, epsilon, sequence, left, right, expand}
use Rattle.bed_lang.specs.declared.word.Name.{Name}
use Rattle.bed_lang.specs.declared.word.Var.TheVariants as var
use Rattle.bed_lang.specs.declared.word.Word.{Word, Number, Label, Add, Sub, Times, Var as WordVar}
use Rattle.bed_lang.specs.declared.word.Seq.{Seq, Nil, Cons, App, Var as SeqVar}
use Rattle.bed_lang.specs.declared.logic.Arg.{Arg}
use Rattle.bed_lang.specs.declared.logic.Pure.{Pure}
use Rattle.bed_lang.specs.declared.module.Rel.{Rel}
use Rattle.bed_lang.specs.declared.module.Rel.TheVariants as rel
use Rattle.bed_lang.specs.declared.module.Module as modules
use Rattle.bed_lang.specs.declared.statement.Stmt.{Stmt}
use Rattle.bed_lang.specs.declared.statement.StmtKind.{StmtKind, StmtKind-F, roll-StmtKind, map-StmtKind}
use Rattle.bed_lang.specs.declared.statement.StmtKind.TheVariants.{rolls-Assign, rolls-Compute, rolls-Load, rolls-LoadByte, rolls-Store, rolls-StoreByte, rolls-Call, rolls-If, rolls-While, rolls-Return, rolls-Hint, rolls-Find, rolls-Walk}
use Rattle.bed_lex.specs.declared.token.Token.{Token}
use Rattle.bed_lang.specs.declared.limit.Which.{Which}
use Rattle.bed_read.specs.declared.parts.Piece.{Piece}
use Rattle.bed_read.specs.declared.parts.Piece.TheVariants as piece
use Rattle.bed_read.specs.declared.parts.Source.{Source}
use Rattle.bed_read.specs.declared.parts.Source.TheVariants as source
use Rattle.bed_read.specs.Trees.{word_of, added, joined, summed, word_argument, compared, membership, points_to, cell_at, assigned}
use Rattle.bed_read.specs.Written.{N, Tree, written, written_rule, written_action}
use Rattle.bed_deriv.specs.Fresh.{every, known_word, known_seq, known_arg, known_pure, known_term, known_assertion, unfresh_signature, unfresh_predicate}
use Rattle.bed_deriv.proofs.KnownLaws.{known-Number, known-Var, known-Label, known-Add, known-Sub, known-Times, known_seq-Var, known_seq-Nil, known_seq-Cons, known_seq-App}
use Rattle.bed_unfresh.specs.Unfresh.{unfresh_join, unfresh_kind_step, unfresh_kind, unfresh_statement, unfresh_function, unfresh_module, TextsAreUnfresh}
use Rattle.bed_unfresh.proofs.StatementLemmas.{both_true, and_so, statement-kind, kind_is, body_is}

-- ---- what is said of the tree of each nonterminal

abbrev PieceGood : Piece → Type 0
PieceGood p = known_word 0 (word_of p) ≡ true

abbrev SourceGood : Source → Type 0
SourceGood (source.Call c) = known_assertion 0 c.after ≡ true
SourceGood _ = Unit {0}

abbrev Good : (x : N) → Tree x → Type 0
Good N.Module m = unfresh_module m ≡ true
Good N.Signatures l = every unfresh_signature l ≡ true
Good N.Signature S = unfresh_signature S ≡ true
Good N.Predicates l = every unfresh_predicate l ≡ true
Good N.Predicate p = unfresh_predicate p ≡ true
Good (N.Cases k) l = every (known_assertion 0) l ≡ true
Good N.Functions l = every unfresh_function l ≡ true
Good N.Function f = unfresh_function f ≡ true
Good (N.Body k) b = every unfresh_statement b.0 ≡ true
Good (N.Statements k) l = every unfresh_statement l ≡ true
Good (N.Assertion m) A = known_assertion 0 A ≡ true
Good (N.Terms k) l = every (known_term 0) l ≡ true
Good (N.Term m) t = known_term 0 t.1 ≡ true
Good (N.PureTerm m) t = known_term 0 t.1 ≡ true
Good (N.Block m) t = known_term 0 t.1 ≡ true
Good (N.Pure k) p = known_pure 0 p ≡ true
Good (N.CodeFact k) p = known_pure 0 p ≡ true
Good (N.Word k) w = known_word 0 w ≡ true
Good (N.Sum m k) p = PieceGood p
Good (N.Sums j k) l = every (λ (b : Bool × Word). known_word 0 b.1) l ≡ true
Good (N.Part m k) p = PieceGood p
Good (N.Seq k) s = known_seq 0 s ≡ true
Good (N.PlainSeq k) s = known_seq 0 s.1 ≡ true
Good (N.Arg k) a = known_arg 0 a ≡ true
Good (N.Args k) l = every (known_arg 0) l ≡ true
Good (N.MoreArgs k) l = every (known_arg 0) l ≡ true
Good (N.Statement k) s = unfresh_statement s ≡ true
Good N.Assignment s = unfresh_statement s ≡ true
Good N.Store s = unfresh_statement s ≡ true
Good N.StoreByte s = unfresh_statement s ≡ true
Good (N.If k) s = unfresh_statement s ≡ true
Good (N.Else k) l = every unfresh_statement l ≡ true
Good N.Join j = unfresh_join j ≡ true
Good (N.While k) s = unfresh_statement s ≡ true
Good N.Return s = unfresh_statement s ≡ true
Good N.HintStatement s = unfresh_statement s ≡ true
Good (N.Find k) s = unfresh_statement s ≡ true
Good (N.Walk k) s = unfresh_statement s ≡ true
Good N.Over o = (known_seq 0 o.seq ≡ true) × (known_assertion 0 o.keep ≡ true)
Good N.Source s = SourceGood s
Good N.Call c = known_assertion 0 c.after ≡ true
Good _ v = Unit {0}

-- and of the value of a right side
abbrev GoodValue : (g : Rhs N Which) → Value Token Tree g → Type 0
GoodValue (token c m) v = Unit {0}
GoodValue empty v = Unit {0}
GoodValue (seq a b) v = GoodValue a v.0 × GoodValue b v.1
GoodValue (alt a b) (inl v) = GoodValue a v
GoodValue (alt a b) (inr v) = GoodValue b v
GoodValue (ref x) v = Good x v

-- ---- parts of terms

added_good : (a : Word) (b : Bool × Word) → known_word 0 a ≡ true → known_word 0 b.1 ≡ true → known_word 0 (added a b) ≡ true
added_good a b ga gb = by b.0
  where
    by : (t : Bool) → known_word 0 (if t then Add a b.1 else Sub a b.1) ≡ true
    by true = known-Add 0 a b.1 ∙ both_true (known_word 0 a) (known_word 0 b.1) ga gb
    by false = known-Sub 0 a b.1 ∙ both_true (known_word 0 a) (known_word 0 b.1) ga gb

front_good : (a b : Bool) → (a && b) ≡ true → a ≡ true
front_good true b e = refl
front_good false b e = e

back_good : (a b : Bool) → (a && b) ≡ true → b ≡ true
back_good true b e = e
back_good false b e = absurd cc

summed_good : (p : Piece) (bs : List (Bool × Word)) → PieceGood p → every (λ (b : Bool × Word). known_word 0 b.1) bs ≡ true → PieceGood (summed p bs)
summed_good p [] gp gs = gp
summed_good p (b ∷ bs) gp gs =
    summed_good (joined p b) bs (added_good (word_of p) b gp (front_good (known_word 0 b.1) _ gs)) (back_good (known_word 0 b.1) _ gs)

argument_good : (p : Piece) → PieceGood p → known_arg 0 (word_argument p) ≡ true
argument_good (piece.Name x) g = refl
argument_good (piece.Word at w) g = g

compared_good : (a b : Word) (r : Rel) → known_word 0 a ≡ true → known_word 0 b ≡ true → known_pure 0 (compared a r b) ≡ true
compared_good a b rel.Equal ga gb = both_true (known_word 0 a) (known_word 0 b) ga gb
compared_good a b rel.Unequal ga gb = both_true (known_word 0 a) (known_word 0 b) ga gb
compared_good a b rel.Less ga gb = both_true (known_word 0 a) (known_word 0 b) ga gb
compared_good a b rel.AtMost ga gb = both_true (known_word 0 a) (known_word 0 b) ga gb

member_good : (a : Word) (t : Bool) (s : Seq) → known_word 0 a ≡ true → known_seq 0 s ≡ true → known_pure 0 (membership a t s) ≡ true
member_good a true s ga gs = both_true (known_word 0 a) (known_seq 0 s) ga gs
member_good a false s ga gs = both_true (known_word 0 a) (known_seq 0 s) ga gs

cell_good : (e v : Word) (t : Bool) → known_word 0 e ≡ true → known_word 0 v ≡ true → known_term 0 (points_to e t v) ≡ true
cell_good e v true ge gv = both_true (known_word 0 e) (known_word 0 v) ge gv
cell_good e v false ge gv = both_true (known_word 0 e) (known_word 0 v) ge gv

-- ---- statements

kind_good : (at : ℕ) (x : StmtKind-F StmtKind Stmt) (k : StmtKind) → roll-StmtKind x ≡ k
    → unfresh_kind_step (map-StmtKind _ _ _ _ unfresh_kind unfresh_statement x) ≡ true
    → unfresh_statement (record { at = at; kind = k }) ≡ true
kind_good at x k e g = statement-kind (record { at = at; kind = k }) ∙ kind_is x k e ∙ g

assigned_good : (at : ℕ) (x : Name) (s : Source) → SourceGood s → unfresh_statement (record { at = at; kind = assigned x s }) ≡ true
assigned_good at x (source.Operand a) g = kind_good at (StmtKind-F.Assign x a) _ (rolls-Assign x a) refl
assigned_good at x (source.Compute o a b) g = kind_good at (StmtKind-F.Compute x o a b) _ (rolls-Compute x o a b) refl
assigned_good at x (source.Load p) g = kind_good at (StmtKind-F.Load x p) _ (rolls-Load x p) refl
assigned_good at x (source.LoadByte p) g = kind_good at (StmtKind-F.LoadByte x p) _ (rolls-LoadByte x p) refl
assigned_good at x (source.Call c) g = kind_good at (StmtKind-F.Call c.place x c.target c.via c.args c.hints c.after) _ (rolls-Call c.place x c.target c.via c.args c.hints c.after) g

in_body : (body : List Stmt) → every unfresh_statement body ≡ true → every (λ b. b) (map unfresh_statement body) ≡ true
in_body body g = sym (body_is body) ∙ g

-- ---- the tree of each production

step : (x : N) (v : Value Token Tree (written_rule x)) → GoodValue (written_rule x) v → Good x (written_action x v)
step N.Module v g =
    and_so g.1.1.1.0 (and_so g.1.1.1.1.0 g.1.1.1.1.1.1)
step N.Signatures (inl v) g = and_so g.0 g.1
step N.Signatures (inr v) g = refl
step N.Signature v g = and_so g.1.1.1.1.1.1.1.1.0 g.1.1.1.1.1.1.1.1.1.1.0
step N.Predicates (inl v) g = and_so g.0 g.1
step N.Predicates (inr v) g = refl
step N.Predicate v g = and_so g.1.1.1.1.1.1.0 g.1.1.1.1.1.1.1.0
step (N.Cases k) (inl v) g = and_so g.1.0 g.1.1
step (N.Cases k) (inr v) g = refl
step N.Functions (inl v) g = and_so g.0 g.1
step N.Functions (inr v) g = refl
step N.Function v g = g.1.1.1.1.1.1
step (N.Body k) v g = g.1.0
step (N.Statements k) (inl v) g = and_so g.0 g.1
step (N.Statements k) (inr v) g = refl
step (N.Assertion m) (inl v) g = and_so g.1.1.1.0 g.1.1.1.1
step (N.Assertion m) (inr v) g = and_so g.0 g.1
step (N.Terms k) (inl v) g = and_so g.1.0 g.1.1
step (N.Terms k) (inr v) g = refl
step (N.Term m) (inl v) g = refl
step (N.Term m) (inr (inl v)) g = g
step (N.Term m) (inr (inr (inl v))) g = g
step (N.Term m) (inr (inr (inr (inl v)))) g = g.1.1.0
step (N.Term m) (inr (inr (inr (inr (inl v))))) g = cell_good (word_of v.0) v.1.1 true g.0 g.1.1
step (N.Term m) (inr (inr (inr (inr (inr v))))) g = cell_good (word_of v.0) v.1.1 false g.0 g.1.1
step (N.PureTerm m) v g = g.1.0
step (N.Block m) v g = and_so g.1.1.0 g.1.1.1.1.0
step (N.Pure k) (inl v) g = compared_good v.0 v.1.1 v.1.0 g.0 g.1.1
step (N.Pure k) (inr (inl v)) g = and_so g.0 g.1.1
step (N.Pure k) (inr (inr (inl v))) g = member_good v.0 v.1.0 v.1.1 g.0 g.1.1
step (N.Pure k) (inr (inr (inr v))) g = g
step (N.CodeFact k) v g = g.1.1.0
step (N.Word k) v g = g
step (N.Sum m k) v g = summed_good v.0 v.1 g.0 g.1
step (N.Sums j k) (inl v) g = and_so g.1.0 g.1.1
step (N.Sums j k) (inr v) g = refl
step (N.Part m k) (inl v) g = known-Number 0 v.1
step (N.Part m k) (inr (inl v)) g = known-Var 0 (var.Named v)
step (N.Part m k) (inr (inr (inl v))) g = known-Label 0 v.1
step (N.Part m k) (inr (inr (inr (inl v)))) g = known-Var 0 _
step (N.Part m k) (inr (inr (inr (inr (inl v))))) g = known-Var 0 _
step (N.Part m k) (inr (inr (inr (inr (inr (inl v)))))) g = known-Times 0 v.1.0.1 v.1.1.1.0 ∙ g.1.1.1.0
step (N.Part m k) (inr (inr (inr (inr (inr (inr v)))))) g = g.1.0
step (N.Seq k) (inl v) g = known_seq-Var 0 (var.Named v)
step (N.Seq k) (inr v) g = g
step (N.PlainSeq k) (inl v) g = known_seq-Nil 0
step (N.PlainSeq k) (inr (inl v)) g = known_seq-Cons 0 v.1.1.0 v.1.1.1.1.0 ∙ and_so g.1.1.0 g.1.1.1.1.0
step (N.PlainSeq k) (inr (inr v)) g = known_seq-App 0 v.1.1.0 v.1.1.1.1.0 ∙ and_so g.1.1.0 g.1.1.1.1.0
step (N.Arg k) (inl v) g = argument_good v g
step (N.Arg k) (inr (inl v)) g = refl
step (N.Arg k) (inr (inr v)) g = g
step (N.Args k) (inl v) g = and_so g.0 g.1
step (N.Args k) (inr v) g = refl
step (N.MoreArgs k) (inl v) g = and_so g.1.0 g.1.1
step (N.MoreArgs k) (inr v) g = refl
step (N.Statement k) (inl v) g = g
step (N.Statement k) (inr (inl v)) g = g
step (N.Statement k) (inr (inr (inl v))) g = g
step (N.Statement k) (inr (inr (inr (inl v)))) g = g
step (N.Statement k) (inr (inr (inr (inr (inl v))))) g = g
step (N.Statement k) (inr (inr (inr (inr (inr (inl v)))))) g = g
step (N.Statement k) (inr (inr (inr (inr (inr (inr (inl v))))))) g = g
step (N.Statement k) (inr (inr (inr (inr (inr (inr (inr (inl v)))))))) g = g
step (N.Statement k) (inr (inr (inr (inr (inr (inr (inr (inr v)))))))) g = g
step N.Assignment v g = assigned_good v.0.at v.0 v.1.1.0 g.1.1.0
step N.Store v g = kind_good v.0.at (StmtKind-F.Store v.1.0 v.1.1.1.1.0.1) _ (rolls-Store v.1.0 v.1.1.1.1.0.1) refl
step N.StoreByte v g = kind_good v.0.at (StmtKind-F.StoreByte v.1.1.0 v.1.1.1.1.1.0.1) _ (rolls-StoreByte v.1.1.0 v.1.1.1.1.1.0.1) refl
step (N.If k) v g =
    kind_good v.0.at (StmtKind-F.If v.1.0 v.1.1.0.0 v.1.1.1.0 v.1.1.1.1) _ (rolls-If v.1.0 v.1.1.0.0 v.1.1.1.0 v.1.1.1.1)
    (and_so (in_body v.1.1.0.0 g.1.1.0) (and_so (in_body v.1.1.1.0 g.1.1.1.0) g.1.1.1.1))
step (N.Else k) (inl v) g = g.1
step (N.Else k) (inr v) g = refl
step N.Join (inl v) g = g.1.0
step N.Join (inr v) g = refl
step (N.While k) v g =
    kind_good v.0.at (StmtKind-F.While v.1.0 v.1.1.0.at v.1.1.1.0 v.1.1.1.1.0) _ (rolls-While v.1.0 v.1.1.0.at v.1.1.1.0 v.1.1.1.1.0)
    (and_so g.1.1.1.0 (in_body v.1.1.1.1.0 g.1.1.1.1))
step N.Return v g = kind_good v.0.at (StmtKind-F.Return v.1.0.1) _ (rolls-Return v.1.0.1) refl
step N.HintStatement v g = kind_good v.0.at (StmtKind-F.Hint v.1.0) _ (rolls-Hint v.1.0) refl
step (N.Find k) v g =
    let o = v.1.1.1.1.1.1.0 in
    let h = g.1.1.1.1.1.1.0 in
    kind_good v.0.at (StmtKind-F.Find v.1.0 v.1.1.1.0 v.1.1.1.1.1.0.1 o.list o.seq o.seen o.rest o.keep v.1.1.1.1.1.1.1.0) _
    (rolls-Find v.1.0 v.1.1.1.0 v.1.1.1.1.1.0.1 o.list o.seq o.seen o.rest o.keep v.1.1.1.1.1.1.1.0)
    (and_so h.0 (and_so h.1 (in_body v.1.1.1.1.1.1.1.0 g.1.1.1.1.1.1.1)))
step (N.Walk k) v g =
    let o = v.1.1.1.1.0 in
    let h = g.1.1.1.1.0 in
    kind_good v.0.at (StmtKind-F.Walk v.1.0 v.1.1.1.0 o.list o.seq o.seen o.rest o.keep v.1.1.1.1.1.0) _
    (rolls-Walk v.1.0 v.1.1.1.0 o.list o.seq o.seen o.rest o.keep v.1.1.1.1.1.0)
    (and_so h.0 (and_so h.1 (in_body v.1.1.1.1.1.0 g.1.1.1.1.1)))
step N.Over v g = (g.1.1.1.0, g.1.1.1.1.1.1.1.1.1)
step N.Source (inl v) g = tt
step N.Source (inr (inl v)) g = tt
step N.Source (inr (inr (inl v))) g = tt
step N.Source (inr (inr (inr (inl v)))) g = tt
step N.Source (inr (inr (inr (inr v)))) g = g
step N.Call v g = g.1.1.1.1.1.1.1
step N.NameList v g = tt
step (N.Names w k) v g = tt
step N.Reserving v g = tt
step N.For v g = tt
step (N.Bind m) v g = tt
step N.Binds v g = tt
step (N.MoreBinds k) v g = tt
step N.BindList v g = tt
step N.Sort v g = tt
step N.Imports v g = tt
step N.Import v g = tt
step N.Export v g = tt
step N.Locals v g = tt
step N.Rel v g = tt
step N.Membership v g = tt
step N.Sign v g = tt
step (N.HoleArg k) v g = tt
step (N.HoleArgs k) v g = tt
step (N.MoreHoleArgs k) v g = tt
step N.Operand v g = tt
step N.Operands v g = tt
step N.MoreOperands v g = tt
step N.Test v g = tt
step N.Place v g = tt
step N.Offset v g = tt
step N.Op v g = tt
step N.Callee v g = tt
step N.Using v g = tt
step N.Hints v g = tt
step N.Hint v g = tt
step N.PredicateHint v g = tt
step N.At v g = tt
step N.BlockHint v g = tt
step N.CellHint v g = tt
step N.FactHint v g = tt
step (N.Nam m) v g = tt
step (N.Num m) v g = tt
step (N.NameTerm m) v g = tt
step (N.StartTerm m) v g = tt
step (N.Start m k) v g = tt
step (N.Other m k) v g = tt
step (N.Inner k) v g = tt
step (N.Tail k) v g = tt
step N.Arrow v g = tt

-- what a text derives
derived : (g : Rhs N Which) (p : Marked Token Which) (v : Value Token Tree g) → Derives written g p v → GoodValue g v
derived _ _ _ (shift c m t e) = tt
derived _ _ _ epsilon = tt
derived _ _ _ (sequence a b p q x y d e) = (derived a p x d, derived b q y e)
derived _ _ _ (left a b p x d) = derived a p x d
derived _ _ _ (right a b p x d) = derived b p x d
derived _ _ _ (expand x p v d) = step x v (derived (written_rule x) p v d)

pub texts_are_unfresh : TextsAreUnfresh
texts_are_unfresh text m (ts, lexed, is) = derived (ref N.Module) (unmarked ts) m is
