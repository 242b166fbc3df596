-- Trees that are equal with every place set to 0 are the same, wherever they and their parts stand.
use Rattle.std.proofs.Common.{◌≡◌, ℕ, Bool, true, false, ◌==◌, nat_eq, List, [], ◌∷◌, map, Option, Some, None, refl, sym, ap, ◌∙◌, subst}
use Rattle.std.specs.Cmp.{unsigned_Decides}
use Rattle.std.specs.Cmp.Lexicographic.{pointwise}
use Rattle.std.proofs.lemmas.Slice.Eq.{bytes_eq-Decides}
use Rattle.std.specs.Cmp.Derive.{both_true}
use Rattle.bed_lang.specs.declared.word.Name.{Name}
use Rattle.bed_lang.specs.declared.word.Sort.{Sort}
use Rattle.bed_lang.specs.declared.word.Sort.TheVariants as sort
use Rattle.bed_lang.specs.declared.word.Var.TheVariants as var
use Rattle.bed_lang.specs.declared.word.Word.{Word, out-Word, roll-Word, out-roll-Word, map-Word, ind-Word}
use Rattle.bed_lang.specs.declared.word.Word.TheOpen.{Word-F}
use Rattle.bed_lang.specs.declared.word.Seq.{Seq, out-Seq, roll-Seq, out-roll-Seq, map-Seq, ind-Seq}
use Rattle.bed_lang.specs.declared.word.Seq.TheOpen.{Seq-F}
use Rattle.bed_lang.specs.declared.logic.Arg.TheVariants as arg
use Rattle.bed_lang.specs.declared.logic.Pure.TheVariants as pure
use Rattle.bed_lang.specs.declared.logic.Atom.TheVariants as atom
use Rattle.bed_lang.specs.declared.logic.Term.TheVariants as term
use Rattle.bed_lang.specs.declared.logic.Assertion.{Assertion}
use Rattle.bed_lang.specs.declared.module.Operand.{Operand}
use Rattle.bed_lang.specs.declared.module.Operand.TheVariants as operand
use Rattle.bed_lang.specs.declared.module.Op.{Op}
use Rattle.bed_lang.specs.declared.module.Op.TheVariants as op
use Rattle.bed_lang.specs.declared.module.Rel.{Rel}
use Rattle.bed_lang.specs.declared.module.Rel.TheVariants as rel
use Rattle.bed_lang.specs.declared.module.Place.{Place}
use Rattle.bed_lang.specs.declared.module.Test.{Test}
use Rattle.bed_lang.specs.declared.module.Hint.{Hint}
use Rattle.bed_lang.specs.declared.module.Hint.TheVariants as hint
use Rattle.bed_lang.specs.declared.module.Join.{Join}
use Rattle.bed_lang.specs.declared.statement.Stmt.{Stmt, ind-Stmt, fold-roll-Stmt}
use Rattle.bed_lang.specs.declared.statement.StmtKind.{StmtKind, StmtKind-F, out-StmtKind, roll-StmtKind, out-roll-StmtKind, map-StmtKind, ind-StmtKind, fold-roll-StmtKind}
use Rattle.bed_lang.specs.Same.{same_option, same_flag, same_sort, same_name, same_var, same_word_layer, same_word, same_seq_layer, same_seq, same_arg, same_pure, same_atom, same_term, same_bind, same_assertion, same_operand, same_op, same_rel, same_signature, same_predicate, same_import, same_place, same_test, same_hint, same_join, accepts_all, same_kind_layer, same_kind_step, same_stmt_step, same_kind, same_stmt, same_function, same_module}
use Rattle.bed_lang.proofs.RollLaws.{same_word-roll, same_seq-roll}
use Rattle.bed_print.proofs.Places.{bare_option, bare_name, bare_var, bare_word, bare_seq, bare_arg, bare_pure, bare_atom, bare_term, bare_bind, bare_assertion, bare_operand, bare_place, bare_test, bare_hint, bare_join, bare_kind_step, bare_stmt_step, bare_stmt_kind, bare_stmt, bare_signature, bare_predicate, bare_import, bare_function, bare_module}
use Rattle.bed_print.proofs.BareRolls.{bare_word_layer, bare_word-roll, bare_seq_layer, bare_seq-roll, bare_kind_layer, bare_below, bare_kind-roll}
use Rattle.bed_print.proofs.StmtTrees.{bare_stmt-of}

-- a test accepts trees that are equal, places aside
abbrev Accepts : {T : Type 0} → (T → T) → (T → T → Bool) → Type 0
Accepts {T} bare same = (x y : T) → bare x ≡ bare y → same x y ≡ true

lists : {T : Type 0} (bare : T → T) (same : T → T → Bool) → Accepts bare same → (xs ys : List T) → map bare xs ≡ map bare ys → pointwise same xs ys ≡ true
lists bare same h [] [] e = refl
lists bare same h [] (y ∷ ys) e = absurd (cc)
lists bare same h (x ∷ xs) [] e = absurd (cc)
lists bare same h (x ∷ xs) (y ∷ ys) e =
    let head : bare x ≡ bare y = cc in
    let rest : map bare xs ≡ map bare ys = cc in
    both_true (h x y head) (lists bare same h xs ys rest)

options : {T : Type 0} (bare : T → T) (same : T → T → Bool) → Accepts bare same → (x y : Option T) → bare_option bare x ≡ bare_option bare y → same_option same x y ≡ true
options bare same h None None e = refl
options bare same h None (Some y) e = absurd (cc)
options bare same h (Some x) None e = absurd (cc)
options bare same h (Some x) (Some y) e = let inner : bare x ≡ bare y = cc in h x y inner

numbers : (n m : ℕ) → n ≡ m → (n == m) ≡ true
numbers n m e = (unsigned_Decides n m).1 e

names : Accepts bare_name same_name
names x y e = (bytes_eq-Decides x.bytes y.bytes).1 (ap (λ z. z.bytes) e)

sorts : (s t : Sort) → s ≡ t → same_sort s t ≡ true
sorts s t e = subst (λ z. same_sort s z ≡ true) e (itself s)
  where
    itself : (s : Sort) → same_sort s s ≡ true
    itself sort.Word = refl
    itself sort.Seq = refl

ops : (s t : Op) → s ≡ t → same_op s t ≡ true
ops s t e = subst (λ z. same_op s z ≡ true) e (itself s)
  where
    itself : (s : Op) → same_op s s ≡ true
    itself op.Add = refl
    itself op.Sub = refl
    itself op.Mul = refl
    itself op.And = refl
    itself op.Or = refl
    itself op.Xor = refl

rels : (s t : Rel) → s ≡ t → same_rel s t ≡ true
rels s t e = subst (λ z. same_rel s z ≡ true) e (itself s)
  where
    itself : (s : Rel) → same_rel s s ≡ true
    itself rel.Equal = refl
    itself rel.Unequal = refl
    itself rel.Less = refl
    itself rel.AtMost = refl

flags : (a b : Bool) → a ≡ b → same_flag a b ≡ true
flags true true e = refl
flags false false e = refl
flags true false e = absurd (cc)
flags false true e = absurd (cc)

vars : Accepts bare_var same_var
vars (var.Named x0) (var.Named y0) e =
    let e0 : bare_name x0 ≡ bare_name y0 = cc in
    names x0 y0 e0
vars (var.Old x0) (var.Old y0) e =
    let e0 : bare_name x0 ≡ bare_name y0 = cc in
    names x0 y0 e0
vars (var.Answer x0) (var.Answer y0) e = refl
vars (var.Fresh x0) (var.Fresh y0) e =
    let e0 : x0 ≡ y0 = cc in
    numbers x0 y0 e0
vars var.Hole var.Hole e = refl
vars (var.Named x0) _ e = absurd (cc)
vars (var.Old x0) _ e = absurd (cc)
vars (var.Answer x0) _ e = absurd (cc)
vars (var.Fresh x0) _ e = absurd (cc)
vars var.Hole _ e = absurd (cc)

-- ---- words and sequences

-- what setting places to 0 makes of a word's parts
word_parts : (x : Word-F Word) → out-Word (bare_word (roll-Word x)) ≡ bare_word_layer (map-Word Word Word bare_word x)
word_parts x =
    ap out-Word (bare_word-roll x)
    ∙ out-roll-Word (bare_word_layer (map-Word Word Word bare_word x))

abbrev SameWord : Word → Type 0
SameWord a = (b : Word) → bare_word a ≡ bare_word b → same_word a b ≡ true

word_layers : (y : Word-F ((a : Word) × SameWord a)) (z : Word-F Word)
    → bare_word_layer (map-Word Word Word bare_word (map-Word _ _ (λ p. p.0) y)) ≡ bare_word_layer (map-Word Word Word bare_word z)
    → same_word_layer (map-Word Word (Word → Bool) same_word (map-Word _ _ (λ p. p.0) y)) z ≡ true
word_layers (Word-F.Number n) (Word-F.Number m) e = let f : n ≡ m = cc in numbers n m f
word_layers (Word-F.Var x) (Word-F.Var y) e = let f : bare_var x ≡ bare_var y = cc in vars x y f
word_layers (Word-F.Label x) (Word-F.Label y) e = let f : bare_name x ≡ bare_name y = cc in names x y f
word_layers (Word-F.Add a b) (Word-F.Add c d) e =
    let f : bare_word a.0 ≡ bare_word c = cc in
    let g : bare_word b.0 ≡ bare_word d = cc in
    both_true (a.1 c f) (b.1 d g)
word_layers (Word-F.Sub a b) (Word-F.Sub c d) e =
    let f : bare_word a.0 ≡ bare_word c = cc in
    let g : bare_word b.0 ≡ bare_word d = cc in
    both_true (a.1 c f) (b.1 d g)
word_layers (Word-F.Times n a) (Word-F.Times m b) e =
    let f : n ≡ m = cc in
    let g : bare_word a.0 ≡ bare_word b = cc in
    both_true (numbers n m f) (a.1 b g)
word_layers (Word-F.Number n) _ e = absurd (cc)
word_layers (Word-F.Var x) _ e = absurd (cc)
word_layers (Word-F.Label x) _ e = absurd (cc)
word_layers (Word-F.Add a b) _ e = absurd (cc)
word_layers (Word-F.Sub a b) _ e = absurd (cc)
word_layers (Word-F.Times n a) _ e = absurd (cc)

abbrev WordsAgree : Word → Word → Type 0
WordsAgree a b = bare_word a ≡ bare_word b → same_word a b ≡ true

word_step : (y : Word-F ((a : Word) × SameWord a)) (b : Word) → WordsAgree (roll-Word (map-Word _ _ (λ p. p.0) y)) b
word_step y = ind-Word (WordsAgree (roll-Word (map-Word _ _ (λ p. p.0) y))) (λ z pairs f. λ e.
    same_word-roll (map-Word _ _ (λ p. p.0) y) z
    ∙ word_layers y z (sym (word_parts (map-Word _ _ (λ p. p.0) y)) ∙ ap out-Word e ∙ word_parts z))

words : Accepts bare_word same_word
words = ind-Word SameWord (λ x y is. subst (λ (z : Word-F Word). SameWord (roll-Word z)) is (word_step y))

seq_parts : (x : Seq-F Seq) → out-Seq (bare_seq (roll-Seq x)) ≡ bare_seq_layer (map-Seq Seq Seq bare_seq x)
seq_parts x =
    ap out-Seq (bare_seq-roll x)
    ∙ out-roll-Seq (bare_seq_layer (map-Seq Seq Seq bare_seq x))

abbrev SameSeq : Seq → Type 0
SameSeq a = (b : Seq) → bare_seq a ≡ bare_seq b → same_seq a b ≡ true

seq_layers : (y : Seq-F ((a : Seq) × SameSeq a)) (z : Seq-F Seq)
    → bare_seq_layer (map-Seq Seq Seq bare_seq (map-Seq _ _ (λ p. p.0) y)) ≡ bare_seq_layer (map-Seq Seq Seq bare_seq z)
    → same_seq_layer (map-Seq Seq (Seq → Bool) same_seq (map-Seq _ _ (λ p. p.0) y)) z ≡ true
seq_layers (Seq-F.Var x) (Seq-F.Var y) e = let f : bare_var x ≡ bare_var y = cc in vars x y f
seq_layers Seq-F.Nil Seq-F.Nil e = refl
seq_layers (Seq-F.Cons a s) (Seq-F.Cons b t) e =
    let f : bare_word a ≡ bare_word b = cc in
    let g : bare_seq s.0 ≡ bare_seq t = cc in
    both_true (words a b f) (s.1 t g)
seq_layers (Seq-F.App r s) (Seq-F.App t u) e =
    let f : bare_seq r.0 ≡ bare_seq t = cc in
    let g : bare_seq s.0 ≡ bare_seq u = cc in
    both_true (r.1 t f) (s.1 u g)
seq_layers (Seq-F.Var x) _ e = absurd (cc)
seq_layers Seq-F.Nil _ e = absurd (cc)
seq_layers (Seq-F.Cons a s) _ e = absurd (cc)
seq_layers (Seq-F.App r s) _ e = absurd (cc)

abbrev SeqsAgree : Seq → Seq → Type 0
SeqsAgree a b = bare_seq a ≡ bare_seq b → same_seq a b ≡ true

seq_step : (y : Seq-F ((a : Seq) × SameSeq a)) (b : Seq) → SeqsAgree (roll-Seq (map-Seq _ _ (λ p. p.0) y)) b
seq_step y = ind-Seq (SeqsAgree (roll-Seq (map-Seq _ _ (λ p. p.0) y))) (λ z pairs f. λ e.
    same_seq-roll (map-Seq _ _ (λ p. p.0) y) z
    ∙ seq_layers y z (sym (seq_parts (map-Seq _ _ (λ p. p.0) y)) ∙ ap out-Seq e ∙ seq_parts z))

seqs : Accepts bare_seq same_seq
seqs = ind-Seq SameSeq (λ x y is. subst (λ (z : Seq-F Seq). SameSeq (roll-Seq z)) is (seq_step y))

-- ---- assertions and their parts

args : Accepts bare_arg same_arg
args (arg.Word x0 x1) (arg.Word y0 y1) e =
    let e1 : bare_word x1 ≡ bare_word y1 = cc in
    words x1 y1 e1
args (arg.Seq x0 x1) (arg.Seq y0 y1) e =
    let e1 : bare_seq x1 ≡ bare_seq y1 = cc in
    seqs x1 y1 e1
args (arg.Bare x0) (arg.Bare y0) e =
    let e0 : bare_name x0 ≡ bare_name y0 = cc in
    names x0 y0 e0
args (arg.Word x0 x1) _ e = absurd (cc)
args (arg.Seq x0 x1) _ e = absurd (cc)
args (arg.Bare x0) _ e = absurd (cc)

pures : Accepts bare_pure same_pure
pures (pure.Equal x0 x1) (pure.Equal y0 y1) e =
    let e0 : bare_word x0 ≡ bare_word y0 = cc in
    let e1 : bare_word x1 ≡ bare_word y1 = cc in
    both_true (words x0 y0 e0) (words x1 y1 e1)
pures (pure.Unequal x0 x1) (pure.Unequal y0 y1) e =
    let e0 : bare_word x0 ≡ bare_word y0 = cc in
    let e1 : bare_word x1 ≡ bare_word y1 = cc in
    both_true (words x0 y0 e0) (words x1 y1 e1)
pures (pure.Less x0 x1) (pure.Less y0 y1) e =
    let e0 : bare_word x0 ≡ bare_word y0 = cc in
    let e1 : bare_word x1 ≡ bare_word y1 = cc in
    both_true (words x0 y0 e0) (words x1 y1 e1)
pures (pure.AtMost x0 x1) (pure.AtMost y0 y1) e =
    let e0 : bare_word x0 ≡ bare_word y0 = cc in
    let e1 : bare_word x1 ≡ bare_word y1 = cc in
    both_true (words x0 y0 e0) (words x1 y1 e1)
pures (pure.Same x0 x1) (pure.Same y0 y1) e =
    let e0 : bare_seq x0 ≡ bare_seq y0 = cc in
    let e1 : bare_seq x1 ≡ bare_seq y1 = cc in
    both_true (seqs x0 y0 e0) (seqs x1 y1 e1)
pures (pure.Member x0 x1) (pure.Member y0 y1) e =
    let e0 : bare_word x0 ≡ bare_word y0 = cc in
    let e1 : bare_seq x1 ≡ bare_seq y1 = cc in
    both_true (words x0 y0 e0) (seqs x1 y1 e1)
pures (pure.NonMember x0 x1) (pure.NonMember y0 y1) e =
    let e0 : bare_word x0 ≡ bare_word y0 = cc in
    let e1 : bare_seq x1 ≡ bare_seq y1 = cc in
    both_true (words x0 y0 e0) (seqs x1 y1 e1)
pures (pure.Code x0 x1) (pure.Code y0 y1) e =
    let e0 : bare_word x0 ≡ bare_word y0 = cc in
    let e1 : bare_name x1 ≡ bare_name y1 = cc in
    both_true (words x0 y0 e0) (names x1 y1 e1)
pures (pure.Equal x0 x1) _ e = absurd (cc)
pures (pure.Unequal x0 x1) _ e = absurd (cc)
pures (pure.Less x0 x1) _ e = absurd (cc)
pures (pure.AtMost x0 x1) _ e = absurd (cc)
pures (pure.Same x0 x1) _ e = absurd (cc)
pures (pure.Member x0 x1) _ e = absurd (cc)
pures (pure.NonMember x0 x1) _ e = absurd (cc)
pures (pure.Code x0 x1) _ e = absurd (cc)

atoms : Accepts bare_atom same_atom
atoms (atom.Cell x0 x1) (atom.Cell y0 y1) e =
    let e0 : bare_word x0 ≡ bare_word y0 = cc in
    let e1 : bare_word x1 ≡ bare_word y1 = cc in
    both_true (words x0 y0 e0) (words x1 y1 e1)
atoms (atom.Byte x0 x1) (atom.Byte y0 y1) e =
    let e0 : bare_word x0 ≡ bare_word y0 = cc in
    let e1 : bare_word x1 ≡ bare_word y1 = cc in
    both_true (words x0 y0 e0) (words x1 y1 e1)
atoms (atom.Block x0 x1) (atom.Block y0 y1) e =
    let e0 : bare_word x0 ≡ bare_word y0 = cc in
    let e1 : bare_word x1 ≡ bare_word y1 = cc in
    both_true (words x0 y0 e0) (words x1 y1 e1)
atoms (atom.Pred x0 x1) (atom.Pred y0 y1) e =
    let e0 : bare_name x0 ≡ bare_name y0 = cc in
    let e1 : map bare_arg x1 ≡ map bare_arg y1 = cc in
    both_true (names x0 y0 e0) (lists bare_arg same_arg args x1 y1 e1)
atoms (atom.Cell x0 x1) _ e = absurd (cc)
atoms (atom.Byte x0 x1) _ e = absurd (cc)
atoms (atom.Block x0 x1) _ e = absurd (cc)
atoms (atom.Pred x0 x1) _ e = absurd (cc)

terms : Accepts bare_term same_term
terms term.Emp term.Emp e = refl
terms (term.Pure x0) (term.Pure y0) e =
    let e0 : bare_pure x0 ≡ bare_pure y0 = cc in
    pures x0 y0 e0
terms (term.Atom x0) (term.Atom y0) e =
    let e0 : bare_atom x0 ≡ bare_atom y0 = cc in
    atoms x0 y0 e0
terms term.Emp _ e = absurd (cc)
terms (term.Pure x0) _ e = absurd (cc)
terms (term.Atom x0) _ e = absurd (cc)

binds : Accepts bare_bind same_bind
binds x y e = both_true (names x.name y.name (ap (λ z. z.name) e)) (sorts x.sort y.sort (ap (λ z. z.sort) e))

assertions : Accepts bare_assertion same_assertion
assertions x y e =
    both_true (lists bare_bind same_bind binds x.binders y.binders (ap (λ z. z.binders) e)) (lists bare_term same_term terms x.terms y.terms (ap (λ z. z.terms) e))

-- ---- statements

operands : Accepts bare_operand same_operand
operands (operand.Number x0) (operand.Number y0) e =
    let e0 : x0 ≡ y0 = cc in
    numbers x0 y0 e0
operands (operand.Local x0) (operand.Local y0) e =
    let e0 : bare_name x0 ≡ bare_name y0 = cc in
    names x0 y0 e0
operands (operand.Label x0) (operand.Label y0) e =
    let e0 : bare_name x0 ≡ bare_name y0 = cc in
    names x0 y0 e0
operands (operand.Number x0) _ e = absurd (cc)
operands (operand.Local x0) _ e = absurd (cc)
operands (operand.Label x0) _ e = absurd (cc)

places : Accepts bare_place same_place
places x y e = both_true (operands x.base y.base (ap (λ z. z.base) e)) (numbers x.disp y.disp (ap (λ z. z.disp) e))

tests : Accepts bare_test same_test
tests x y e =
    both_true (rels x.rel y.rel (ap (λ z. z.rel) e)) (both_true (operands x.left y.left (ap (λ z. z.left) e)) (operands x.right y.right (ap (λ z. z.right) e)))

joins : Accepts bare_join same_join
joins x y e = assertions x.assertion y.assertion (ap (λ z. z.assertion) e)

hints : Accepts bare_hint same_hint
hints (hint.Unfold x0 x1) (hint.Unfold y0 y1) e =
    let e0 : bare_name x0 ≡ bare_name y0 = cc in
    let e1 : bare_option bare_word x1 ≡ bare_option bare_word y1 = cc in
    both_true (names x0 y0 e0) (options bare_word same_word words x1 y1 e1)
hints (hint.Fold x0 x1 x2) (hint.Fold y0 y1 y2) e =
    let e0 : bare_name x0 ≡ bare_name y0 = cc in
    let e1 : map bare_arg x1 ≡ map bare_arg y1 = cc in
    let e2 : x2 ≡ y2 = cc in
    both_true (names x0 y0 e0) (both_true (lists bare_arg same_arg args x1 y1 e1) (numbers x2 y2 e2))
hints (hint.Append x0) (hint.Append y0) e =
    let e0 : bare_word x0 ≡ bare_word y0 = cc in
    words x0 y0 e0
hints (hint.Divide x0 x1) (hint.Divide y0 y1) e =
    let e0 : bare_word x0 ≡ bare_word y0 = cc in
    let e1 : bare_word x1 ≡ bare_word y1 = cc in
    both_true (words x0 y0 e0) (words x1 y1 e1)
hints (hint.Merge x0 x1) (hint.Merge y0 y1) e =
    let e0 : bare_word x0 ≡ bare_word y0 = cc in
    let e1 : bare_word x1 ≡ bare_word y1 = cc in
    both_true (words x0 y0 e0) (words x1 y1 e1)
hints (hint.Bytes x0) (hint.Bytes y0) e =
    let e0 : bare_word x0 ≡ bare_word y0 = cc in
    words x0 y0 e0
hints (hint.Word x0) (hint.Word y0) e =
    let e0 : bare_word x0 ≡ bare_word y0 = cc in
    words x0 y0 e0
hints (hint.Cell x0) (hint.Cell y0) e =
    let e0 : bare_word x0 ≡ bare_word y0 = cc in
    words x0 y0 e0
hints (hint.Uncell x0) (hint.Uncell y0) e =
    let e0 : bare_word x0 ≡ bare_word y0 = cc in
    words x0 y0 e0
hints (hint.Drop x0) (hint.Drop y0) e =
    let e0 : bare_word x0 ≡ bare_word y0 = cc in
    words x0 y0 e0
hints (hint.Claim x0) (hint.Claim y0) e =
    let e0 : bare_pure x0 ≡ bare_pure y0 = cc in
    pures x0 y0 e0
hints (hint.When x0) (hint.When y0) e =
    let e0 : bare_pure x0 ≡ bare_pure y0 = cc in
    pures x0 y0 e0
hints (hint.Give x0 x1) (hint.Give y0 y1) e =
    let e0 : bare_name x0 ≡ bare_name y0 = cc in
    let e1 : bare_arg x1 ≡ bare_arg y1 = cc in
    both_true (names x0 y0 e0) (args x1 y1 e1)
hints (hint.Unfold x0 x1) _ e = absurd (cc)
hints (hint.Fold x0 x1 x2) _ e = absurd (cc)
hints (hint.Append x0) _ e = absurd (cc)
hints (hint.Divide x0 x1) _ e = absurd (cc)
hints (hint.Merge x0 x1) _ e = absurd (cc)
hints (hint.Bytes x0) _ e = absurd (cc)
hints (hint.Word x0) _ e = absurd (cc)
hints (hint.Cell x0) _ e = absurd (cc)
hints (hint.Uncell x0) _ e = absurd (cc)
hints (hint.Drop x0) _ e = absurd (cc)
hints (hint.Claim x0) _ e = absurd (cc)
hints (hint.When x0) _ e = absurd (cc)
hints (hint.Give x0 x1) _ e = absurd (cc)

-- two layers that are equal have equal parts
abbrev Layer : Type 0
Layer = StmtKind-F StmtKind Stmt

parts-Assign : (x0 y0 : Name) (x1 y1 : Operand) → ◌≡◌ {A = Layer} (StmtKind-F.Assign x0 x1) (StmtKind-F.Assign y0 y1) → (x0 ≡ y0) × (x1 ≡ y1)
parts-Assign x0 y0 x1 y1 e = (cc, cc)

parts-Compute : (x0 y0 : Name) (x1 y1 : Op) (x2 y2 : Operand) (x3 y3 : Operand) → ◌≡◌ {A = Layer} (StmtKind-F.Compute x0 x1 x2 x3) (StmtKind-F.Compute y0 y1 y2 y3) → (x0 ≡ y0) × (x1 ≡ y1) × (x2 ≡ y2) × (x3 ≡ y3)
parts-Compute x0 y0 x1 y1 x2 y2 x3 y3 e = (cc, cc, cc, cc)

parts-Load : (x0 y0 : Name) (x1 y1 : Place) → ◌≡◌ {A = Layer} (StmtKind-F.Load x0 x1) (StmtKind-F.Load y0 y1) → (x0 ≡ y0) × (x1 ≡ y1)
parts-Load x0 y0 x1 y1 e = (cc, cc)

parts-LoadByte : (x0 y0 : Name) (x1 y1 : Place) → ◌≡◌ {A = Layer} (StmtKind-F.LoadByte x0 x1) (StmtKind-F.LoadByte y0 y1) → (x0 ≡ y0) × (x1 ≡ y1)
parts-LoadByte x0 y0 x1 y1 e = (cc, cc)

parts-Store : (x0 y0 : Place) (x1 y1 : Operand) → ◌≡◌ {A = Layer} (StmtKind-F.Store x0 x1) (StmtKind-F.Store y0 y1) → (x0 ≡ y0) × (x1 ≡ y1)
parts-Store x0 y0 x1 y1 e = (cc, cc)

parts-StoreByte : (x0 y0 : Place) (x1 y1 : Operand) → ◌≡◌ {A = Layer} (StmtKind-F.StoreByte x0 x1) (StmtKind-F.StoreByte y0 y1) → (x0 ≡ y0) × (x1 ≡ y1)
parts-StoreByte x0 y0 x1 y1 e = (cc, cc)

parts-Call : (x0 y0 : ℕ) (x1 y1 : Name) (x2 y2 : Operand) (x3 y3 : Option Name) (x4 y4 : List Operand) (x5 y5 : List Hint) (x6 y6 : Assertion) → ◌≡◌ {A = Layer} (StmtKind-F.Call x0 x1 x2 x3 x4 x5 x6) (StmtKind-F.Call y0 y1 y2 y3 y4 y5 y6) → (x0 ≡ y0) × (x1 ≡ y1) × (x2 ≡ y2) × (x3 ≡ y3) × (x4 ≡ y4) × (x5 ≡ y5) × (x6 ≡ y6)
parts-Call x0 y0 x1 y1 x2 y2 x3 y3 x4 y4 x5 y5 x6 y6 e = (cc, cc, cc, cc, cc, cc, cc)

parts-If : (x0 y0 : Test) (x1 y1 : List Stmt) (x2 y2 : List Stmt) (x3 y3 : Option Join) → ◌≡◌ {A = Layer} (StmtKind-F.If x0 x1 x2 x3) (StmtKind-F.If y0 y1 y2 y3) → (x0 ≡ y0) × (x1 ≡ y1) × (x2 ≡ y2) × (x3 ≡ y3)
parts-If x0 y0 x1 y1 x2 y2 x3 y3 e = (cc, cc, cc, cc)

parts-While : (x0 y0 : Test) (x1 y1 : ℕ) (x2 y2 : Assertion) (x3 y3 : List Stmt) → ◌≡◌ {A = Layer} (StmtKind-F.While x0 x1 x2 x3) (StmtKind-F.While y0 y1 y2 y3) → (x0 ≡ y0) × (x1 ≡ y1) × (x2 ≡ y2) × (x3 ≡ y3)
parts-While x0 y0 x1 y1 x2 y2 x3 y3 e = (cc, cc, cc, cc)

parts-Return : (x0 y0 : Operand) → ◌≡◌ {A = Layer} (StmtKind-F.Return x0) (StmtKind-F.Return y0) → (x0 ≡ y0)
parts-Return x0 y0 e = cc

parts-Hint : (x0 y0 : Hint) → ◌≡◌ {A = Layer} (StmtKind-F.Hint x0) (StmtKind-F.Hint y0) → (x0 ≡ y0)
parts-Hint x0 y0 e = cc

parts-Find : (x0 y0 : Name) (x1 y1 : Name) (x2 y2 : Operand) (x3 y3 : Name) (x4 y4 : Seq) (x5 y5 : Name) (x6 y6 : Name) (x7 y7 : Assertion) (x8 y8 : List Stmt) → ◌≡◌ {A = Layer} (StmtKind-F.Find x0 x1 x2 x3 x4 x5 x6 x7 x8) (StmtKind-F.Find y0 y1 y2 y3 y4 y5 y6 y7 y8) → (x0 ≡ y0) × (x1 ≡ y1) × (x2 ≡ y2) × (x3 ≡ y3) × (x4 ≡ y4) × (x5 ≡ y5) × (x6 ≡ y6) × (x7 ≡ y7) × (x8 ≡ y8)
parts-Find x0 y0 x1 y1 x2 y2 x3 y3 x4 y4 x5 y5 x6 y6 x7 y7 x8 y8 e = (cc, cc, cc, cc, cc, cc, cc, cc, cc)

parts-Walk : (x0 y0 : Name) (x1 y1 : Name) (x2 y2 : Name) (x3 y3 : Seq) (x4 y4 : Name) (x5 y5 : Name) (x6 y6 : Assertion) (x7 y7 : List Stmt) → ◌≡◌ {A = Layer} (StmtKind-F.Walk x0 x1 x2 x3 x4 x5 x6 x7) (StmtKind-F.Walk y0 y1 y2 y3 y4 y5 y6 y7) → (x0 ≡ y0) × (x1 ≡ y1) × (x2 ≡ y2) × (x3 ≡ y3) × (x4 ≡ y4) × (x5 ≡ y5) × (x6 ≡ y6) × (x7 ≡ y7)
parts-Walk x0 y0 x1 y1 x2 y2 x3 y3 x4 y4 x5 y5 x6 y6 x7 y7 e = (cc, cc, cc, cc, cc, cc, cc, cc)

-- the number of a variant
abbrev tag : Layer → ℕ
tag (StmtKind-F.Assign x0 x1) = 0
tag (StmtKind-F.Compute x0 x1 x2 x3) = 1
tag (StmtKind-F.Load x0 x1) = 2
tag (StmtKind-F.LoadByte x0 x1) = 3
tag (StmtKind-F.Store x0 x1) = 4
tag (StmtKind-F.StoreByte x0 x1) = 5
tag (StmtKind-F.Call x0 x1 x2 x3 x4 x5 x6) = 6
tag (StmtKind-F.If x0 x1 x2 x3) = 7
tag (StmtKind-F.While x0 x1 x2 x3) = 8
tag (StmtKind-F.Return x0) = 9
tag (StmtKind-F.Hint x0) = 10
tag (StmtKind-F.Find x0 x1 x2 x3 x4 x5 x6 x7 x8) = 11
tag (StmtKind-F.Walk x0 x1 x2 x3 x4 x5 x6 x7) = 12

apart : {A : Type 0} → ◌≡◌ {A = Bool} true false → A
apart e = absurd (cc)

kind_parts : (x : StmtKind-F StmtKind Stmt) → out-StmtKind (bare_stmt_kind (roll-StmtKind x)) ≡ bare_kind_layer (bare_below x)
kind_parts x =
    ap out-StmtKind (bare_kind-roll x)
    ∙ out-roll-StmtKind (bare_kind_layer (bare_below x))

abbrev test_below : StmtKind-F StmtKind Stmt → StmtKind-F (StmtKind → Bool) (Stmt → Bool)
test_below = map-StmtKind StmtKind Stmt (StmtKind → Bool) (Stmt → Bool) same_kind same_stmt

kind_test : (x z : StmtKind-F StmtKind Stmt) → same_kind (roll-StmtKind x) (roll-StmtKind z) ≡ same_kind_layer (test_below x) z
kind_test x z =
    ap (λ f. f (roll-StmtKind z)) (fold-roll-StmtKind (StmtKind → Bool) (Stmt → Bool) same_kind_step same_stmt_step x)
    ∙ ap (same_kind_layer (test_below x)) (out-roll-StmtKind z)

abbrev SameKind : StmtKind → Type 0
SameKind a = (b : StmtKind) → bare_stmt_kind a ≡ bare_stmt_kind b → same_kind a b ≡ true

abbrev SameStmt : Stmt → Type 0
SameStmt a = (b : Stmt) → bare_stmt a ≡ bare_stmt b → same_stmt a b ≡ true

abbrev Kinds : Type 0
Kinds = (a : StmtKind) × SameKind a

abbrev Stmts : Type 0
Stmts = (a : Stmt) × SameStmt a

abbrev trees : StmtKind-F Kinds Stmts → StmtKind-F StmtKind Stmt
trees = map-StmtKind Kinds Stmts StmtKind Stmt (λ p. p.0) (λ p. p.0)

abbrev trees_of : List Stmts → List Stmt
trees_of = map (λ p. p.0)

bodies : (xs : List Stmts) (ys : List Stmt) → map bare_stmt (trees_of xs) ≡ map bare_stmt ys → accepts_all (map same_stmt (trees_of xs)) ys ≡ true
bodies [] [] e = refl
bodies [] (y ∷ ys) e = absurd (cc)
bodies (x ∷ xs) [] e = absurd (cc)
bodies (x ∷ xs) (y ∷ ys) e =
    let head : bare_stmt x.0 ≡ bare_stmt y = cc in
    let rest : map bare_stmt (trees_of xs) ≡ map bare_stmt ys = cc in
    both_true (x.1 y head) (bodies xs ys rest)

kind_layers : (y : StmtKind-F Kinds Stmts) (z : StmtKind-F StmtKind Stmt) → bare_kind_layer (bare_below (trees y)) ≡ bare_kind_layer (bare_below z)
    → same_kind_layer (test_below (trees y)) z ≡ true
kind_layers (StmtKind-F.Assign x0 x1) (StmtKind-F.Assign y0 y1) e =
    let p = parts-Assign (bare_name x0) (bare_name y0) (bare_operand x1) (bare_operand y1) e in
    both_true (names x0 y0 p.0) (operands x1 y1 p.1)
kind_layers (StmtKind-F.Compute x0 x1 x2 x3) (StmtKind-F.Compute y0 y1 y2 y3) e =
    let p = parts-Compute (bare_name x0) (bare_name y0) x1 y1 (bare_operand x2) (bare_operand y2) (bare_operand x3) (bare_operand y3) e in
    both_true (names x0 y0 p.0) (both_true (ops x1 y1 p.1) (both_true (operands x2 y2 p.2) (operands x3 y3 p.3)))
kind_layers (StmtKind-F.Load x0 x1) (StmtKind-F.Load y0 y1) e =
    let p = parts-Load (bare_name x0) (bare_name y0) (bare_place x1) (bare_place y1) e in
    both_true (names x0 y0 p.0) (places x1 y1 p.1)
kind_layers (StmtKind-F.LoadByte x0 x1) (StmtKind-F.LoadByte y0 y1) e =
    let p = parts-LoadByte (bare_name x0) (bare_name y0) (bare_place x1) (bare_place y1) e in
    both_true (names x0 y0 p.0) (places x1 y1 p.1)
kind_layers (StmtKind-F.Store x0 x1) (StmtKind-F.Store y0 y1) e =
    let p = parts-Store (bare_place x0) (bare_place y0) (bare_operand x1) (bare_operand y1) e in
    both_true (places x0 y0 p.0) (operands x1 y1 p.1)
kind_layers (StmtKind-F.StoreByte x0 x1) (StmtKind-F.StoreByte y0 y1) e =
    let p = parts-StoreByte (bare_place x0) (bare_place y0) (bare_operand x1) (bare_operand y1) e in
    both_true (places x0 y0 p.0) (operands x1 y1 p.1)
kind_layers (StmtKind-F.Call x0 x1 x2 x3 x4 x5 x6) (StmtKind-F.Call y0 y1 y2 y3 y4 y5 y6) e =
    let p = parts-Call 0 0 (bare_name x1) (bare_name y1) (bare_operand x2) (bare_operand y2) (bare_option bare_name x3) (bare_option bare_name y3) (map bare_operand x4) (map bare_operand y4) (map bare_hint x5) (map bare_hint y5) (bare_assertion x6) (bare_assertion y6) e in
    both_true (names x1 y1 p.1) (both_true (operands x2 y2 p.2) (both_true (options bare_name same_name names x3 y3 p.3) (both_true (lists bare_operand same_operand operands x4 y4 p.4) (both_true (lists bare_hint same_hint hints x5 y5 p.5) (assertions x6 y6 p.6)))))
kind_layers (StmtKind-F.If x0 x1 x2 x3) (StmtKind-F.If y0 y1 y2 y3) e =
    let p = parts-If (bare_test x0) (bare_test y0) (map bare_stmt (trees_of x1)) (map bare_stmt y1) (map bare_stmt (trees_of x2)) (map bare_stmt y2) (bare_option bare_join x3) (bare_option bare_join y3) e in
    both_true (tests x0 y0 p.0) (both_true (bodies x1 y1 p.1) (both_true (bodies x2 y2 p.2) (options bare_join same_join joins x3 y3 p.3)))
kind_layers (StmtKind-F.While x0 x1 x2 x3) (StmtKind-F.While y0 y1 y2 y3) e =
    let p = parts-While (bare_test x0) (bare_test y0) 0 0 (bare_assertion x2) (bare_assertion y2) (map bare_stmt (trees_of x3)) (map bare_stmt y3) e in
    both_true (tests x0 y0 p.0) (both_true (assertions x2 y2 p.2) (bodies x3 y3 p.3))
kind_layers (StmtKind-F.Return x0) (StmtKind-F.Return y0) e =
    let p = parts-Return (bare_operand x0) (bare_operand y0) e in
    operands x0 y0 p
kind_layers (StmtKind-F.Hint x0) (StmtKind-F.Hint y0) e =
    let p = parts-Hint (bare_hint x0) (bare_hint y0) e in
    hints x0 y0 p
kind_layers (StmtKind-F.Find x0 x1 x2 x3 x4 x5 x6 x7 x8) (StmtKind-F.Find y0 y1 y2 y3 y4 y5 y6 y7 y8) e =
    let p = parts-Find (bare_name x0) (bare_name y0) (bare_name x1) (bare_name y1) (bare_operand x2) (bare_operand y2) (bare_name x3) (bare_name y3) (bare_seq x4) (bare_seq y4) (bare_name x5) (bare_name y5) (bare_name x6) (bare_name y6) (bare_assertion x7) (bare_assertion y7) (map bare_stmt (trees_of x8)) (map bare_stmt y8) e in
    both_true (both_true (names x0 y0 p.0) (both_true (names x1 y1 p.1) (both_true (names x3 y3 p.3) (both_true (seqs x4 y4 p.4) (both_true (names x5 y5 p.5) (both_true (names x6 y6 p.6) (assertions x7 y7 p.7))))))) (both_true (operands x2 y2 p.2) (bodies x8 y8 p.8))
kind_layers (StmtKind-F.Walk x0 x1 x2 x3 x4 x5 x6 x7) (StmtKind-F.Walk y0 y1 y2 y3 y4 y5 y6 y7) e =
    let p = parts-Walk (bare_name x0) (bare_name y0) (bare_name x1) (bare_name y1) (bare_name x2) (bare_name y2) (bare_seq x3) (bare_seq y3) (bare_name x4) (bare_name y4) (bare_name x5) (bare_name y5) (bare_assertion x6) (bare_assertion y6) (map bare_stmt (trees_of x7)) (map bare_stmt y7) e in
    both_true (both_true (names x0 y0 p.0) (both_true (names x1 y1 p.1) (both_true (names x2 y2 p.2) (both_true (seqs x3 y3 p.3) (both_true (names x4 y4 p.4) (both_true (names x5 y5 p.5) (assertions x6 y6 p.6))))))) (bodies x7 y7 p.7)
kind_layers (StmtKind-F.Assign x0 x1) _ e = apart (ap (λ z. nat_eq (tag z) 0) e)
kind_layers (StmtKind-F.Compute x0 x1 x2 x3) _ e = apart (ap (λ z. nat_eq (tag z) 1) e)
kind_layers (StmtKind-F.Load x0 x1) _ e = apart (ap (λ z. nat_eq (tag z) 2) e)
kind_layers (StmtKind-F.LoadByte x0 x1) _ e = apart (ap (λ z. nat_eq (tag z) 3) e)
kind_layers (StmtKind-F.Store x0 x1) _ e = apart (ap (λ z. nat_eq (tag z) 4) e)
kind_layers (StmtKind-F.StoreByte x0 x1) _ e = apart (ap (λ z. nat_eq (tag z) 5) e)
kind_layers (StmtKind-F.Call x0 x1 x2 x3 x4 x5 x6) _ e = apart (ap (λ z. nat_eq (tag z) 6) e)
kind_layers (StmtKind-F.If x0 x1 x2 x3) _ e = apart (ap (λ z. nat_eq (tag z) 7) e)
kind_layers (StmtKind-F.While x0 x1 x2 x3) _ e = apart (ap (λ z. nat_eq (tag z) 8) e)
kind_layers (StmtKind-F.Return x0) _ e = apart (ap (λ z. nat_eq (tag z) 9) e)
kind_layers (StmtKind-F.Hint x0) _ e = apart (ap (λ z. nat_eq (tag z) 10) e)
kind_layers (StmtKind-F.Find x0 x1 x2 x3 x4 x5 x6 x7 x8) _ e = apart (ap (λ z. nat_eq (tag z) 11) e)
kind_layers (StmtKind-F.Walk x0 x1 x2 x3 x4 x5 x6 x7) _ e = apart (ap (λ z. nat_eq (tag z) 12) e)

abbrev KindsAgree : StmtKind → StmtKind → Type 0
KindsAgree a b = bare_stmt_kind a ≡ bare_stmt_kind b → same_kind a b ≡ true

kind_step : (y : StmtKind-F Kinds Stmts) (b : StmtKind) → KindsAgree (roll-StmtKind (trees y)) b
kind_step y = ind-StmtKind (KindsAgree (roll-StmtKind (trees y))) (λ s. Unit {0})
    (λ z pairs f. λ e. kind_test (trees y) z ∙ kind_layers y z (sym (kind_parts (trees y)) ∙ ap out-StmtKind e ∙ kind_parts z))
    (λ z pairs f. tt)

abbrev kind_of : Stmt → StmtKind
kind_of s = s.kind

stmts : Accepts bare_stmt same_stmt
stmts =
    ind-Stmt SameKind SameStmt
    (λ x y is. subst (λ (z : StmtKind-F StmtKind Stmt). SameKind (roll-StmtKind z)) is (kind_step y))
    (λ x y is. λ t e.
    ap (λ f. f t) (fold-roll-Stmt (StmtKind → Bool) (Stmt → Bool) same_kind_step same_stmt_step x)
    ∙ subst (λ z. SameKind z.kind) is y.kind.1 t.kind
    (ap kind_of (sym (fold-roll-Stmt StmtKind Stmt bare_kind_step bare_stmt_step x) ∙ e ∙ bare_stmt-of t (bare_stmt_kind t.kind) refl)))

body_same : (xs ys : List Stmt) → map bare_stmt xs ≡ map bare_stmt ys → accepts_all (map same_stmt xs) ys ≡ true
body_same [] [] e = refl
body_same [] (y ∷ ys) e = absurd (cc)
body_same (x ∷ xs) [] e = absurd (cc)
body_same (x ∷ xs) (y ∷ ys) e =
    let head : bare_stmt x ≡ bare_stmt y = cc in
    let rest : map bare_stmt xs ≡ map bare_stmt ys = cc in
    both_true (stmts x y head) (body_same xs ys rest)

-- ---- items

signatures : Accepts bare_signature same_signature
signatures x y e =
    both_true (names x.name y.name (ap (λ z. z.name) e)) (both_true (lists bare_name same_name names x.params y.params (ap (λ z. z.params) e))
    (both_true (numbers x.reserve y.reserve (ap (λ z. z.reserve) e)) (both_true (lists bare_bind same_bind binds x.logical y.logical (ap (λ z. z.logical) e))
    (both_true (assertions x.pre y.pre (ap (λ z. z.pre) e)) (assertions x.post y.post (ap (λ z. z.post) e))))))

predicates : Accepts bare_predicate same_predicate
predicates x y e =
    both_true (names x.name y.name (ap (λ z. z.name) e)) (both_true (lists bare_bind same_bind binds x.params y.params (ap (λ z. z.params) e))
    (lists bare_assertion same_assertion assertions x.cases y.cases (ap (λ z. z.cases) e)))

imports : Accepts bare_import same_import
imports x y e = both_true (names x.name y.name (ap (λ z. z.name) e)) (names x.signature y.signature (ap (λ z. z.signature) e))

functions : Accepts bare_function same_function
functions x y e =
    both_true (names x.name y.name (ap (λ z. z.name) e)) (both_true (flags x.exported y.exported (ap (λ z. z.exported) e))
    (both_true (names x.signature y.signature (ap (λ z. z.signature) e)) (both_true (lists bare_name same_name names x.locals y.locals (ap (λ z. z.locals) e))
    (body_same x.body y.body (ap (λ z. z.body) e)))))

-- modules that are equal with every place set to 0 are the same
pub modules : Accepts bare_module same_module
modules x y e =
    both_true (names x.name y.name (ap (λ z. z.name) e))
    (both_true (lists bare_signature same_signature signatures x.signatures y.signatures (ap (λ z. z.signatures) e))
    (both_true (lists bare_predicate same_predicate predicates x.predicates y.predicates (ap (λ z. z.predicates) e))
    (both_true (lists bare_import same_import imports x.imports y.imports (ap (λ z. z.imports) e))
    (lists bare_function same_function functions x.functions y.functions (ap (λ z. z.functions) e)))))
