-- The texts of trees, each on one line: as in a module text, but with no more brackets than its reader needs to follow it.
use Rattle.std.specs.Prelude.{ℕ, nat_eq, Bool, true, false, if◌then◌else◌, List, [], ◌∷◌, ◌++◌, codes}
use Rattle.std.specs.Fmt.{decimal}
use Rattle.bed_lang.specs.declared.word.Name.{Name}
use Rattle.bed_lang.specs.declared.word.Sort.{Sort}
use Rattle.bed_lang.specs.declared.word.Sort.TheVariants as sort
use Rattle.bed_lang.specs.declared.word.Var.{Var}
use Rattle.bed_lang.specs.declared.word.Var.TheVariants as var
use Rattle.bed_lang.specs.declared.word.Word.{Word, fold-Word}
use Rattle.bed_lang.specs.declared.word.Word.TheOpen.{Word-F}
use Rattle.bed_lang.specs.declared.word.Seq.{Seq, fold-Seq}
use Rattle.bed_lang.specs.declared.word.Seq.TheOpen.{Seq-F}
use Rattle.bed_lang.specs.declared.logic.Arg.{Arg}
use Rattle.bed_lang.specs.declared.logic.Arg.TheVariants as arg
use Rattle.bed_lang.specs.declared.logic.Pure.{Pure}
use Rattle.bed_lang.specs.declared.logic.Pure.TheVariants as pure
use Rattle.bed_lang.specs.declared.logic.Atom.{Atom}
use Rattle.bed_lang.specs.declared.logic.Atom.TheVariants as atom
use Rattle.bed_lang.specs.declared.logic.Term.{Term}
use Rattle.bed_lang.specs.declared.logic.Term.TheVariants as term
use Rattle.bed_lang.specs.declared.logic.Bind.{Bind}
use Rattle.bed_lang.specs.declared.logic.Assertion.{Assertion}
use Rattle.bed_lang.specs.declared.module.Operand.{Operand}
use Rattle.bed_lang.specs.declared.module.Operand.TheVariants as operand
use Rattle.bed_lang.specs.declared.module.Op.{Op}
use Rattle.bed_lang.specs.declared.module.Op.TheVariants as op
use Rattle.bed_lang.specs.declared.module.Rel.{Rel}
use Rattle.bed_lang.specs.declared.module.Rel.TheVariants as rel
use Rattle.bed_lang.specs.declared.module.Place.{Place}
use Rattle.bed_lang.specs.declared.module.Test.{Test}

-- items, each after a mark
abbrev pub each_after : List ℕ → {T : Type 0} → (T → List ℕ) → List T → List ℕ
each_after mark f [] = []
each_after mark f (x ∷ xs) = mark ++ (f x ++ each_after mark f xs)

-- items with a mark between each two
abbrev pub parted : List ℕ → {T : Type 0} → (T → List ℕ) → List T → List ℕ
parted mark f [] = []
parted mark f (x ∷ xs) = f x ++ each_after mark f xs

-- items with commas
abbrev pub listed : {T : Type 0} → (T → List ℕ) → List T → List ℕ
listed f xs = parted (codes ", ") f xs

abbrev pub name_text : Name → List ℕ
name_text x = x.bytes

abbrev pub var_text : Var → List ℕ
var_text (var.Named x) = x.bytes
var_text (var.Old x) = codes "old " ++ x.bytes
var_text (var.Answer at) = codes "result"
var_text (var.Fresh n) = codes "#" ++ decimal n
var_text var.Hole = codes "_"

-- A sum or a difference has brackets where it is the right part of another.
abbrev pub opening : Bool → List ℕ
opening right = if right then codes "(" else []

abbrev pub closing : Bool → List ℕ
closing right = if right then codes ")" else []

abbrev pub sum_text : (Bool → List ℕ) → List ℕ → (Bool → List ℕ) → Bool → List ℕ
sum_text a mark b right = opening right ++ (a false ++ (mark ++ (b true ++ closing right)))

abbrev pub word_step : Word-F (Bool → List ℕ) → Bool → List ℕ
word_step (Word-F.Number n) right = decimal n
word_step (Word-F.Var v) right = var_text v
word_step (Word-F.Label f) right = codes "&" ++ f.bytes
word_step (Word-F.Add a b) right = sum_text a (codes " + ") b right
word_step (Word-F.Sub a b) right = sum_text a (codes " - ") b right
word_step (Word-F.Times n a) right = codes "(" ++ (decimal n ++ (codes " * " ++ (a false ++ codes ")")))

-- a word, as the right part of a sum or not
abbrev pub part_text : Word → Bool → List ℕ
part_text = fold-Word (Bool → List ℕ) word_step

abbrev pub word_text : Word → List ℕ
word_text w = part_text w false

abbrev pub seq_step : Seq-F (List ℕ) → List ℕ
seq_step (Seq-F.Var v) = var_text v
seq_step Seq-F.Nil = codes "nil"
seq_step (Seq-F.Cons a s) = codes "cons(" ++ (word_text a ++ (codes ", " ++ (s ++ codes ")")))
seq_step (Seq-F.App s t) = codes "app(" ++ (s ++ (codes ", " ++ (t ++ codes ")")))

abbrev pub seq_text : Seq → List ℕ
seq_text = fold-Seq (List ℕ) seq_step

-- unlike in a module text, a name alone that is a word has no brackets
abbrev pub arg_text : Arg → List ℕ
arg_text (arg.Word at w) = word_text w
arg_text (arg.Seq at s) = seq_text s
arg_text (arg.Bare x) = x.bytes

abbrev pub pure_text : Pure → List ℕ
pure_text (pure.Equal a b) = word_text a ++ (codes " = " ++ word_text b)
pure_text (pure.Unequal a b) = word_text a ++ (codes " != " ++ word_text b)
pure_text (pure.Less a b) = word_text a ++ (codes " < " ++ word_text b)
pure_text (pure.AtMost a b) = word_text a ++ (codes " <= " ++ word_text b)
pure_text (pure.Same s t) = seq_text s ++ (codes " == " ++ seq_text t)
pure_text (pure.Member a s) = word_text a ++ (codes " in " ++ seq_text s)
pure_text (pure.NonMember a s) = word_text a ++ (codes " notin " ++ seq_text s)
pure_text (pure.Code a x) = codes "code(" ++ (word_text a ++ (codes ", " ++ (x.bytes ++ codes ")")))

abbrev pub atom_text : Atom → List ℕ
atom_text (atom.Cell a b) = word_text a ++ (codes " |-> " ++ word_text b)
atom_text (atom.Byte a b) = word_text a ++ (codes " |->b " ++ word_text b)
atom_text (atom.Block a b) = codes "block(" ++ (word_text a ++ (codes ", " ++ (word_text b ++ codes ")")))
atom_text (atom.Pred x xs) = x.bytes ++ (codes "(" ++ (listed arg_text xs ++ codes ")"))

abbrev pub term_text : Term → List ℕ
term_text term.Emp = codes "emp"
term_text (term.Pure p) = codes "[" ++ (pure_text p ++ codes "]")
term_text (term.Atom a) = atom_text a

abbrev pub sort_text : Sort → List ℕ
sort_text sort.Word = codes "word"
sort_text sort.Seq = codes "seq"

abbrev pub bind_text : Bind → List ℕ
bind_text b = b.name.bytes ++ (codes ": " ++ sort_text b.sort)

-- what stands before the terms of an assertion with binders
abbrev pub exists_text : List Bind → List ℕ
exists_text [] = []
exists_text (b ∷ bs) = codes "exists " ++ (listed bind_text (b ∷ bs) ++ codes ". ")

abbrev pub assertion_text : Assertion → List ℕ
assertion_text a = exists_text a.binders ++ parted (codes " * ") term_text a.terms

abbrev pub operand_text : Operand → List ℕ
operand_text (operand.Number n) = decimal n
operand_text (operand.Local x) = x.bytes
operand_text (operand.Label f) = codes "&" ++ f.bytes

abbrev pub op_text : Op → List ℕ
op_text op.Add = codes " + "
op_text op.Sub = codes " - "
op_text op.Mul = codes " * "
op_text op.And = codes " and "
op_text op.Or = codes " or "
op_text op.Xor = codes " xor "

abbrev pub rel_text : Rel → List ℕ
rel_text rel.Equal = codes " = "
rel_text rel.Unequal = codes " != "
rel_text rel.Less = codes " < "
rel_text rel.AtMost = codes " <= "

-- a displacement of 0 is left out
abbrev pub offset_text : ℕ → List ℕ
offset_text n = if nat_eq n 0 then [] else codes " + " ++ decimal n

abbrev pub place_text : Place → List ℕ
place_text p = codes "[" ++ ((operand_text p.base ++ offset_text p.disp) ++ codes "]")

abbrev pub test_text : Test → List ℕ
test_text t = operand_text t.left ++ (rel_text t.rel ++ operand_text t.right)
