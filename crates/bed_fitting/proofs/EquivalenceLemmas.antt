-- To be the same, wherever a tree and its parts stand, is an equivalence of signatures and of predicates.
use Rattle.std.proofs.Common.{◌≡◌, ℕ, Bool, true, false, ◌==◌, ◌&&◌, List, [], ◌∷◌, bytes_eq, refl, sym, ap, ap₂, ◌∙◌, subst}
use Rattle.std.specs.Cmp.{unsigned_Decides}
use Rattle.std.specs.Cmp.Lexicographic.{pointwise}
use Rattle.std.specs.Cmp.Derive.{both_true}
use Rattle.std.proofs.lemmas.Bool.{and_parts}
use Rattle.bed_lang.specs.declared.word.Sort.{Sort}
use Rattle.bed_lang.specs.declared.word.Sort.TheVariants as sort
use Rattle.bed_lang.specs.declared.word.Var.TheVariants as var
use Rattle.bed_lang.specs.declared.word.Word.{Word, roll-Word, map-Word, ind-Word}
use Rattle.bed_lang.specs.declared.word.Word.TheOpen.{Word-F}
use Rattle.bed_lang.specs.declared.word.Seq.{Seq, roll-Seq, map-Seq, ind-Seq}
use Rattle.bed_lang.specs.declared.word.Seq.TheOpen.{Seq-F}
use Rattle.bed_lang.specs.declared.logic.Arg.TheVariants as arg
use Rattle.bed_lang.specs.declared.logic.Pure.TheVariants as pure
use Rattle.bed_lang.specs.declared.logic.Atom.TheVariants as atom
use Rattle.bed_lang.specs.declared.logic.Term.TheVariants as term
use Rattle.bed_lang.specs.Same.{same_sort, same_name, same_var, same_word_layer, same_word, same_seq_layer, same_seq, same_arg, same_pure, same_atom, same_term, same_bind, same_assertion, same_signature, same_predicate}
use Rattle.bed_lang.proofs.RollLaws.{same_word-roll, same_seq-roll}
use Rattle.bed_sat.proofs.FrameLaws.{bytes_eq_is, bytes_eq_same}

-- a tree is the same as itself
abbrev pub Itself : {T : Type 0} → (T → T → Bool) → Type 0
Itself {T} same = (a : T) → same a a ≡ true

-- trees that are the same are the same as the same others
abbrev pub Alike : {T : Type 0} → (T → T → Bool) → Type 0
Alike {T} same = (a b : T) → same a b ≡ true → (c : T) → same a c ≡ same b c

no : {A : Type 0} → ◌≡◌ {A = Bool} false true → A
no e = absurd cc

pairs : (p q r s : Bool) → p ≡ r → q ≡ s → (p && q) ≡ (r && s)
pairs p q r s e f = ap₂ (λ x y. x && y) e f

lists_itself : {T : Type 0} (same : T → T → Bool) → Itself same → (xs : List T) → pointwise same xs xs ≡ true
lists_itself same h [] = refl
lists_itself same h (x ∷ xs) = both_true (h x) (lists_itself same h xs)

lists_alike : {T : Type 0} (same : T → T → Bool) → Alike same → (xs ys : List T) → pointwise same xs ys ≡ true → (zs : List T) → pointwise same xs zs ≡ pointwise same ys zs
lists_alike same h [] [] t zs = refl
lists_alike same h [] (y ∷ ys) t zs = no t
lists_alike same h (x ∷ xs) [] t zs = no t
lists_alike same h (x ∷ xs) (y ∷ ys) t [] = refl
lists_alike same h (x ∷ xs) (y ∷ ys) t (z ∷ zs) =
    let p = and_parts (same x y) (pointwise same xs ys) t in
    pairs (same x z) (pointwise same xs zs) (same y z) (pointwise same ys zs) (h x y p.0 z) (lists_alike same h xs ys p.1 zs)

numbers_itself : (n : ℕ) → (n == n) ≡ true
numbers_itself n = (unsigned_Decides n n).1 refl

numbers_alike : (n m : ℕ) → (n == m) ≡ true → (k : ℕ) → (n == k) ≡ (m == k)
numbers_alike n m t k = ap (λ x. x == k) ((unsigned_Decides n m).0 t)

pub names_itself : Itself same_name
names_itself x = bytes_eq_same x.bytes

pub names_alike : Alike same_name
names_alike x y t z = ap (λ b. bytes_eq b z.bytes) (bytes_eq_is x.bytes y.bytes t)

sorts_itself : (s : Sort) → same_sort s s ≡ true
sorts_itself sort.Word = refl
sorts_itself sort.Seq = refl

sorts_alike : Alike same_sort
sorts_alike sort.Word sort.Word t c = refl
sorts_alike sort.Seq sort.Seq t c = refl
sorts_alike sort.Word sort.Seq t c = no t
sorts_alike sort.Seq sort.Word t c = no t

vars_itself : Itself same_var
vars_itself (var.Named x0) = names_itself x0
vars_itself (var.Old x0) = names_itself x0
vars_itself (var.Answer x0) = refl
vars_itself (var.Fresh x0) = numbers_itself x0
vars_itself var.Hole = refl

vars_alike : Alike same_var
vars_alike (var.Named x0) (var.Named y0) t (var.Named z0) = names_alike x0 y0 t z0
vars_alike (var.Named x0) (var.Named y0) t _ = refl
vars_alike (var.Old x0) (var.Old y0) t (var.Old z0) = names_alike x0 y0 t z0
vars_alike (var.Old x0) (var.Old y0) t _ = refl
vars_alike (var.Answer x0) (var.Answer y0) t (var.Answer z0) = refl
vars_alike (var.Answer x0) (var.Answer y0) t _ = refl
vars_alike (var.Fresh x0) (var.Fresh y0) t (var.Fresh z0) = numbers_alike x0 y0 t z0
vars_alike (var.Fresh x0) (var.Fresh y0) t _ = refl
vars_alike var.Hole var.Hole t c = refl
vars_alike (var.Named x0) _ t c = no t
vars_alike (var.Old x0) _ t c = no t
vars_alike (var.Answer x0) _ t c = no t
vars_alike (var.Fresh x0) _ t c = no t
vars_alike var.Hole _ t c = no t

-- ---- words and sequences

abbrev SameWord : Word → Type 0
SameWord a = same_word a a ≡ true

word_itself : (y : Word-F ((a : Word) × SameWord a)) → same_word_layer (map-Word Word (Word → Bool) same_word (map-Word _ _ (λ p. p.0) y)) (map-Word _ _ (λ p. p.0) y) ≡ true
word_itself (Word-F.Number n) = numbers_itself n
word_itself (Word-F.Var x) = vars_itself x
word_itself (Word-F.Label x) = names_itself x
word_itself (Word-F.Add a b) = both_true a.1 b.1
word_itself (Word-F.Sub a b) = both_true a.1 b.1
word_itself (Word-F.Times n a) = both_true (numbers_itself n) a.1

words_itself : Itself same_word
words_itself =
    ind-Word SameWord (λ x y is.
    subst (λ (z : Word-F Word). SameWord (roll-Word z)) is (same_word-roll (map-Word _ _ (λ p. p.0) y) (map-Word _ _ (λ p. p.0) y) ∙ word_itself y))

abbrev AlikeWord : Word → Type 0
AlikeWord a = (b : Word) → same_word a b ≡ true → (c : Word) → same_word a c ≡ same_word b c

word_layers : (y : Word-F ((a : Word) × AlikeWord a)) (z : Word-F Word)
    → same_word_layer (map-Word Word (Word → Bool) same_word (map-Word _ _ (λ p. p.0) y)) z ≡ true → (u : Word-F Word)
    → same_word_layer (map-Word Word (Word → Bool) same_word (map-Word _ _ (λ p. p.0) y)) u ≡ same_word_layer (map-Word Word (Word → Bool) same_word z) u
word_layers (Word-F.Number n) (Word-F.Number m) t (Word-F.Number k) = numbers_alike n m t k
word_layers (Word-F.Number n) (Word-F.Number m) t _ = refl
word_layers (Word-F.Var x) (Word-F.Var y) t (Word-F.Var z) = vars_alike x y t z
word_layers (Word-F.Var x) (Word-F.Var y) t _ = refl
word_layers (Word-F.Label x) (Word-F.Label y) t (Word-F.Label z) = names_alike x y t z
word_layers (Word-F.Label x) (Word-F.Label y) t _ = refl
word_layers (Word-F.Add a b) (Word-F.Add c d) t (Word-F.Add e f) =
    let p = and_parts (same_word a.0 c) (same_word b.0 d) t in
    pairs (same_word a.0 e) (same_word b.0 f) (same_word c e) (same_word d f) (a.1 c p.0 e) (b.1 d p.1 f)
word_layers (Word-F.Add a b) (Word-F.Add c d) t _ = refl
word_layers (Word-F.Sub a b) (Word-F.Sub c d) t (Word-F.Sub e f) =
    let p = and_parts (same_word a.0 c) (same_word b.0 d) t in
    pairs (same_word a.0 e) (same_word b.0 f) (same_word c e) (same_word d f) (a.1 c p.0 e) (b.1 d p.1 f)
word_layers (Word-F.Sub a b) (Word-F.Sub c d) t _ = refl
word_layers (Word-F.Times n a) (Word-F.Times m c) t (Word-F.Times k e) =
    let p = and_parts (n == m) (same_word a.0 c) t in
    pairs (n == k) (same_word a.0 e) (m == k) (same_word c e) (numbers_alike n m p.0 k) (a.1 c p.1 e)
word_layers (Word-F.Times n a) (Word-F.Times m c) t _ = refl
word_layers (Word-F.Number n) _ t u = no t
word_layers (Word-F.Var x) _ t u = no t
word_layers (Word-F.Label x) _ t u = no t
word_layers (Word-F.Add a b) _ t u = no t
word_layers (Word-F.Sub a b) _ t u = no t
word_layers (Word-F.Times n a) _ t u = no t

word_step : (y : Word-F ((a : Word) × AlikeWord a)) → AlikeWord (roll-Word (map-Word _ _ (λ p. p.0) y))
word_step y =
    let x : Word-F Word = map-Word _ _ (λ p. p.0) y in
    ind-Word (λ b. same_word (roll-Word x) b ≡ true → (c : Word) → same_word (roll-Word x) c ≡ same_word b c) (λ z more f. λ t.
    ind-Word (λ c. same_word (roll-Word x) c ≡ same_word (roll-Word z) c) (λ u others g.
    same_word-roll x u ∙ word_layers y z (sym (same_word-roll x z) ∙ t) u ∙ sym (same_word-roll z u)))

words_alike : Alike same_word
words_alike = ind-Word AlikeWord (λ x y is. subst (λ (z : Word-F Word). AlikeWord (roll-Word z)) is (word_step y))

abbrev SameSeq : Seq → Type 0
SameSeq a = same_seq a a ≡ true

seq_itself : (y : Seq-F ((a : Seq) × SameSeq a)) → same_seq_layer (map-Seq Seq (Seq → Bool) same_seq (map-Seq _ _ (λ p. p.0) y)) (map-Seq _ _ (λ p. p.0) y) ≡ true
seq_itself (Seq-F.Var x) = vars_itself x
seq_itself Seq-F.Nil = refl
seq_itself (Seq-F.Cons a s) = both_true (words_itself a) s.1
seq_itself (Seq-F.App r s) = both_true r.1 s.1

seqs_itself : Itself same_seq
seqs_itself =
    ind-Seq SameSeq (λ x y is.
    subst (λ (z : Seq-F Seq). SameSeq (roll-Seq z)) is (same_seq-roll (map-Seq _ _ (λ p. p.0) y) (map-Seq _ _ (λ p. p.0) y) ∙ seq_itself y))

abbrev AlikeSeq : Seq → Type 0
AlikeSeq a = (b : Seq) → same_seq a b ≡ true → (c : Seq) → same_seq a c ≡ same_seq b c

seq_layers : (y : Seq-F ((a : Seq) × AlikeSeq a)) (z : Seq-F Seq)
    → same_seq_layer (map-Seq Seq (Seq → Bool) same_seq (map-Seq _ _ (λ p. p.0) y)) z ≡ true → (u : Seq-F Seq)
    → same_seq_layer (map-Seq Seq (Seq → Bool) same_seq (map-Seq _ _ (λ p. p.0) y)) u ≡ same_seq_layer (map-Seq Seq (Seq → Bool) same_seq z) u
seq_layers (Seq-F.Var x) (Seq-F.Var y) t (Seq-F.Var z) = vars_alike x y t z
seq_layers (Seq-F.Var x) (Seq-F.Var y) t _ = refl
seq_layers Seq-F.Nil Seq-F.Nil t u = refl
seq_layers (Seq-F.Cons a r) (Seq-F.Cons b s) t (Seq-F.Cons c q) =
    let p = and_parts (same_word a b) (same_seq r.0 s) t in
    pairs (same_word a c) (same_seq r.0 q) (same_word b c) (same_seq s q) (words_alike a b p.0 c) (r.1 s p.1 q)
seq_layers (Seq-F.Cons a r) (Seq-F.Cons b s) t _ = refl
seq_layers (Seq-F.App a r) (Seq-F.App b s) t (Seq-F.App c q) =
    let p = and_parts (same_seq a.0 b) (same_seq r.0 s) t in
    pairs (same_seq a.0 c) (same_seq r.0 q) (same_seq b c) (same_seq s q) (a.1 b p.0 c) (r.1 s p.1 q)
seq_layers (Seq-F.App a r) (Seq-F.App b s) t _ = refl
seq_layers (Seq-F.Var x) _ t u = no t
seq_layers Seq-F.Nil _ t u = no t
seq_layers (Seq-F.Cons a r) _ t u = no t
seq_layers (Seq-F.App a r) _ t u = no t

seq_step : (y : Seq-F ((a : Seq) × AlikeSeq a)) → AlikeSeq (roll-Seq (map-Seq _ _ (λ p. p.0) y))
seq_step y =
    let x : Seq-F Seq = map-Seq _ _ (λ p. p.0) y in
    ind-Seq (λ b. same_seq (roll-Seq x) b ≡ true → (c : Seq) → same_seq (roll-Seq x) c ≡ same_seq b c) (λ z more f. λ t.
    ind-Seq (λ c. same_seq (roll-Seq x) c ≡ same_seq (roll-Seq z) c) (λ u others g.
    same_seq-roll x u ∙ seq_layers y z (sym (same_seq-roll x z) ∙ t) u ∙ sym (same_seq-roll z u)))

seqs_alike : Alike same_seq
seqs_alike = ind-Seq AlikeSeq (λ x y is. subst (λ (z : Seq-F Seq). AlikeSeq (roll-Seq z)) is (seq_step y))

-- ---- assertions and their parts

args_itself : Itself same_arg
args_itself (arg.Word x0 x1) = words_itself x1
args_itself (arg.Seq x0 x1) = seqs_itself x1
args_itself (arg.Bare x0) = names_itself x0

args_alike : Alike same_arg
args_alike (arg.Word x0 x1) (arg.Word y0 y1) t (arg.Word z0 z1) = words_alike x1 y1 t z1
args_alike (arg.Word x0 x1) (arg.Word y0 y1) t _ = refl
args_alike (arg.Seq x0 x1) (arg.Seq y0 y1) t (arg.Seq z0 z1) = seqs_alike x1 y1 t z1
args_alike (arg.Seq x0 x1) (arg.Seq y0 y1) t _ = refl
args_alike (arg.Bare x0) (arg.Bare y0) t (arg.Bare z0) = names_alike x0 y0 t z0
args_alike (arg.Bare x0) (arg.Bare y0) t _ = refl
args_alike (arg.Word x0 x1) _ t c = no t
args_alike (arg.Seq x0 x1) _ t c = no t
args_alike (arg.Bare x0) _ t c = no t

pures_itself : Itself same_pure
pures_itself (pure.Equal x0 x1) = both_true (words_itself x0) (words_itself x1)
pures_itself (pure.Unequal x0 x1) = both_true (words_itself x0) (words_itself x1)
pures_itself (pure.Less x0 x1) = both_true (words_itself x0) (words_itself x1)
pures_itself (pure.AtMost x0 x1) = both_true (words_itself x0) (words_itself x1)
pures_itself (pure.Same x0 x1) = both_true (seqs_itself x0) (seqs_itself x1)
pures_itself (pure.Member x0 x1) = both_true (words_itself x0) (seqs_itself x1)
pures_itself (pure.NonMember x0 x1) = both_true (words_itself x0) (seqs_itself x1)
pures_itself (pure.Code x0 x1) = both_true (words_itself x0) (names_itself x1)

pures_alike : Alike same_pure
pures_alike (pure.Equal x0 x1) (pure.Equal y0 y1) t (pure.Equal z0 z1) =
    let p = and_parts (same_word x0 y0) (same_word x1 y1) t in
    pairs (same_word x0 z0) (same_word x1 z1) (same_word y0 z0) (same_word y1 z1) (words_alike x0 y0 p.0 z0) (words_alike x1 y1 p.1 z1)
pures_alike (pure.Equal x0 x1) (pure.Equal y0 y1) t _ = refl
pures_alike (pure.Unequal x0 x1) (pure.Unequal y0 y1) t (pure.Unequal z0 z1) =
    let p = and_parts (same_word x0 y0) (same_word x1 y1) t in
    pairs (same_word x0 z0) (same_word x1 z1) (same_word y0 z0) (same_word y1 z1) (words_alike x0 y0 p.0 z0) (words_alike x1 y1 p.1 z1)
pures_alike (pure.Unequal x0 x1) (pure.Unequal y0 y1) t _ = refl
pures_alike (pure.Less x0 x1) (pure.Less y0 y1) t (pure.Less z0 z1) =
    let p = and_parts (same_word x0 y0) (same_word x1 y1) t in
    pairs (same_word x0 z0) (same_word x1 z1) (same_word y0 z0) (same_word y1 z1) (words_alike x0 y0 p.0 z0) (words_alike x1 y1 p.1 z1)
pures_alike (pure.Less x0 x1) (pure.Less y0 y1) t _ = refl
pures_alike (pure.AtMost x0 x1) (pure.AtMost y0 y1) t (pure.AtMost z0 z1) =
    let p = and_parts (same_word x0 y0) (same_word x1 y1) t in
    pairs (same_word x0 z0) (same_word x1 z1) (same_word y0 z0) (same_word y1 z1) (words_alike x0 y0 p.0 z0) (words_alike x1 y1 p.1 z1)
pures_alike (pure.AtMost x0 x1) (pure.AtMost y0 y1) t _ = refl
pures_alike (pure.Same x0 x1) (pure.Same y0 y1) t (pure.Same z0 z1) =
    let p = and_parts (same_seq x0 y0) (same_seq x1 y1) t in
    pairs (same_seq x0 z0) (same_seq x1 z1) (same_seq y0 z0) (same_seq y1 z1) (seqs_alike x0 y0 p.0 z0) (seqs_alike x1 y1 p.1 z1)
pures_alike (pure.Same x0 x1) (pure.Same y0 y1) t _ = refl
pures_alike (pure.Member x0 x1) (pure.Member y0 y1) t (pure.Member z0 z1) =
    let p = and_parts (same_word x0 y0) (same_seq x1 y1) t in
    pairs (same_word x0 z0) (same_seq x1 z1) (same_word y0 z0) (same_seq y1 z1) (words_alike x0 y0 p.0 z0) (seqs_alike x1 y1 p.1 z1)
pures_alike (pure.Member x0 x1) (pure.Member y0 y1) t _ = refl
pures_alike (pure.NonMember x0 x1) (pure.NonMember y0 y1) t (pure.NonMember z0 z1) =
    let p = and_parts (same_word x0 y0) (same_seq x1 y1) t in
    pairs (same_word x0 z0) (same_seq x1 z1) (same_word y0 z0) (same_seq y1 z1) (words_alike x0 y0 p.0 z0) (seqs_alike x1 y1 p.1 z1)
pures_alike (pure.NonMember x0 x1) (pure.NonMember y0 y1) t _ = refl
pures_alike (pure.Code x0 x1) (pure.Code y0 y1) t (pure.Code z0 z1) =
    let p = and_parts (same_word x0 y0) (same_name x1 y1) t in
    pairs (same_word x0 z0) (same_name x1 z1) (same_word y0 z0) (same_name y1 z1) (words_alike x0 y0 p.0 z0) (names_alike x1 y1 p.1 z1)
pures_alike (pure.Code x0 x1) (pure.Code y0 y1) t _ = refl
pures_alike (pure.Equal x0 x1) _ t c = no t
pures_alike (pure.Unequal x0 x1) _ t c = no t
pures_alike (pure.Less x0 x1) _ t c = no t
pures_alike (pure.AtMost x0 x1) _ t c = no t
pures_alike (pure.Same x0 x1) _ t c = no t
pures_alike (pure.Member x0 x1) _ t c = no t
pures_alike (pure.NonMember x0 x1) _ t c = no t
pures_alike (pure.Code x0 x1) _ t c = no t

atoms_itself : Itself same_atom
atoms_itself (atom.Cell x0 x1) = both_true (words_itself x0) (words_itself x1)
atoms_itself (atom.Byte x0 x1) = both_true (words_itself x0) (words_itself x1)
atoms_itself (atom.Block x0 x1) = both_true (words_itself x0) (words_itself x1)
atoms_itself (atom.Pred x0 x1) = both_true (names_itself x0) (lists_itself same_arg args_itself x1)

atoms_alike : Alike same_atom
atoms_alike (atom.Cell x0 x1) (atom.Cell y0 y1) t (atom.Cell z0 z1) =
    let p = and_parts (same_word x0 y0) (same_word x1 y1) t in
    pairs (same_word x0 z0) (same_word x1 z1) (same_word y0 z0) (same_word y1 z1) (words_alike x0 y0 p.0 z0) (words_alike x1 y1 p.1 z1)
atoms_alike (atom.Cell x0 x1) (atom.Cell y0 y1) t _ = refl
atoms_alike (atom.Byte x0 x1) (atom.Byte y0 y1) t (atom.Byte z0 z1) =
    let p = and_parts (same_word x0 y0) (same_word x1 y1) t in
    pairs (same_word x0 z0) (same_word x1 z1) (same_word y0 z0) (same_word y1 z1) (words_alike x0 y0 p.0 z0) (words_alike x1 y1 p.1 z1)
atoms_alike (atom.Byte x0 x1) (atom.Byte y0 y1) t _ = refl
atoms_alike (atom.Block x0 x1) (atom.Block y0 y1) t (atom.Block z0 z1) =
    let p = and_parts (same_word x0 y0) (same_word x1 y1) t in
    pairs (same_word x0 z0) (same_word x1 z1) (same_word y0 z0) (same_word y1 z1) (words_alike x0 y0 p.0 z0) (words_alike x1 y1 p.1 z1)
atoms_alike (atom.Block x0 x1) (atom.Block y0 y1) t _ = refl
atoms_alike (atom.Pred x0 x1) (atom.Pred y0 y1) t (atom.Pred z0 z1) =
    let p = and_parts (same_name x0 y0) (pointwise same_arg x1 y1) t in
    pairs (same_name x0 z0) (pointwise same_arg x1 z1) (same_name y0 z0) (pointwise same_arg y1 z1) (names_alike x0 y0 p.0 z0) (lists_alike same_arg args_alike x1 y1 p.1 z1)
atoms_alike (atom.Pred x0 x1) (atom.Pred y0 y1) t _ = refl
atoms_alike (atom.Cell x0 x1) _ t c = no t
atoms_alike (atom.Byte x0 x1) _ t c = no t
atoms_alike (atom.Block x0 x1) _ t c = no t
atoms_alike (atom.Pred x0 x1) _ t c = no t

terms_itself : Itself same_term
terms_itself term.Emp = refl
terms_itself (term.Pure x0) = pures_itself x0
terms_itself (term.Atom x0) = atoms_itself x0

terms_alike : Alike same_term
terms_alike term.Emp term.Emp t c = refl
terms_alike (term.Pure x0) (term.Pure y0) t (term.Pure z0) = pures_alike x0 y0 t z0
terms_alike (term.Pure x0) (term.Pure y0) t _ = refl
terms_alike (term.Atom x0) (term.Atom y0) t (term.Atom z0) = atoms_alike x0 y0 t z0
terms_alike (term.Atom x0) (term.Atom y0) t _ = refl
terms_alike term.Emp _ t c = no t
terms_alike (term.Pure x0) _ t c = no t
terms_alike (term.Atom x0) _ t c = no t

binds_itself : Itself same_bind
binds_itself a = both_true (names_itself a.name) (sorts_itself a.sort)

binds_alike : Alike same_bind
binds_alike a b t c =
    let p = and_parts (same_name a.name b.name) (same_sort a.sort b.sort) t in
    pairs _ _ _ _ (names_alike a.name b.name p.0 c.name) (sorts_alike a.sort b.sort p.1 c.sort)

assertions_itself : Itself same_assertion
assertions_itself a = both_true (lists_itself same_bind binds_itself a.binders) (lists_itself same_term terms_itself a.terms)

assertions_alike : Alike same_assertion
assertions_alike a b t c =
    let p = and_parts (pointwise same_bind a.binders b.binders) (pointwise same_term a.terms b.terms) t in
    pairs _ _ _ _ (lists_alike same_bind binds_alike a.binders b.binders p.0 c.binders) (lists_alike same_term terms_alike a.terms b.terms p.1 c.terms)

-- ---- signatures and predicates

pub signatures_itself : Itself same_signature
signatures_itself S =
    both_true (names_itself S.name) (both_true (lists_itself same_name names_itself S.params) (both_true (numbers_itself S.reserve)
    (both_true (lists_itself same_bind binds_itself S.logical) (both_true (assertions_itself S.pre) (assertions_itself S.post)))))

pub signatures_alike : Alike same_signature
signatures_alike S T t U =
    let a = and_parts (same_name S.name T.name) _ t in
    let b = and_parts (pointwise same_name S.params T.params) _ a.1 in
    let c = and_parts (S.reserve == T.reserve) _ b.1 in
    let d = and_parts (pointwise same_bind S.logical T.logical) _ c.1 in
    let e = and_parts (same_assertion S.pre T.pre) _ d.1 in
    pairs _ _ _ _ (names_alike S.name T.name a.0 U.name) (pairs _ _ _ _ (lists_alike same_name names_alike S.params T.params b.0 U.params) (pairs _ _ _ _ (numbers_alike S.reserve T.reserve c.0 U.reserve)
    (pairs _ _ _ _ (lists_alike same_bind binds_alike S.logical T.logical d.0 U.logical) (pairs _ _ _ _ (assertions_alike S.pre T.pre e.0 U.pre) (assertions_alike S.post T.post e.1 U.post)))))

pub predicates_itself : Itself same_predicate
predicates_itself p = both_true (names_itself p.name) (both_true (lists_itself same_bind binds_itself p.params) (lists_itself same_assertion assertions_itself p.cases))

pub predicates_alike : Alike same_predicate
predicates_alike p q t r =
    let a = and_parts (same_name p.name q.name) _ t in
    let b = and_parts (pointwise same_bind p.params q.params) _ a.1 in
    pairs _ _ _ _ (names_alike p.name q.name a.0 r.name) (pairs _ _ _ _ (lists_alike same_bind binds_alike p.params q.params b.0 r.params)
    (lists_alike same_assertion assertions_alike p.cases q.cases b.1 r.cases))
