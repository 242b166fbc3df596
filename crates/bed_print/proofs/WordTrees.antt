-- Words and sequences, variant by variant: their tokens, and the trees with every place set to 0.
use Rattle.std.proofs.Common.{◌≡◌, ℕ, Bool, true, false, List, [], ◌∷◌, ◌++◌, sym, ap, ◌∙◌}
use Rattle.bed_lang.specs.declared.word.Name.{Name}
use Rattle.bed_lang.specs.declared.word.Var.{Var}
use Rattle.bed_lang.specs.declared.word.Var.TheVariants as var
use Rattle.bed_lang.specs.declared.word.Word.{Word, Number, Var as WordVar, Label, Add, Times, roll-Word, map-Word, fold-roll-Word}
use Rattle.bed_lang.specs.declared.word.Word.TheOpen.{Word-F}
use Rattle.bed_lang.specs.declared.word.Word.TheVariants.{rolls-Number, rolls-Var, rolls-Label, rolls-Add, rolls-Sub, rolls-Times, outs-Number, outs-Var, outs-Label, outs-Add, outs-Sub, outs-Times}
use Rattle.bed_lang.specs.declared.word.Seq.{Seq, Var as SeqVar, Nil, Cons, App, fold-roll-Seq}
use Rattle.bed_lang.specs.declared.word.Seq.TheOpen.{Seq-F}
use Rattle.bed_lang.specs.declared.word.Seq.TheVariants.{rolls-Var as seq_rolls-Var, rolls-Nil, rolls-Cons, rolls-App}
use Rattle.bed_lex.specs.declared.token.Kind.{Kind}
use Rattle.bed_lex.specs.declared.token.Kind.TheVariants as kind
use Rattle.bed_read.specs.Classes.{AMPERSAND, STAR, LEFT_PAREN, RIGHT_PAREN, COMMA, NIL, CONS, APP}
use Rattle.bed_read.specs.Trees.{added}
use Rattle.bed_print.specs.Kinds.{fixed, var_kinds, sum_kinds, word_step, sum_of, word_kinds, seq_step, seq_kinds, is_name_layer, is_name_alone}
use Rattle.bed_print.proofs.Nonterminals.{sign_class}
use Rattle.bed_print.proofs.Places.{bare_name, bare_var, bare_word_step, bare_word, bare_seq_step, bare_seq}

-- ---- tokens

sum_of-roll : (x : Word-F Word) (k : ℕ) → sum_of (roll-Word x) k ≡ word_step (map-Word Word (ℕ → List Kind) sum_of x) k
sum_of-roll x k = ap (λ (f : ℕ → List Kind). f k) (fold-roll-Word (ℕ → List Kind) word_step x)

pub sum_of-Number : (n k : ℕ) → sum_of (Number n) k ≡ kind.Number n ∷ []
sum_of-Number n k = ap (λ w. sum_of w k) (sym (rolls-Number n)) ∙ sum_of-roll (Word-F.Number n) k

pub sum_of-Var : (v : Var) (k : ℕ) → sum_of (WordVar v) k ≡ var_kinds v
sum_of-Var v k = ap (λ w. sum_of w k) (sym (rolls-Var v)) ∙ sum_of-roll (Word-F.Var v) k

pub sum_of-Label : (x : Name) (k : ℕ) → sum_of (Label x) k ≡ fixed AMPERSAND ∷ kind.Name x ∷ []
sum_of-Label x k = ap (λ w. sum_of w k) (sym (rolls-Label x)) ∙ sum_of-roll (Word-F.Label x) k

pub sum_of-Times : (n : ℕ) (a : Word) (k : ℕ) → sum_of (Times n a) k ≡ fixed LEFT_PAREN ∷ kind.Number n ∷ fixed STAR ∷ (word_kinds a ++ fixed RIGHT_PAREN ∷ [])
sum_of-Times n a k = ap (λ w. sum_of w k) (sym (rolls-Times n a)) ∙ sum_of-roll (Word-F.Times n a) k

pub sum_of-added : (a b : Word) (s : Bool) (k : ℕ) → sum_of (added a (s, b)) k ≡ sum_kinds (sum_of a) (sign_class s) (sum_of b) k
sum_of-added a b true k = ap (λ w. sum_of w k) (sym (rolls-Add a b)) ∙ sum_of-roll (Word-F.Add a b) k
sum_of-added a b false k = ap (λ w. sum_of w k) (sym (rolls-Sub a b)) ∙ sum_of-roll (Word-F.Sub a b) k

pub seq_kinds-Var : (v : Var) → seq_kinds (SeqVar v) ≡ var_kinds v
seq_kinds-Var v = ap seq_kinds (sym (seq_rolls-Var v)) ∙ fold-roll-Seq (List Kind) seq_step (Seq-F.Var v)

pub seq_kinds-Nil : seq_kinds Nil ≡ fixed NIL ∷ []
seq_kinds-Nil = ap seq_kinds (sym rolls-Nil) ∙ fold-roll-Seq (List Kind) seq_step Seq-F.Nil

pub seq_kinds-Cons : (a : Word) (s : Seq) → seq_kinds (Cons a s) ≡ fixed CONS ∷ fixed LEFT_PAREN ∷ (word_kinds a ++ fixed COMMA ∷ (seq_kinds s ++ fixed RIGHT_PAREN ∷ []))
seq_kinds-Cons a s = ap seq_kinds (sym (rolls-Cons a s)) ∙ fold-roll-Seq (List Kind) seq_step (Seq-F.Cons a s)

pub seq_kinds-App : (s t : Seq) → seq_kinds (App s t) ≡ fixed APP ∷ fixed LEFT_PAREN ∷ (seq_kinds s ++ fixed COMMA ∷ (seq_kinds t ++ fixed RIGHT_PAREN ∷ []))
seq_kinds-App s t = ap seq_kinds (sym (rolls-App s t)) ∙ fold-roll-Seq (List Kind) seq_step (Seq-F.App s t)

-- ---- a name alone

pub alone-Named : (x : Name) → is_name_alone (WordVar (var.Named x)) ≡ true
alone-Named x = ap is_name_layer (outs-Var (var.Named x))

pub alone-Old : (x : Name) → is_name_alone (WordVar (var.Old x)) ≡ false
alone-Old x = ap is_name_layer (outs-Var (var.Old x))

pub alone-Answer : (at : ℕ) → is_name_alone (WordVar (var.Answer at)) ≡ false
alone-Answer at = ap is_name_layer (outs-Var (var.Answer at))

pub alone-Number : (n : ℕ) → is_name_alone (Number n) ≡ false
alone-Number n = ap is_name_layer (outs-Number n)

pub alone-Label : (x : Name) → is_name_alone (Label x) ≡ false
alone-Label x = ap is_name_layer (outs-Label x)

pub alone-Times : (n : ℕ) (a : Word) → is_name_alone (Times n a) ≡ false
alone-Times n a = ap is_name_layer (outs-Times n a)

pub alone-added : (a b : Word) (s : Bool) → is_name_alone (added a (s, b)) ≡ false
alone-added a b true = ap is_name_layer (outs-Add a b)
alone-added a b false = ap is_name_layer (outs-Sub a b)

-- ---- places

bare_word-roll : (x : Word-F Word) → bare_word (roll-Word x) ≡ bare_word_step (map-Word Word Word bare_word x)
bare_word-roll = fold-roll-Word Word bare_word_step

pub bare_word-Number : (n : ℕ) → bare_word (Number n) ≡ Number n
bare_word-Number n = ap bare_word (sym (rolls-Number n)) ∙ bare_word-roll (Word-F.Number n)

pub bare_word-Var : (v : Var) → bare_word (WordVar v) ≡ WordVar (bare_var v)
bare_word-Var v = ap bare_word (sym (rolls-Var v)) ∙ bare_word-roll (Word-F.Var v)

pub bare_word-Label : (x : Name) → bare_word (Label x) ≡ Label (bare_name x)
bare_word-Label x = ap bare_word (sym (rolls-Label x)) ∙ bare_word-roll (Word-F.Label x)

pub bare_word-Times : (n : ℕ) (a : Word) → bare_word (Times n a) ≡ Times n (bare_word a)
bare_word-Times n a = ap bare_word (sym (rolls-Times n a)) ∙ bare_word-roll (Word-F.Times n a)

pub bare_word-Add : (a b : Word) → bare_word (Add a b) ≡ Add (bare_word a) (bare_word b)
bare_word-Add a b = ap bare_word (sym (rolls-Add a b)) ∙ bare_word-roll (Word-F.Add a b)

pub bare_word-added : (a b : Word) (s : Bool) → bare_word (added a (s, b)) ≡ added (bare_word a) (s, bare_word b)
bare_word-added a b true = bare_word-Add a b
bare_word-added a b false = ap bare_word (sym (rolls-Sub a b)) ∙ bare_word-roll (Word-F.Sub a b)

pub bare_seq-Var : (v : Var) → bare_seq (SeqVar v) ≡ SeqVar (bare_var v)
bare_seq-Var v = ap bare_seq (sym (seq_rolls-Var v)) ∙ fold-roll-Seq Seq bare_seq_step (Seq-F.Var v)

pub bare_seq-Nil : bare_seq Nil ≡ Nil
bare_seq-Nil = ap bare_seq (sym rolls-Nil) ∙ fold-roll-Seq Seq bare_seq_step Seq-F.Nil

pub bare_seq-Cons : (a : Word) (s : Seq) → bare_seq (Cons a s) ≡ Cons (bare_word a) (bare_seq s)
bare_seq-Cons a s = ap bare_seq (sym (rolls-Cons a s)) ∙ fold-roll-Seq Seq bare_seq_step (Seq-F.Cons a s)

pub bare_seq-App : (s t : Seq) → bare_seq (App s t) ≡ App (bare_seq s) (bare_seq t)
bare_seq-App s t = ap bare_seq (sym (rolls-App s t)) ∙ fold-roll-Seq Seq bare_seq_step (Seq-F.App s t)
