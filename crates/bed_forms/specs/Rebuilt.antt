-- Words and sequences written anew from their normal forms.
use Rattle.std.specs.Prelude.{◌==◌, if◌then◌else◌, List, [], ◌∷◌}
use Rattle.bed_lang.specs.declared.form.Key.{Key}
use Rattle.bed_lang.specs.declared.form.Key.TheVariants as key
use Rattle.bed_lang.specs.declared.form.Form.{Form}
use Rattle.bed_lang.specs.declared.form.Piece.{Piece}
use Rattle.bed_lang.specs.declared.form.Piece.TheVariants.{Element, Sequence}
use Rattle.bed_lang.specs.declared.word.Word.{Word, Number, Var as WordVar, Label, Add, Times}
use Rattle.bed_lang.specs.declared.word.Seq.{Seq, Var as SeqVar, Nil, Cons, App}
use Rattle.bed_lang.specs.Forms.{Part, word_form, seq_form}

abbrev pub key_word : Key → Word
key_word (key.Var x) = WordVar x
key_word (key.Label f) = Label f

-- one part of a form, and a word followed by parts
abbrev pub part_word : Part → Word
part_word p = if p.1 == 1 then key_word p.0 else Times p.1 (key_word p.0)

abbrev pub sum_from : Word → List Part → Word
sum_from w [] = w
sum_from w (p ∷ ps) = sum_from (Add w (part_word p)) ps

abbrev pub parts_word : List Part → Word
parts_word [] = Number 0
parts_word (p ∷ ps) = sum_from (part_word p) ps

-- the word of a form: its constant, left out where it is 0 beside parts, and then its parts in order
abbrev pub form_word : Form → Word
form_word f = if f.constant == 0 then parts_word f.parts else sum_from (Number f.constant) f.parts

-- the sequence of pieces
abbrev pub pieces_seq : List Piece → Seq
pieces_seq [] = Nil
pieces_seq (Element f ∷ ps) = Cons (form_word f) (pieces_seq ps)
pieces_seq (Sequence x ∷ ps) = App (SeqVar x) (pieces_seq ps)

-- a word and a sequence written anew from their forms
abbrev pub rebuilt_word : Word → Word
rebuilt_word w = form_word (word_form w)

abbrev pub rebuilt_seq : Seq → Seq
rebuilt_seq s = pieces_seq (seq_form s)
