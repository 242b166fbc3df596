-- The normal form of a word: a constant and coefficients, all modulo 2^32. And that of a sequence: its pieces.
use Rattle.std.specs.Prelude.{ℕ, zero, suc, ◌+◌, ◌*◌, ◌==◌, ◌&&◌, Bool, false, List, [], ◌∷◌, ◌++◌}
use Rattle.std.specs.Cmp.Lexicographic.{pointwise}
use Rattle.std.specs.declared.cmp.Ordering.{Ordering}
use Rattle.std.specs.declared.cmp.Ordering.TheVariants.{Less, Equal, Greater}
use Rattle.bed_lang.specs.declared.word.Word.{Word, fold-Word}
use Rattle.bed_lang.specs.declared.word.Word.TheOpen.{Word-F}
use Rattle.bed_lang.specs.declared.word.Seq.{Seq, fold-Seq}
use Rattle.bed_lang.specs.declared.word.Seq.TheOpen.{Seq-F}
use Rattle.bed_lang.specs.Same.{same_var}
use Rattle.bed_lang.specs.Numbers.{wrap}
use Rattle.bed_lang.specs.declared.form.Key.{Key}
use Rattle.bed_lang.specs.declared.form.Key.TheVariants as key
use Rattle.bed_lang.specs.declared.form.Form.{Form}
use Rattle.bed_lang.specs.declared.form.Piece.{Piece}
use Rattle.bed_lang.specs.declared.form.Piece.TheVariants.{Element, Sequence}
use Rattle.bed_lang.specs.Keys.{bare_name, bare_var, same_key, key_order}

-- a key and its coefficient
abbrev pub Part : Type 0
Part = Key × ℕ

-- a part before others, left out where its coefficient is 0
abbrev pub part_before : Key → ℕ → List Part → List Part
part_before k zero ps = ps
part_before k (suc n) ps = (k, suc n) ∷ ps

abbrev pub by_order : Ordering → List Part → List Part → List Part → List Part
by_order Less a b c = a
by_order Equal a b c = b
by_order Greater a b c = c

-- a part in its place among others, `rest` being the sum of what follows it and of others
abbrev pub with_part : Part → (List Part → List Part) → List Part → List Part
with_part x rest [] = x ∷ rest []
with_part x rest (y ∷ ys) =
    by_order (key_order x.0 y.0) (x ∷ rest (y ∷ ys)) (part_before x.0 (wrap (x.1 + y.1)) (rest ys)) (y ∷ with_part x rest ys)

-- the sum of two lists of parts: both in one order, coefficients on one key added
abbrev pub add_parts : List Part → List Part → List Part
add_parts [] ys = ys
add_parts (x ∷ xs) ys = with_part x (add_parts xs) ys

abbrev pub times_parts : ℕ → List Part → List Part
times_parts n [] = []
times_parts n (x ∷ xs) = part_before x.0 (wrap (n * x.1)) (times_parts n xs)

abbrev pub add_forms : Form → Form → Form
add_forms f g = record { constant = wrap (f.constant + g.constant); parts = add_parts f.parts g.parts }

abbrev pub times_form : ℕ → Form → Form
times_form n f = record { constant = wrap (n * f.constant); parts = times_parts n f.parts }

-- one key, with the coefficient 1
abbrev pub only : Key → Form
only k = record { constant = 0; parts = (k, 1) ∷ [] }

abbrev pub form_step : Word-F Form → Form
form_step (Word-F.Number n) = record { constant = wrap n; parts = [] }
form_step (Word-F.Var x) = only (key.Var (bare_var x))
form_step (Word-F.Label f) = only (key.Label (bare_name f))
form_step (Word-F.Add a b) = add_forms a b
form_step (Word-F.Sub a b) = add_forms a (times_form 4294967295 b)
form_step (Word-F.Times n a) = times_form n a

-- the normal form of a word: numbers, variables and labels as they are, sums and products of forms,
-- a difference as a sum with 4294967295 times the other
abbrev pub word_form : Word → Form
word_form = fold-Word Form form_step

abbrev pub piece_step : Seq-F (List Piece) → List Piece
piece_step (Seq-F.Var x) = Sequence (bare_var x) ∷ []
piece_step Seq-F.Nil = []
piece_step (Seq-F.Cons a s) = Element (word_form a) ∷ s
piece_step (Seq-F.App s t) = s ++ t

-- the pieces of a sequence in order: its elements, by their forms, and its variables; `nil` has none
abbrev pub seq_form : Seq → List Piece
seq_form = fold-Seq (List Piece) piece_step

-- the same coefficient on one key
abbrev pub same_part : Part → Part → Bool
same_part p q = same_key p.0 q.0 && (p.1 == q.1)

-- one constant, and the same coefficients on the same keys in order, wherever the keys stand
abbrev pub same_form : Form → Form → Bool
same_form f g = (f.constant == g.constant) && pointwise same_part f.parts g.parts

-- one element's form, or one variable
abbrev pub same_piece : Piece → Piece → Bool
same_piece (Element f) (Element g) = same_form f g
same_piece (Sequence a) (Sequence b) = same_var a b
same_piece _ _ = false
