-- The normal form of a difference, and when two differences are the same up to sign.
use Rattle.std.specs.Prelude.{Bool, ◌||◌}
use Rattle.bed_lang.specs.declared.word.Word.{Word}
use Rattle.bed_lang.specs.declared.form.Form.{Form}
use Rattle.bed_lang.specs.Forms.{add_forms, times_form, word_form, same_form}

-- 4294967295 is minus one
abbrev pub minus_form : Form → Form → Form
minus_form f g = add_forms f (times_form 4294967295 g)

-- the form of `a - b`
abbrev pub difference : Word → Word → Form
difference a b = minus_form (word_form a) (word_form b)

-- `a - b` has the form of `c - d`, or of `d - c`
abbrev pub same_difference : Word → Word → Word → Word → Bool
same_difference a b c d = same_form (difference a b) (difference c d) || same_form (difference a b) (difference d c)
