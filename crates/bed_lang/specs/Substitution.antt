-- A word in place of a variable.
use Rattle.std.specs.Prelude.{◌≡◌, ℕ, if◌then◌else◌, List}
use Rattle.bed_lang.specs.declared.word.Var.{Var}
use Rattle.bed_lang.specs.declared.word.Word.{Word, Number, Var as Variable, Label, Add, Sub, Times, fold-Word}
use Rattle.bed_lang.specs.declared.word.Word.TheOpen.{Word-F}
use Rattle.bed_lang.specs.Same.{same_var}
use Rattle.bed_lang.specs.Values.{Values, value, set_word, variable}

abbrev pub replaced_step : Var → Word → Word-F Word → Word
replaced_step v by (Word-F.Number n) = Number n
replaced_step v by (Word-F.Var u) = if same_var u v then by else Variable u
replaced_step v by (Word-F.Label x) = Label x
replaced_step v by (Word-F.Add a b) = Add a b
replaced_step v by (Word-F.Sub a b) = Sub a b
replaced_step v by (Word-F.Times n a) = Times n a

-- the word with another in place of each occurrence of a variable
abbrev pub replaced : Var → Word → Word → Word
replaced v by = fold-Word Word (replaced_step v by)

-- a word has, under all values, the value of another one where the variable is set to the value of `by`
abbrev pub HasValueWith : Var → Word → Word → Word → Type 0
HasValueWith v by w r =
    (labels : List ℕ → ℕ) (ν : Values) → value labels ν r ≡ value labels (set_word ν (variable v) (value labels ν by)) w
