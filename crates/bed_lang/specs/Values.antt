-- What terms stand for: words of 32 bits, and finite sequences of words.
use Rattle.std.specs.Prelude.{ℕ, ◌+◌, ◌-◌, ◌*◌, Bool, true, false, ◌==◌, if◌then◌else◌, List, [], ◌∷◌, ◌++◌, map}
use Rattle.std.specs.Str.{bytes_eq}
use Rattle.bed_lang.specs.Numbers.{wrap}
use Rattle.bed_lang.specs.declared.word.Var.{Var}
use Rattle.bed_lang.specs.declared.word.Var.TheVariants as var
use Rattle.bed_lang.specs.declared.word.Word.{Word, fold-Word}
use Rattle.bed_lang.specs.declared.word.Word.TheOpen.{Word-F}
use Rattle.bed_lang.specs.declared.word.Seq.{Seq, fold-Seq}
use Rattle.bed_lang.specs.declared.word.Seq.TheOpen.{Seq-F}

-- a variable, wherever it stands in a text: two variables are the same where their names are
pub data Variable : Type 0 where
  Named : List ℕ → Variable
  Old : List ℕ → Variable
  Answer : Variable
  Fresh : ℕ → Variable
  Hole : Variable

-- the variable that an occurrence in a tree stands for
abbrev pub variable : Var → Variable
variable (var.Named x) = Named x.bytes
variable (var.Old x) = Old x.bytes
variable (var.Answer at) = Answer
variable (var.Fresh n) = Fresh n
variable var.Hole = Hole

abbrev pub same_variable : Variable → Variable → Bool
same_variable (Named a) (Named b) = bytes_eq a b
same_variable (Old a) (Old b) = bytes_eq a b
same_variable Answer Answer = true
same_variable (Fresh a) (Fresh b) = a == b
same_variable Hole Hole = true
same_variable _ _ = false

-- the word and the sequence that each variable has; 0 and the empty one where nothing was said
pub record Values : Type 0 where
  pub words : Variable → ℕ
  pub lists : Variable → List ℕ

-- the same values, but for one word
abbrev pub set_word : Values → Variable → ℕ → Values
set_word ν x v = record ν { words = λ y. if same_variable y x then v else ν.words y }

-- the same values, but for one sequence
abbrev pub set_list : Values → Variable → List ℕ → Values
set_list ν x vs = record ν { lists = λ y. if same_variable y x then vs else ν.lists y }

-- where each label has this address and each variable these values
module _ (labels : List ℕ → ℕ) (ν : Values) where
  abbrev pub value_step : Word-F ℕ → ℕ
  value_step (Word-F.Number n) = wrap n
  value_step (Word-F.Var x) = wrap (ν.words (variable x))
  value_step (Word-F.Label f) = wrap (labels f.bytes)
  value_step (Word-F.Add a b) = wrap (a + b)
  value_step (Word-F.Sub a b) = wrap (a + (4294967296 - b))
  value_step (Word-F.Times n a) = wrap (n * a)

  -- the word that a term stands for: sums, differences and products are modulo 2^32
  abbrev pub value : Word → ℕ
  value = fold-Word ℕ value_step

  abbrev pub list_value_step : Seq-F (List ℕ) → List ℕ
  list_value_step (Seq-F.Var x) = map wrap (ν.lists (variable x))
  list_value_step Seq-F.Nil = []
  list_value_step (Seq-F.Cons a s) = value a ∷ s
  list_value_step (Seq-F.App s t) = s ++ t

  -- the words that a sequence term stands for
  abbrev pub list_value : Seq → List ℕ
  list_value = fold-Seq (List ℕ) list_value_step
