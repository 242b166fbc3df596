-- What forms stand for, and what the constant and the coefficients of a word are, whatever form it has.
use Rattle.std.specs.Prelude.{◌≡◌, ◌≢◌, ℕ, ◌+◌, ◌-◌, ◌*◌, ◌<◌, if◌then◌else◌, List, [], ◌∷◌, ◌++◌, map}
use Rattle.std.specs.Str.{bytes_eq}
use Rattle.std.specs.declared.cmp.Ordering.TheVariants.{Less}
use Rattle.bed_lang.specs.declared.word.Word.{Word}
use Rattle.bed_lang.specs.Numbers.{wrap}
use Rattle.bed_lang.specs.Values.{Values, variable, value}
use Rattle.bed_lang.specs.declared.form.Key.{Key}
use Rattle.bed_lang.specs.declared.form.Key.TheVariants as key
use Rattle.bed_lang.specs.declared.form.Form.{Form}
use Rattle.bed_lang.specs.declared.form.Piece.{Piece}
use Rattle.bed_lang.specs.declared.form.Piece.TheVariants.{Element, Sequence}
use Rattle.bed_lang.specs.Keys.{bare_key, variable_text, label_text, key_text, key_order}
use Rattle.bed_lang.specs.Forms.{Part}

-- the sum of the parts, where each key has the word `v` of it
abbrev pub parts_value : (Key → ℕ) → List Part → ℕ
parts_value v [] = 0
parts_value v (p ∷ ps) = wrap (p.1 * v p.0 + parts_value v ps)

-- where each label has this address and each variable these values
module _ (labels : List ℕ → ℕ) (ν : Values) where
  abbrev pub key_value : Key → ℕ
  key_value (key.Var x) = ν.words (variable x)
  key_value (key.Label f) = labels f.bytes

  -- the word that a form stands for: its constant and each coefficient times its key's word, added up
  abbrev pub form_value : Form → ℕ
  form_value f = wrap (f.constant + parts_value key_value f.parts)

  -- the words that pieces stand for
  abbrev pub pieces_value : List Piece → List ℕ
  pieces_value [] = []
  pieces_value (Element f ∷ ps) = form_value f ∷ pieces_value ps
  pieces_value (Sequence x ∷ ps) = map wrap (ν.lists (variable x)) ++ pieces_value ps

-- all labels and variables 0
abbrev pub no_labels : List ℕ → ℕ
no_labels f = 0

abbrev pub no_values : Values
no_values = record { words = λ x. 0; lists = λ x. [] }

-- the constant of a word: its value where every variable and every label is 0
abbrev pub constant : Word → ℕ
constant = value no_labels no_values

-- 1 for the key itself, 0 for every other variable and label
abbrev pub one_at : List ℕ → List ℕ → ℕ
one_at k t = if bytes_eq k t then 1 else 0

abbrev pub label_at : Key → List ℕ → ℕ
label_at k f = one_at (key_text k) (label_text f)

abbrev pub values_at : Key → Values
values_at k = record { words = λ x. one_at (key_text k) (variable_text x); lists = λ x. [] }

-- the coefficient of a key in a word: what the word's value gains where the key goes from 0 to 1
abbrev pub coefficient : Key → Word → ℕ
coefficient k w = wrap (value (label_at k) (values_at k) w + (4294967296 - constant w))

abbrev pub number_at : List ℕ → List Part → ℕ
number_at k [] = 0
number_at k (p ∷ ps) = if bytes_eq k (key_text p.0) then p.1 else number_at k ps

-- the coefficient of a key in a list of parts, 0 where it isn't there
abbrev pub coefficient_in : Key → List Part → ℕ
coefficient_in k ps = number_at (key_text k) ps

-- every key of the parts comes later in the order
abbrev pub ComesBefore : Key → List Part → Type 0
ComesBefore k [] = Unit {0}
ComesBefore k (p ∷ ps) = (key_order k p.0 ≡ Less) × ComesBefore k ps

-- the parts stand in the order of keys, each key once and with the place 0, no coefficient 0
abbrev pub IsOrdered : List Part → Type 0
IsOrdered [] = Unit {0}
IsOrdered (p ∷ ps) = (p.1 ≢ 0) × (p.1 < 4294967296) × (bare_key p.0 ≡ p.0) × ComesBefore p.0 ps × IsOrdered ps

-- the form has the word's constant, the word's coefficient of every key, and its parts in order
pub record IsFormOf (w : Word) (f : Form) : Type 0 where
  pub constant_is : f.constant ≡ constant w
  pub coefficients_are : (k : Key) → coefficient_in k f.parts ≡ coefficient k w
  pub is_ordered : IsOrdered f.parts
