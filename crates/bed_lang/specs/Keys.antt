-- What a normal form has coefficients on: variables and labels, wherever they stand, in their order.
use Rattle.std.specs.Prelude.{ℕ, List, [], ◌∷◌, Bool, false}
use Rattle.std.specs.declared.cmp.Ordering.{Ordering}
use Rattle.std.specs.Ordering.{nat_cmp}
use Rattle.std.specs.Cmp.Lexicographic.{slice_cmp}
use Rattle.bed_lang.specs.declared.word.Name.{Name}
use Rattle.bed_lang.specs.declared.word.Var.{Var}
use Rattle.bed_lang.specs.declared.word.Var.TheVariants as var
use Rattle.bed_lang.specs.Same.{same_name, same_var}
use Rattle.bed_lang.specs.Values.{Variable, Named, Old, Answer, Fresh, Hole, variable}
use Rattle.bed_lang.specs.declared.form.Key.{Key}
use Rattle.bed_lang.specs.declared.form.Key.TheVariants as key

-- the same name, with the place 0
abbrev pub bare_name : Name → Name
bare_name x = record { bytes = x.bytes; at = 0 }

-- the same variable, with the place 0
abbrev pub bare_var : Var → Var
bare_var (var.Named x) = var.Named (bare_name x)
bare_var (var.Old x) = var.Old (bare_name x)
bare_var (var.Answer at) = var.Answer 0
bare_var (var.Fresh n) = var.Fresh n
bare_var var.Hole = var.Hole

-- the same key, with the place 0
abbrev pub bare_key : Key → Key
bare_key (key.Var x) = key.Var (bare_var x)
bare_key (key.Label f) = key.Label (bare_name f)

-- one variable, or one label, wherever they stand
abbrev pub same_key : Key → Key → Bool
same_key (key.Var a) (key.Var b) = same_var a b
same_key (key.Label f) (key.Label g) = same_name f g
same_key _ _ = false

abbrev pub variable_text : Variable → List ℕ
variable_text (Named x) = 0 ∷ x
variable_text (Old x) = 1 ∷ x
variable_text Answer = 2 ∷ []
variable_text Hole = 3 ∷ []
variable_text (Fresh n) = 4 ∷ n ∷ []

abbrev pub label_text : List ℕ → List ℕ
label_text f = 5 ∷ f

-- the numbers that a key is compared by: its kind, and then its bytes or its number
abbrev pub key_text : Key → List ℕ
key_text (key.Var x) = variable_text (variable x)
key_text (key.Label f) = label_text f.bytes

-- the order of keys: named variables by their bytes, `old` ones likewise, `result`, the hole,
-- fresh ones by their number, labels by their bytes
abbrev pub key_order : Key → Key → Ordering
key_order a b = slice_cmp nat_cmp (key_text a) (key_text b)
