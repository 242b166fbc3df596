-- Laws of normal forms, as statements.
use Rattle.std.specs.Prelude.{◌≡◌, ◌↔◌, ℕ, ◌+◌, ◌-◌, ◌*◌, List, [], IsTrue}
use Rattle.std.specs.Cmp.Lexicographic.{pointwise}
use Rattle.bed_lang.specs.declared.word.Word.{Word, Sub}
use Rattle.bed_lang.specs.declared.word.Seq.{Seq}
use Rattle.bed_lang.specs.Numbers.{wrap}
use Rattle.bed_lang.specs.Values.{Values, value, list_value}
use Rattle.bed_lang.specs.declared.form.Key.{Key}
use Rattle.bed_lang.specs.declared.form.Form.{Form}
use Rattle.bed_lang.specs.declared.form.Piece.{Piece}
use Rattle.bed_lang.specs.Forms.{add_forms, times_form, word_form, seq_form, same_form, same_piece}
use Rattle.bed_lang.specs.Coefficients.{form_value, pieces_value, constant, coefficient, IsFormOf}
use Rattle.bed_lang.specs.Differences.{difference, same_difference}

-- the form has the word's value, whatever labels and variables are
abbrev pub HasValueOf : Word → Form → Type 0
HasValueOf w f = (labels : List ℕ → ℕ) (ν : Values) → form_value labels ν f ≡ value labels ν w

-- the form has the value of `a - b`, modulo 2^32, whatever labels and variables are
abbrev pub HasDifferenceOf : Word → Word → Form → Type 0
HasDifferenceOf a b f = (labels : List ℕ → ℕ) (ν : Values) → form_value labels ν f ≡ wrap (value labels ν a + (4294967296 - value labels ν b))

-- the pieces have the sequence's value, whatever labels and variables are
abbrev pub HasValuesOf : Seq → List Piece → Type 0
HasValuesOf s ps = (labels : List ℕ → ℕ) (ν : Values) → pieces_value labels ν ps ≡ list_value labels ν s

-- a word has one form only
abbrev pub FormsAreUnique : Type 0
FormsAreUnique = (w : Word) (f g : Form) → IsFormOf w f → IsFormOf w g → f ≡ g

-- two words have one form exactly where their constants and all their coefficients agree
abbrev pub CoefficientsDecide : Type 0
CoefficientsDecide = (a b : Word) → (word_form a ≡ word_form b) ↔ ((constant a ≡ constant b) × ((k : Key) → coefficient k a ≡ coefficient k b))

-- two words have one form exactly where they have one value, whatever labels and variables are
abbrev pub ValuesDecide : Type 0
ValuesDecide = (a b : Word) → (word_form a ≡ word_form b) ↔ ((labels : List ℕ → ℕ) (ν : Values) → value labels ν a ≡ value labels ν b)

-- two sequences with the same pieces have one value
abbrev pub OnePiecesOneValue : Type 0
OnePiecesOneValue = (s t : Seq) → seq_form s ≡ seq_form t → (labels : List ℕ → ℕ) (ν : Values) → list_value labels ν s ≡ list_value labels ν t

-- the test of two words' forms is true exactly where the forms are equal
abbrev pub SameFormsAreEqual : Type 0
SameFormsAreEqual = (a b : Word) → IsTrue (same_form (word_form a) (word_form b)) ↔ (word_form a ≡ word_form b)

-- a word whose form has no parts has the form's constant as its value, whatever labels and variables are
abbrev pub ConstantsAreValues : Type 0
ConstantsAreValues = (w : Word) → (word_form w).parts ≡ [] → (labels : List ℕ → ℕ) (ν : Values) → value labels ν w ≡ (word_form w).constant

-- the form of a difference is that of the word `a - b`
abbrev pub DifferencesAreForms : Type 0
DifferencesAreForms = (a b : Word) → difference a b ≡ word_form (Sub a b)

-- the test of two differences' forms is true exactly where the forms are equal
abbrev pub SameDifferencesAreEqual : Type 0
SameDifferencesAreEqual = (a b c d : Word) → IsTrue (same_form (difference a b) (difference c d)) ↔ (difference a b ≡ difference c d)

-- where two differences are the same up to sign, `a = b` is true exactly where `c = d` is
abbrev pub SameUpToSign : Type 0
SameUpToSign = (a b c d : Word) → IsTrue (same_difference a b c d) → (labels : List ℕ → ℕ) (ν : Values) → (value labels ν a ≡ value labels ν b) ↔ (value labels ν c ≡ value labels ν d)

-- the sum of two forms has the sum of their values, modulo 2^32, whatever labels and variables are
abbrev pub SumsAddValues : Type 0
SumsAddValues = (f g : Form) (labels : List ℕ → ℕ) (ν : Values) → form_value labels ν (add_forms f g) ≡ wrap (form_value labels ν f + form_value labels ν g)

-- a number times a form has that multiple of its value
abbrev pub MultiplesMultiplyValues : Type 0
MultiplesMultiplyValues = (n : ℕ) (f : Form) (labels : List ℕ → ℕ) (ν : Values) → form_value labels ν (times_form n f) ≡ wrap (n * form_value labels ν f)

-- the test of two sequences' pieces is true exactly where the pieces are equal
abbrev pub SamePiecesAreEqual : Type 0
SamePiecesAreEqual = (s t : Seq) → IsTrue (pointwise same_piece (seq_form s) (seq_form t)) ↔ (seq_form s ≡ seq_form t)

-- a sequence with no pieces is empty, whatever labels and variables are
abbrev pub NoPiecesNoElements : Type 0
NoPiecesNoElements = (s : Seq) → seq_form s ≡ [] → (labels : List ℕ → ℕ) (ν : Values) → list_value labels ν s ≡ []
