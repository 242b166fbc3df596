-- Frames: the words in them, and names set to words.
use Rattle.std.proofs.Common.{◌≡◌, ◌≢◌, ℕ, zero, suc, ◌+◌, ◌<◌, true, false, Some, List, [], ◌∷◌, ◌++◌, length, slice_get, slice_index, unwrap_or, bytes_eq, inl, inr, refl, sym, ◌∙◌, ap, ap₂, arith}
use Rattle.std.proofs.lemmas.Slice.Eq.{bytes_eq-Decides}
use Rattle.std.proofs.lemmas.Bool.{cases_Bool}
use Rattle.bed_lang.specs.Numbers.{wrap}
use Rattle.bed_machine.specs.Memory.{Memory, word_at}
use Rattle.bed_lang.specs.declared.word.Name.{Name}
use Rattle.bed_lang.specs.Values.{Values, Named, set_word}
use Rattle.bed_sat.specs.Parts.{Includes}
use Rattle.bed_sat.specs.Cells.{AreWordsAt, IsCell}
use Rattle.bed_sat.specs.Frames.{words_at, set_words}
use Rattle.bed_sat.specs.Returns.{IsParameter}
use Rattle.bed_sat.proofs.PartLaws.{joins_left, joins_right, includes_trans}
use Rattle.bed_machine.proofs.WordLaws.{four_bytes, some_same}
use Rattle.bed_sat.proofs.CellLaws.{word_includes}

-- a test of two texts
pub bytes_eq_same : (x : List ℕ) → bytes_eq x x ≡ true
bytes_eq_same x = (bytes_eq-Decides x x).1 refl

pub bytes_eq_is : (x y : List ℕ) → bytes_eq x y ≡ true → x ≡ y
bytes_eq_is x y e = (bytes_eq-Decides x y).0 e

pub bytes_eq_not : (x y : List ℕ) → x ≢ y → bytes_eq x y ≡ false
bytes_eq_not x y ne = elim (cases_Bool (bytes_eq x y)) [ inl e ↦ absurd (ne (bytes_eq_is x y e)) | inr e ↦ e ]

-- the variable that was set, and the others
pub set_same : (ν : Values) (x : List ℕ) (v : ℕ) → (set_word ν (Named x) v).words (Named x) ≡ v
set_same ν x v = rw (bytes_eq_same x) refl

pub set_other : (ν : Values) (x y : List ℕ) (v : ℕ) → y ≢ x → (set_word ν (Named x) v).words (Named y) ≡ ν.words (Named y)
set_other ν x y v ne = rw (bytes_eq_not y x ne) refl

-- a name that isn't set keeps its word
pub set_words_other : (ν : Values) (xs : List Name) (vs : List ℕ) (name : List ℕ) → ((j : ℕ) (x : Name) → slice_get xs j ≡ Some x → x.bytes ≡ name → ⊥) → (set_words ν xs vs).words (Named name) ≡ ν.words (Named name)
set_words_other ν [] vs name none = refl
set_words_other ν (x ∷ xs) [] name none = refl
set_words_other ν (x ∷ xs) (v ∷ vs) name none =
    set_words_other (set_word ν (Named x.bytes) v) xs vs name (λ j y at same. none (suc j) y at same)
    ∙ set_other ν x.bytes name v (λ e. none 0 x refl (sym e))

-- a parameter has the argument in its place
pub parameter_word : (ν : Values) (params : List Name) (args : List ℕ) (name : List ℕ) (i : ℕ) → IsParameter params name i → length args ≡ length params → (set_words ν params args).words (Named name) ≡ slice_index args i
parameter_word ν [] args name i is long = let e = is.at in absurd cc
parameter_word ν (x ∷ xs) [] name i is long = absurd (omega arith)
parameter_word ν (x ∷ xs) (v ∷ vs) name zero is long =
    let same : x.bytes ≡ name = ap (λ y. y.bytes) (some_same is.at) ∙ is.named in
    set_words_other (set_word ν (Named x.bytes) v) xs vs name (λ j y at e. let no = is.alone (suc j) y at e in absurd (omega arith))
    ∙ ap (λ z. (set_word ν (Named z) v).words (Named name)) same ∙ set_same ν name v
parameter_word ν (x ∷ xs) (v ∷ vs) name (suc i) is long =
    parameter_word (set_word ν (Named x.bytes) v) xs vs name i
    (record { parameter = is.parameter; at = is.at; named = is.named; alone = λ j y at e. let n = is.alone (suc j) y at e in omega arith }) (omega arith)

pub get_lt : {A : Type 0} (xs : List A) (i : ℕ) (x : A) → slice_get xs i ≡ Some x → i < length xs
get_lt [] i x e = absurd cc
get_lt (y ∷ ys) zero x e = omega arith
get_lt (y ∷ ys) (suc i) x e = let lt = get_lt ys i x e in omega arith

-- an element of the first of two lists
pub index_front : (xs ys : List ℕ) (i : ℕ) → i < length xs → slice_index (xs ++ ys) i ≡ slice_index xs i
index_front [] ys i lt = absurd (omega arith)
index_front (x ∷ xs) ys zero lt = refl
index_front (x ∷ xs) ys (suc i) lt = index_front xs ys i (omega arith)

-- words of a memory are read in order
pub read_words : (m h : Memory) (x : ℕ) (vs us : List ℕ) → Includes m h → AreWordsAt x (vs ++ us) h → words_at m x (length vs) ≡ vs
read_words m h x [] us inc is = refl
read_words m h x (v ∷ vs) us inc is =
    let first : word_at m x ≡ Some v = word_includes inc x v (word_includes (joins_left is.2) x v is.3.holds) in
    ap₂ (λ a b. a ∷ b) (ap (λ o. unwrap_or o 0) first) (read_words m is.1 (wrap (x + 4)) vs us (includes_trans inc (joins_right is.2)) is.4)

-- what a cell holds is a word
pub cell_small : (a v : ℕ) (h : Memory) → IsCell a v h → v < 4294967296
cell_small a v h c =
    let f = four_bytes h a v c.holds in
    let p = (c.only _ _ f.at_low).2 in
    let q = (c.only _ _ f.at_second).2 in
    let r = (c.only _ _ f.at_third).2 in
    let s = (c.only _ _ f.at_high).2 in
    omega (arith, f.sum)
