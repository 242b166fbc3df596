-- The forms over which chains run, and what a solution of the edges between them is.
use Rattle.std.specs.Prelude.{◌≡◌, ℕ, ◌+◌, ◌≤◌, ◌<◌, Bool, true, false, ◌&&◌, ◌||◌, nat_le, if◌then◌else◌, List, [], ◌∷◌, ◌++◌, Option, Some, None}
use Rattle.bed_lang.specs.declared.form.Form.{Form}
use Rattle.bed_lang.specs.declared.word.Word.{Word, Number}
use Rattle.bed_lang.specs.declared.logic.Pure.{Pure}
use Rattle.bed_lang.specs.declared.logic.Pure.TheVariants.{Equal, Unequal, Less, AtMost, Same, Member, NonMember, Code}
use Rattle.bed_lang.specs.Forms.{word_form, same_form}
use Rattle.bed_deriv.specs.declared.derivation.DArg.{DArg}
use Rattle.bed_deriv.specs.declared.derivation.DArg.TheVariants as given
use Rattle.bed_deriv.specs.declared.derivation.Edge.{Edge}
use Rattle.bed_deriv.specs.declared.derivation.Edge.TheVariants as edge
use Rattle.bed_deriv.specs.declared.state.SymState.{SymState}
use Rattle.bed_lang.specs.SameFacts.{is_constant}
use Rattle.bed_deriv.specs.Chains.{Leg, one_more, one_less, forth, back, exact_forth, exact_back, from_one_more, to_one_more, to_one_less, from_one_less}
use Rattle.bed_deriv.specs.Fresh.{known_word}
use Rattle.bed_deriv.specs.Arguments.{numbered}

-- the forms of a comparison, with a + 1 and b - 1 of `a < b`
abbrev pub forms_of : Pure → List Form
forms_of (Equal a b) = word_form a ∷ word_form b ∷ []
forms_of (Unequal a b) = word_form a ∷ word_form b ∷ []
forms_of (Less a b) = word_form a ∷ word_form b ∷ word_form (one_more a) ∷ word_form (one_less b) ∷ []
forms_of (AtMost a b) = word_form a ∷ word_form b ∷ []
forms_of _ = []

abbrev pub all_forms : List Pure → List Form
all_forms [] = word_form (Number 0) ∷ word_form (Number 4294967295) ∷ []
all_forms (p ∷ ps) = forms_of p ++ all_forms ps

-- the two sides of a goal
abbrev pub goal_forms : Pure → List Form
goal_forms (Equal a b) = word_form a ∷ word_form b ∷ []
goal_forms (Unequal a b) = word_form a ∷ word_form b ∷ []
goal_forms (Less a b) = word_form a ∷ word_form b ∷ []
goal_forms (AtMost a b) = word_form a ∷ word_form b ∷ []
goal_forms _ = []

abbrev pub has_form : Form → List Form → Bool
has_form f [] = false
has_form f (g ∷ gs) = same_form f g || has_form f gs

abbrev pub different_forms : List Form → ℕ
different_forms [] = 0
different_forms (f ∷ fs) = if has_form f fs then different_forms fs else 1 + different_forms fs

-- an edge between forms of a list: those of facts always are
abbrev pub is_between : List Form → Edge → Bool
is_between fs (edge.K n) = has_form (word_form (Number n)) fs
is_between fs (edge.Z e) = has_form (word_form e) fs
is_between fs _ = true

abbrev pub all_between : List Form → List DArg → Bool
all_between fs [] = true
all_between fs (given.Edge e ∷ es) = is_between fs e && all_between fs es
all_between fs (_ ∷ es) = false

-- a chain runs over at most 65,536 different forms
abbrev pub runs_over : List Form → List DArg → Bool
runs_over fs es = all_between fs es && nat_le (different_forms fs) 65536

-- ---- solutions of edges, all shifted to be natural numbers

abbrev pub LegHolds : (Form → ℕ) → Option Leg → Type 0
LegHolds v None = Unit {0}
LegHolds v (Some l) = v l.from + l.down ≤ v l.to + l.up

pub record FactHolds (v : Form → ℕ) (p : Pure) : Type 0 where
  pub by_f : LegHolds v (forth p)
  pub by_g : LegHolds v (back p)
  pub by_x : LegHolds v (exact_forth p)
  pub by_y : LegHolds v (exact_back p)
  pub by_p : LegHolds v (from_one_more p)
  pub by_q : LegHolds v (to_one_more p)
  pub by_r : LegHolds v (to_one_less p)
  pub by_s : LegHolds v (from_one_less p)

-- A value for each form, which solves all edges of the facts, the edges k and h between all forms, and the edges z to forms of words
-- that the state knows. What an answer of the decision says of the forms that stand in a graph is carried on to every form: v of another
-- constant is v of 0 and the constant, v of any other form is v of 0.
abbrev pub zero_form : Form
zero_form = word_form (Number 0)

abbrev pub top_form : Form
top_form = word_form (Number 4294967295)

pub record Solves (s : SymState) (v : Form → ℕ) : Type 0 where
  pub alike : (f g : Form) → same_form f g ≡ true → v f ≡ v g
  pub facts_hold : (i : ℕ) (p : Pure) → numbered s.facts i ≡ Some p → FactHolds v p
  pub constants : (f : Form) → f.constant < 4294967296 → is_constant f ≡ true → v f ≡ v zero_form + f.constant
  pub least : (w : Word) → known_word s.next w ≡ true → v zero_form ≤ v (word_form w)
  pub largest : (f : Form) → f.constant < 4294967296 → v f ≤ v top_form

-- what such values say of a goal
abbrev pub Says : (Form → ℕ) → Pure → Type 0
Says v (Less a b) = v (word_form a) < v (word_form b)
Says v (AtMost a b) = v (word_form a) ≤ v (word_form b)
Says v _ = ⊥
