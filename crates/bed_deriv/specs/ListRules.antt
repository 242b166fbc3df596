-- Rules for facts on sequences.
use Rattle.std.specs.Prelude.{ℕ, Bool, true, false, ◌&&◌, ◌||◌, ◌==◌, List, [], ◌∷◌, length, Option, Some, None}
use Rattle.bed_lang.specs.declared.word.Word.{Word}
use Rattle.bed_lang.specs.declared.word.Seq.{Seq, Var as SeqVar}
use Rattle.bed_lang.specs.declared.form.Piece.{Piece}
use Rattle.bed_lang.specs.declared.form.Piece.TheVariants.{Element, Sequence}
use Rattle.bed_lang.specs.declared.logic.Pure.{Pure}
use Rattle.bed_lang.specs.declared.logic.Pure.TheVariants.{Equal, Unequal, Same, Member, NonMember}
use Rattle.bed_lang.specs.Forms.{seq_form}
use Rattle.bed_deriv.specs.declared.derivation.DArg.{DArg}
use Rattle.bed_deriv.specs.declared.state.SymState.{SymState}
use Rattle.bed_deriv.specs.declared.state.Sequent.{Sequent}
use Rattle.bed_lang.specs.SameFacts.{same_facts, is_none}
use Rattle.bed_deriv.specs.Arguments.{numbered, number_at, fact_at, counts}
use Rattle.bed_forms.specs.Rebuilt.{form_word, pieces_seq}
use Rattle.bed_deriv.specs.Checks.{Goals, Needs, Given, Leaves, with_fact, sequent}

-- the sides of an equation of sequences, and the word and the sequence of `e in s` and of `e notin s`
abbrev pub sides : Pure → Option (Seq × Seq)
sides (Same s t) = Some (s, t)
sides _ = None

abbrev pub membership : Pure → Option (Word × Seq)
membership (Member e s) = Some (e, s)
membership _ = None

abbrev pub absence : Pure → Option (Word × Seq)
absence (NonMember e s) = Some (e, s)
absence _ = None

-- that a word is this piece, or in it; and that it isn't
abbrev pub in_piece : Word → Piece → Pure
in_piece e (Element f) = Equal e (form_word f)
in_piece e (Sequence x) = Member e (SeqVar x)

abbrev pub not_in_piece : Word → Piece → Pure
not_in_piece e (Element f) = Unequal e (form_word f)
not_in_piece e (Sequence x) = NonMember e (SeqVar x)

-- uncons[i]: fact i is `==` and both sides begin with an element. Child: the goal with the heads equal and the tails `==`
abbrev pub heads_and_tails : List Piece → List Piece → Option (Pure × Pure)
heads_and_tails (Element f ∷ ps) (Element g ∷ qs) = Some (Equal (form_word f) (form_word g), Same (pieces_seq ps) (pieces_seq qs))
heads_and_tails _ _ = None

abbrev pub uncons : SymState → Option Pure → List DArg → ℕ → Goals
uncons s goal args n =
    Needs 1 (counts args 1 n 1) (Given 2 (fact_at s args 0) (λ p. Given 3 goal (λ g. Given 3 (sides p) (λ e.
    Given 3 (heads_and_tails (seq_form e.0) (seq_form e.1)) (λ h. Leaves (sequent (with_fact (with_fact s h.0) h.1) g ∷ []))))))

-- void[i]: fact i is `==`, and one side has no pieces, the other an element
abbrev pub has_element : List Piece → Bool
has_element [] = false
has_element (Element f ∷ ps) = true
has_element (Sequence x ∷ ps) = has_element ps

abbrev pub is_void : List Piece → List Piece → Bool
is_void ps qs = (is_none ps && has_element qs) || (is_none qs && has_element ps)

abbrev pub void : SymState → Option Pure → List DArg → ℕ → Goals
void s goal args n =
    Needs 1 (counts args 1 n 0) (Given 2 (fact_at s args 0) (λ p. Given 3 goal (λ g. Given 3 (sides p) (λ e.
    Needs 3 (is_void (seq_form e.0) (seq_form e.1)) (Leaves [])))))

-- member[j]: the goal is `e in s`. Child, for piece j of s: `e = x` for an element, `e in t` for a variable
abbrev pub membership_of : Option Pure → Option (Word × Seq)
membership_of None = None
membership_of (Some g) = membership g

abbrev pub absence_of : Option Pure → Option (Word × Seq)
absence_of None = None
absence_of (Some g) = absence g

abbrev pub member : SymState → Option Pure → List DArg → ℕ → Goals
member s goal args n =
    Needs 1 (counts args 1 n 1) (Given 2 (number_at args 0) (λ j. Given 3 (membership_of goal) (λ m.
    Given 2 (numbered (seq_form m.1) j) (λ x. Leaves (sequent s (in_piece m.0 x) ∷ [])))))

-- lacks: the goal is `e notin s`. One child per piece of s: `e != x` or `e notin t`
abbrev pub lacking : SymState → Word → List Piece → List Sequent
lacking s e [] = []
lacking s e (x ∷ xs) = sequent s (not_in_piece e x) ∷ lacking s e xs

abbrev pub lacks : SymState → Option Pure → List DArg → ℕ → Goals
lacks s goal args n =
    Needs 1 (length args == 0) (Given 3 (absence_of goal) (λ m. Needs 1 (n == length (seq_form m.1)) (Leaves (lacking s m.0 (seq_form m.1)))))

-- part[i, j]: fact i is `e notin s`; the goal is `e != x` or `e notin t` for piece j of s
abbrev pub part : SymState → Option Pure → List DArg → ℕ → Goals
part s goal args n =
    Needs 1 (counts args 2 n 0) (Given 2 (fact_at s args 0) (λ p. Given 2 (number_at args 1) (λ j. Given 3 (absence p) (λ m.
    Given 2 (numbered (seq_form m.1) j) (λ x. Given 3 goal (λ g. Needs 3 (same_facts g (not_in_piece m.0 x)) (Leaves [])))))))

-- one[i]: fact i is `e in s`. One child per piece of s: the goal with `e = x` or `e in t`
abbrev pub with_piece : SymState → Pure → Word → List Piece → List Sequent
with_piece s g e [] = []
with_piece s g e (x ∷ xs) = sequent (with_fact s (in_piece e x)) g ∷ with_piece s g e xs

abbrev pub one : SymState → Option Pure → List DArg → ℕ → Goals
one s goal args n =
    Needs 1 (length args == 1) (Given 2 (fact_at s args 0) (λ p. Given 3 (membership p) (λ m.
    Needs 1 (n == length (seq_form m.1)) (Given 3 goal (λ g. Leaves (with_piece s g m.0 (seq_form m.1)))))))
