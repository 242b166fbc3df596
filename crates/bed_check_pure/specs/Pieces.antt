-- The rest of a rule on sequences behind its first premises, given what these found.
use Rattle.std.specs.Prelude.{ℕ, ◌==◌, List, [], ◌∷◌, length, Option}
use Rattle.bed_lang.specs.declared.word.Word.{Word}
use Rattle.bed_lang.specs.declared.form.Piece.{Piece}
use Rattle.bed_lang.specs.declared.logic.Pure.{Pure}
use Rattle.bed_lang.specs.Forms.{seq_form}
use Rattle.bed_lang.specs.SameFacts.{same_facts}
use Rattle.bed_deriv.specs.declared.state.SymState.{SymState}
use Rattle.bed_deriv.specs.Arguments.{numbered}
use Rattle.bed_deriv.specs.ListRules.{sides, membership, membership_of, absence, in_piece, not_in_piece, heads_and_tails, is_void, lacking, with_piece}
use Rattle.bed_deriv.specs.Checks.{Goals, Needs, Given, Leaves, with_fact, sequent}

-- void, by its fact
abbrev pub void_fact : Pure → Goals
void_fact p = Given 3 (sides p) (λ e. Needs 3 (is_void (seq_form e.0) (seq_form e.1)) (Leaves []))

-- member, by its piece's number: given the goal's word and pieces, and given the goal
abbrev pub member_piece : SymState → Word → List Piece → ℕ → Goals
member_piece s e ps j = Given 2 (numbered ps j) (λ x. Leaves (sequent s (in_piece e x) ∷ []))

abbrev pub member_goal : SymState → Option Pure → ℕ → Goals
member_goal s goal j = Given 3 (membership_of goal) (λ m. member_piece s m.0 (seq_form m.1) j)

-- lacks, given the goal's word and pieces
abbrev pub lacks_pieces : SymState → Word → List Piece → ℕ → Goals
lacks_pieces s e ps n = Needs 1 (n == length ps) (Leaves (lacking s e ps))

-- part, by its piece's number: given the fact's word and pieces, and given the fact
abbrev pub part_piece : Option Pure → Word → List Piece → ℕ → Goals
part_piece goal e ps j = Given 2 (numbered ps j) (λ x. Given 3 goal (λ g. Needs 3 (same_facts g (not_in_piece e x)) (Leaves [])))

abbrev pub part_fact : Option Pure → Pure → ℕ → Goals
part_fact goal p j = Given 3 (absence p) (λ m. part_piece goal m.0 (seq_form m.1) j)

-- one: given the fact's word and pieces, and given the fact
abbrev pub one_pieces : SymState → Option Pure → Word → List Piece → ℕ → Goals
one_pieces s goal e ps n = Needs 1 (n == length ps) (Given 3 goal (λ g. Leaves (with_piece s g e ps)))

abbrev pub one_fact : SymState → Option Pure → Pure → ℕ → Goals
one_fact s goal p n = Given 3 (membership p) (λ m. one_pieces s goal m.0 (seq_form m.1) n)

-- uncons: given the pieces of both sides, and given the fact
abbrev pub uncons_pieces : SymState → Pure → List Piece → List Piece → Goals
uncons_pieces s g ps qs = Given 3 (heads_and_tails ps qs) (λ h. Leaves (sequent (with_fact (with_fact s h.0) h.1) g ∷ []))

abbrev pub uncons_fact : SymState → Pure → Pure → Goals
uncons_fact s g p = Given 3 (sides p) (λ e. uncons_pieces s g (seq_form e.0) (seq_form e.1))
