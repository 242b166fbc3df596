-- Rules that change a state prove no fact: at a goal that is a fact their third premise never holds. What stands before it is tested
-- there as everywhere: the numbers of arguments and of children, and each argument.
use Rattle.std.specs.Prelude.{ℕ, ◌+◌, Bool, true, false, ◌&&◌, ◌==◌, nat_le, List, [], ◌∷◌, length, take, drop, Option, Some, None, is_some}
use Rattle.bed_lang.specs.declared.word.Name.{Name}
use Rattle.bed_lang.specs.declared.logic.Arg.{Arg}
use Rattle.bed_lang.specs.declared.logic.Atom.{Atom}
use Rattle.bed_lang.specs.declared.logic.Bind.{Bind}
use Rattle.bed_lang.specs.declared.logic.Assertion.{Assertion}
use Rattle.bed_lang.specs.declared.module.Predicate.{Predicate}
use Rattle.bed_lang.specs.declared.condition.Decls.{Decls}
use Rattle.bed_lang.specs.Lookups.{predicate_named}
use Rattle.bed_deriv.specs.declared.derivation.DArg.{DArg}
use Rattle.bed_deriv.specs.declared.state.SymState.{SymState}
use Rattle.bed_deriv.specs.Arguments.{at_number, number_at, name_at, word_at, fact_given, atom_at, to_value, counts}
use Rattle.bed_deriv.specs.Checks.{Goals, Needs, Given, Fails}
use Rattle.bed_deriv.specs.Matches.{count_of_goals, count_of_atoms}
use Rattle.bed_deriv.specs.HeapRules.{declared, Shape, CellToBytes, BytesToCell, BlockToCell, CellToBlock, DropBlock, shapes}

-- whether the argument at a place is the number of an atom
abbrev pub is_atom : SymState → List DArg → ℕ → Bool
is_atom s args i = is_some (atom_at s args i)

-- claim[φ], and when[φ]
abbrev pub claim_refused : SymState → List DArg → ℕ → Goals
claim_refused s args n = Needs 1 (counts args 1 n 2) (Given 2 (fact_given s args 0) (λ p. Fails 3))

-- never
abbrev pub never_refused : List DArg → ℕ → Goals
never_refused args n = Needs 1 (counts args 0 n 1) (Fails 3)

-- unfold[i], given the predicate, and given the atom
abbrev pub cases_refused : Predicate × List Arg → ℕ → Goals
cases_refused p n = Needs 1 (n == length p.0.cases) (Fails 3)

abbrev pub unfold_atom : Decls → ℕ → Atom → Goals
unfold_atom d n x = Given 3 (declared d x) (λ p. cases_refused p n)

abbrev pub unfold_refused : Decls → SymState → List DArg → ℕ → Goals
unfold_refused d s args n = Needs 1 (length args == 1) (Given 2 (atom_at s args 0) (λ x. unfold_atom d n x))

-- fold[P, c, arguments, values of the binders of case c, atoms]: the arguments after the second, given the predicate and the case; given
-- the predicate
abbrev pub fold_counts : List DArg → ℕ → Predicate → Assertion → Bool
fold_counts args n p A =
    (length args == 2 + length p.params + length A.binders + count_of_atoms A.terms) && (n == count_of_goals A.terms + 1)

abbrev pub are_values : ℕ → List Bind → List DArg → Bool
are_values next [] args = true
are_values next (b ∷ bs) [] = false
are_values next (b ∷ bs) (a ∷ args) = is_some (to_value next b.sort (Some a)) && are_values next bs args

abbrev pub are_numbers : SymState → List DArg → Bool
are_numbers s [] = true
are_numbers s (a ∷ args) = is_atom s (a ∷ args) 0 && are_numbers s args

abbrev pub fold_values : SymState → List DArg → Predicate → Assertion → Bool
fold_values s args p A =
    are_values s.next p.params (take (length p.params) (drop 2 args))
    && (are_values s.next A.binders (take (length A.binders) (drop (2 + length p.params) args))
    && are_numbers s (drop (2 + length p.params + length A.binders) args))

abbrev pub fold_case : SymState → List DArg → ℕ → Predicate → Assertion → Goals
fold_case s args n p A = Needs 1 (fold_counts args n p A) (Needs 2 (fold_values s args p A) (Fails 3))

abbrev pub fold_predicate : SymState → List DArg → ℕ → Predicate → Goals
fold_predicate s args n p = Given 2 (at_number p.cases (number_at args 1)) (λ A. fold_case s args n p A)

abbrev pub predicate_at : Decls → Option Name → Option Predicate
predicate_at d None = None
predicate_at d (Some x) = predicate_named d x.bytes

abbrev pub fold_refused : Decls → SymState → List DArg → ℕ → Goals
fold_refused d s args n = Needs 1 (nat_le 2 (length args)) (Given 2 (predicate_at d (name_at args 0)) (λ p. fold_predicate s args n p))

-- divide[i, m]
abbrev pub divide_refused : SymState → List DArg → ℕ → Goals
divide_refused s args n =
    Needs 1 (counts args 2 n 2) (Given 2 (atom_at s args 0) (λ x. Given 2 (word_at s args 1) (λ m. Fails 3)))

-- append[i, j], and merge[i, j]
abbrev pub pair_refused : SymState → List DArg → ℕ → Goals
pair_refused s args n =
    Needs 1 (counts args 2 n 2) (Given 2 (atom_at s args 0) (λ x. Given 2 (atom_at s args 1) (λ y. Fails 3)))

-- shape[k, i] with so many children
abbrev pub atom_refused : SymState → List DArg → ℕ → ℕ → Goals
atom_refused s args n children = Needs 1 (counts args 2 n children) (Given 2 (atom_at s args 1) (λ x. Fails 3))

-- shape[2, i, j, k, l]
abbrev pub are_atoms : SymState → List DArg → Bool
are_atoms s args = is_atom s args 1 && (is_atom s args 2 && (is_atom s args 3 && is_atom s args 4))

abbrev pub bytes_refused : SymState → List DArg → ℕ → Goals
bytes_refused s args n = Needs 1 (counts args 5 n 5) (Needs 2 (are_atoms s args) (Fails 3))

abbrev pub form_refused : Shape → SymState → List DArg → ℕ → Goals
form_refused CellToBytes s args n = atom_refused s args n 1
form_refused BytesToCell s args n = bytes_refused s args n
form_refused BlockToCell s args n = atom_refused s args n 2
form_refused CellToBlock s args n = atom_refused s args n 1
form_refused DropBlock s args n = atom_refused s args n 2

-- shape[k, ..]
abbrev pub shape_refused : SymState → List DArg → ℕ → Goals
shape_refused s args n =
    Needs 1 (nat_le 1 (length args)) (Given 2 (at_number shapes (number_at args 0)) (λ form. form_refused form s args n))
