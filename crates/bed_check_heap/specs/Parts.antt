-- The rest of a rule behind its first premises, given what these found.
use Rattle.std.specs.Prelude.{◌≡◌, ℕ, ◌+◌, ◌==◌, not, List, [], ◌∷◌, Option, Result, Ok, Err}
use Rattle.bed_lang.specs.declared.word.Word.{Word, Number, Add, Sub, Times}
use Rattle.bed_lang.specs.declared.logic.Pure.{Pure}
use Rattle.bed_lang.specs.declared.logic.Pure.TheVariants.{Equal, AtMost}
use Rattle.bed_lang.specs.declared.logic.Atom.{Atom}
use Rattle.bed_lang.specs.declared.logic.Atom.TheVariants.{Cell, Block}
use Rattle.bed_lang.specs.declared.condition.Decls.{Decls}
use Rattle.bed_deriv.specs.declared.derivation.DArg.{DArg}
use Rattle.bed_deriv.specs.declared.state.SymState.{SymState}
use Rattle.bed_deriv.specs.declared.state.Remainder.{Remainder}
use Rattle.bed_deriv.specs.Arguments.{numbered, number_at, word_at}
use Rattle.bed_deriv.specs.Matches.{atoms_left}
use Rattle.bed_deriv.specs.declared.derivation.Rule.{Rule}
use Rattle.bed_deriv.specs.Derives.{Purpose, ForFacts, ForStates, ForSteps, ForEnds, purpose, heap_rule}
use Rattle.bed_deriv.specs.HeapRules.{taken, both_taken, with_atom, block_of, cell_of, byte_of, fresh_word, four_bytes, with_next, bytes_at, follows}
use Rattle.bed_deriv.specs.Checks.{Step, Needs, Given, first_failure, leaves, with_room, left_states, with_fact}
use Rattle.bed_check_pure.specs.declared.fault.Fault.{Fault}
use Rattle.bed_check_pure.specs.declared.fault.Fault.TheVariants.{Count, Argument, Condition, Memory}
use Rattle.bed_check_heap.specs.Steps.{refused_rest}

-- what is left of one fact and one state
abbrev pub goal_and : Pure → SymState → Remainder
goal_and p s = record { goals = p ∷ []; states = s ∷ [] }

abbrev pub only : SymState → Remainder
only s = record { goals = []; states = s ∷ [] }

-- ---- when

-- by the negation of the fact
abbrev pub cases_of : SymState → Pure → Option Pure → Step
cases_of s p other = Given 3 other (λ q. leaves [] (with_fact s p ∷ with_fact s q ∷ []))

-- ---- divide

abbrev pub divided_state : SymState → ℕ → Word → Word → Word → SymState
divided_state s i e k m = with_atom (with_atom (taken s i) (Block e m)) (Block (Add e (Times 4 m)) (Sub k m))

abbrev pub divided : SymState → ℕ → Word → Word → Word → Remainder
divided s i e k m = goal_and (AtMost m k) (divided_state s i e k m)

abbrev pub divide_atom : SymState → ℕ → Atom → Word → Step
divide_atom s i x m =
    Given 3 (block_of x) (λ b.
    leaves (AtMost m b.1 ∷ []) (with_atom (with_atom (taken s i) (Block b.0 m)) (Block (Add b.0 (Times 4 m)) (Sub b.1 m)) ∷ []))

abbrev pub divide_from : SymState → List DArg → ℕ → Atom → Step
divide_from s args i x = Given 2 (word_at s args 1) (λ m. divide_atom s i x m)

-- ---- merge

abbrev pub merged_state : SymState → ℕ → ℕ → Word → Word → Word → SymState
merged_state s i j e k l = with_atom (both_taken s i j) (Block e (Add k l))

abbrev pub merge_blocks : SymState → ℕ → ℕ → Word → Word → Atom → Step
merge_blocks s i j e k y =
    Given 3 (block_of y) (λ c.
    leaves (Equal c.0 (Add e (Times 4 k)) ∷ []) (with_atom (both_taken s i j) (Block e (Add k c.1)) ∷ []))

abbrev pub merge_atoms : SymState → ℕ → ℕ → Atom → Atom → Step
merge_atoms s i j x y = Needs 3 (not (i == j)) (Given 3 (block_of x) (λ b. merge_blocks s i j b.0 b.1 y))

abbrev pub merge_from : SymState → List DArg → ℕ → Atom → Step
merge_from s args i x = Given 2 (number_at args 1) (λ j. Given 2 (numbered s.atoms j) (λ y. merge_atoms s i j x y))

-- ---- shapes

-- the answer of a rule is this, but for want of memory; where a state that the rule makes has no room, the third premise fails
abbrev pub AnswersRoom : Result Remainder Fault → Result Remainder ℕ → Type 0
AnswersRoom (Ok m) r = r ≡ Ok m
AnswersRoom (Err Count) r = with_room left_states r ≡ Err 1
AnswersRoom (Err Argument) r = with_room left_states r ≡ Err 2
AnswersRoom (Err Condition) r = with_room left_states r ≡ Err 3
AnswersRoom (Err Memory) r = Unit {0}

abbrev pub bytes_made : SymState → ℕ → Word → Word → SymState
bytes_made s i e v =
    with_fact (bytes_at (with_next (taken s i) 4) e s.next)
    (Equal v (four_bytes (fresh_word s.next) (fresh_word (s.next + 1)) (fresh_word (s.next + 2)) (fresh_word (s.next + 3))))

abbrev pub bytes_of_cell : SymState → ℕ → Atom → Step
bytes_of_cell s i x =
    Given 3 (cell_of x) (λ c.
    let f = s.next in
    leaves [] (with_fact (bytes_at (with_next (taken s i) 4) c.0 f)
    (Equal c.1 (four_bytes (fresh_word f) (fresh_word (f + 1)) (fresh_word (f + 2)) (fresh_word (f + 3)))) ∷ []))

abbrev pub cell_of_block : SymState → ℕ → Atom → Step
cell_of_block s i x =
    Given 3 (block_of x) (λ b.
    leaves (Equal b.1 (Number 1) ∷ []) (with_atom (with_next (taken s i) 1) (Cell b.0 (fresh_word s.next)) ∷ []))

abbrev pub cell_from_block : SymState → ℕ → Word → Word → Remainder
cell_from_block s i e k = goal_and (Equal k (Number 1)) (with_atom (with_next (taken s i) 1) (Cell e (fresh_word s.next)))

abbrev pub block_from_cell : SymState → ℕ → Word → Remainder
block_from_cell s i e = only (with_atom (taken s i) (Block e (Number 1)))

abbrev pub block_dropped : SymState → ℕ → Word → Remainder
block_dropped s i k = goal_and (Equal k (Number 0)) (taken s i)

abbrev pub block_of_cell : SymState → ℕ → Atom → Step
block_of_cell s i x = Given 3 (cell_of x) (λ c. leaves [] (with_atom (taken s i) (Block c.0 (Number 1)) ∷ []))

abbrev pub without_block : SymState → ℕ → Atom → Step
without_block s i x = Given 3 (block_of x) (λ b. leaves (Equal b.1 (Number 0) ∷ []) (taken s i ∷ []))

-- a cell in place of the bytes that are chosen, by its address and their contents; and four bytes, by their addresses and contents
abbrev pub cell_joined : SymState → List (ℕ × Atom) → Word → Word → Word → Word → Word → SymState
cell_joined s cs a u v w x = with_atom (record s { atoms = atoms_left cs 1 s.atoms }) (Cell a (four_bytes u v w x))

abbrev pub bytes_joined : SymState → List (ℕ × Atom) → Word → Word → Word → Word → Word → Word → Word → Word → Remainder
bytes_joined s cs a u b v c w e x =
    record {
      goals = AtMost a (Number 4294967292) ∷ follows a b 1 ∷ follows a c 2 ∷ follows a e 3 ∷ [];
      states = cell_joined s cs a u v w x ∷ [];
    }

-- the third and the fourth of four bytes
abbrev pub last_bytes : SymState → List (ℕ × Atom) → Word × Word → Word × Word → Atom → Atom → Step
last_bytes s cs a b y z =
    Given 3 (byte_of y) (λ c. Given 3 (byte_of z) (λ e.
    leaves (AtMost a.0 (Number 4294967292) ∷ follows a.0 b.0 1 ∷ follows a.0 c.0 2 ∷ follows a.0 e.0 3 ∷ [])
    (with_atom (record s { atoms = atoms_left cs 1 s.atoms }) (Cell a.0 (four_bytes a.1 b.1 c.1 e.1)) ∷ [])))

-- ---- the rules

-- what a rule leaves, whether or not its states have room
abbrev pub raw_at : Decls → Purpose → Rule → SymState → List DArg → ℕ → Result Remainder ℕ
raw_at d ForFacts r s args n = refused_rest d r s args n
raw_at d ForStates r s args n = first_failure (heap_rule d r s args n)
raw_at d ForSteps r s args n = Err 3
raw_at d ForEnds r s args n = Err 3

abbrev pub raw_rule : Decls → Rule → SymState → List DArg → ℕ → Result Remainder ℕ
raw_rule d r s args n = raw_at d (purpose r) r s args n
