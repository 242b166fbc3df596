-- A match of terms with atoms of a state: one atom for each atom of the terms, in order, all different and each of the same kind and
-- predicate. What is left to prove, in the order of the terms: a pure term gives itself, an atom one equation for each of its
-- arguments, the terms' side on the left.
use Rattle.std.specs.Prelude.{ℕ, ◌+◌, Bool, true, false, ◌&&◌, ◌||◌, ◌==◌, not, if◌then◌else◌, List, [], ◌∷◌, ◌++◌, length, Option, Some, None}
use Rattle.bed_lang.specs.declared.logic.Arg.{Arg}
use Rattle.bed_lang.specs.declared.logic.Arg.TheVariants as arg
use Rattle.bed_lang.specs.declared.logic.Pure.{Pure}
use Rattle.bed_lang.specs.declared.logic.Pure.TheVariants.{Equal, Same}
use Rattle.bed_lang.specs.declared.logic.Atom.{Atom}
use Rattle.bed_lang.specs.declared.logic.Atom.TheVariants.{Cell, Byte, Block, Pred}
use Rattle.bed_lang.specs.declared.logic.Term.{Term}
use Rattle.bed_lang.specs.declared.logic.Term.TheVariants as term
use Rattle.bed_lang.specs.Same.{same_name}
use Rattle.bed_deriv.specs.declared.derivation.DArg.{DArg}
use Rattle.bed_deriv.specs.Arguments.{numbered, to_number}

-- how many goals a match has: its children
abbrev pub atom_goals : Atom → ℕ
atom_goals (Cell a v) = 2
atom_goals (Byte a v) = 2
atom_goals (Block a n) = 2
atom_goals (Pred name args) = length args

abbrev pub term_goals : Term → ℕ
term_goals term.Emp = 0
term_goals (term.Pure p) = 1
term_goals (term.Atom a) = atom_goals a

abbrev pub count_of_goals : List Term → ℕ
count_of_goals [] = 0
count_of_goals (t ∷ ts) = term_goals t + count_of_goals ts

-- how many atoms it takes
abbrev pub term_atoms : Term → ℕ
term_atoms (term.Atom a) = 1
term_atoms _ = 0

abbrev pub count_of_atoms : List Term → ℕ
count_of_atoms [] = 0
count_of_atoms (t ∷ ts) = term_atoms t + count_of_atoms ts

-- ---- the atoms that are chosen

abbrev pub with_number : Option Atom → Option ℕ → Option (ℕ × Atom)
with_number (Some x) (Some n) = Some (n, x)
with_number _ _ = None

abbrev pub atom_numbered : List Atom → Option ℕ → Option (ℕ × Atom)
atom_numbered xs None = None
atom_numbered xs (Some n) = with_number (numbered xs n) (Some n)

abbrev pub choice_before : Option (ℕ × Atom) → Option (List (ℕ × Atom)) → Option (List (ℕ × Atom))
choice_before (Some x) (Some more) = Some (x ∷ more)
choice_before _ _ = None

-- arguments as numbers of atoms, each with its atom
abbrev pub chosen : List Atom → List DArg → Option (List (ℕ × Atom))
chosen xs [] = Some []
chosen xs (a ∷ more) = choice_before (atom_numbered xs (to_number (Some a))) (chosen xs more)

abbrev pub is_chosen : ℕ → List (ℕ × Atom) → Bool
is_chosen n [] = false
is_chosen n (c ∷ cs) = (c.0 == n) || is_chosen n cs

-- no atom is chosen twice
abbrev pub all_different : List (ℕ × Atom) → Bool
all_different [] = true
all_different (c ∷ cs) = not (is_chosen c.0 cs) && all_different cs

-- the numbers, and the atoms, that aren't chosen, in order; the first atom has number n
abbrev pub numbers_left : List (ℕ × Atom) → ℕ → List Atom → List ℕ
numbers_left cs n [] = []
numbers_left cs n (x ∷ xs) = if is_chosen n cs then numbers_left cs (n + 1) xs else n ∷ numbers_left cs (n + 1) xs

abbrev pub atoms_left : List (ℕ × Atom) → ℕ → List Atom → List Atom
atoms_left cs n [] = []
atoms_left cs n (x ∷ xs) = if is_chosen n cs then atoms_left cs (n + 1) xs else x ∷ atoms_left cs (n + 1) xs

-- ---- the goals

abbrev pub arg_goal : Arg → Arg → Option Pure
arg_goal (arg.Word at a) (arg.Word place b) = Some (Equal a b)
arg_goal (arg.Seq at s) (arg.Seq place t) = Some (Same s t)
arg_goal _ _ = None

abbrev pub goal_before : Option Pure → Option (List Pure) → Option (List Pure)
goal_before (Some p) (Some ps) = Some (p ∷ ps)
goal_before _ _ = None

abbrev pub arg_equations : List Arg → List Arg → Option (List Pure)
arg_equations [] [] = Some []
arg_equations (a ∷ more) (b ∷ others) = goal_before (arg_goal a b) (arg_equations more others)
arg_equations _ _ = None

-- an atom with the one that is chosen for it
abbrev pub atom_equations : Atom → Atom → Option (List Pure)
atom_equations (Cell a v) (Cell b w) = Some (Equal a b ∷ Equal v w ∷ [])
atom_equations (Byte a v) (Byte b w) = Some (Equal a b ∷ Equal v w ∷ [])
atom_equations (Block a n) (Block b m) = Some (Equal a b ∷ Equal n m ∷ [])
atom_equations (Pred name args) (Pred other others) = if same_name name other then arg_equations args others else None
atom_equations _ _ = None

abbrev pub goals_before : Option (List Pure) → Option (List Pure) → Option (List Pure)
goals_before (Some ps) (Some qs) = Some (ps ++ qs)
goals_before _ _ = None

-- terms with the atoms that are chosen for their atoms, in order
abbrev pub match_goals : List Term → List (ℕ × Atom) → Option (List Pure)
match_goals [] [] = Some []
match_goals [] (c ∷ cs) = None
match_goals (term.Emp ∷ ts) cs = match_goals ts cs
match_goals (term.Pure p ∷ ts) cs = goal_before (Some p) (match_goals ts cs)
match_goals (term.Atom a ∷ ts) [] = None
match_goals (term.Atom a ∷ ts) (c ∷ cs) = goals_before (atom_equations a c.1) (match_goals ts cs)
