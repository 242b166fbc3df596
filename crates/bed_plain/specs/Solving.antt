-- Solving a state takes, again and again, the first fact not yet taken to which solve or uncons applies, with the greatest variable that
-- solve allows. Terms are compared after solving.
use Rattle.std.specs.Prelude.{ℕ, zero, suc, ◌+◌, Bool, true, false, not, ◌&&◌, ◌||◌, ◌==◌, nat_lt, if◌then◌else◌, is_some, List, [], ◌∷◌, ◌++◌, Option, Some, None}
use Rattle.std.specs.declared.cmp.Ordering.{Ordering}
use Rattle.std.specs.declared.cmp.Ordering.TheVariants as ordering
use Rattle.bed_lang.specs.declared.word.Var.{Var}
use Rattle.bed_lang.specs.declared.word.Word.{Number, Var as WordVar}
use Rattle.bed_lang.specs.declared.word.Seq.{Var as SeqVar}
use Rattle.bed_lang.specs.declared.form.Key.{Key}
use Rattle.bed_lang.specs.declared.form.Key.TheVariants as key
use Rattle.bed_lang.specs.declared.form.Piece.{Piece}
use Rattle.bed_lang.specs.declared.form.Piece.TheVariants.{Element, Sequence}
use Rattle.bed_lang.specs.declared.logic.Arg.{Arg}
use Rattle.bed_lang.specs.declared.logic.Arg.TheVariants as arg
use Rattle.bed_lang.specs.declared.logic.Pure.{Pure}
use Rattle.bed_lang.specs.declared.logic.Pure.TheVariants.{Equal, Unequal, Less, AtMost, Same, Member, NonMember, Code}
use Rattle.bed_lang.specs.Keys.{key_order}
use Rattle.bed_lang.specs.declared.form.Form.{Form}
use Rattle.bed_lang.specs.Coefficients.{coefficient_in}
use Rattle.bed_lang.specs.Forms.{Part, times_form, seq_form}
use Rattle.bed_lang.specs.Differences.{difference}
use Rattle.bed_lang.specs.Instances.{Instance}
use Rattle.bed_deriv.specs.declared.derivation.Rule.{Rule}
use Rattle.bed_deriv.specs.declared.derivation.Rule.TheVariants as rule
use Rattle.bed_deriv.specs.declared.derivation.DArg.{DArg}
use Rattle.bed_deriv.specs.declared.derivation.DArg.TheVariants as given
use Rattle.bed_deriv.specs.declared.derivation.Deriv.{Deriv}
use Rattle.bed_deriv.specs.declared.state.SymState.{SymState}
use Rattle.bed_lang.specs.SameFacts.{by_norm}
use Rattle.bed_deriv.specs.Fresh.{known_var}
use Rattle.bed_forms.specs.Rebuilt.{form_word, pieces_seq}
use Rattle.bed_deriv.specs.Opening.{first_some, word_set, seq_set, replaced_fact}
use Rattle.bed_deriv.specs.Checks.{has_room, with_fact}
use Rattle.bed_deriv.specs.PureRules.{form_but, is_just, has_sequence, replaced_state}
use Rattle.bed_deriv.specs.ListRules.{sides, heads_and_tails}
use Rattle.bed_plain.specs.declared.solved.Solved.{Solved}
use Rattle.bed_plain.specs.Trees.{node}

-- ---- solve: the variables of a fact, and the greatest one that the rule allows

abbrev pub part_variables : List Part → List Var
part_variables [] = []
part_variables ((key.Var x, c) ∷ ps) = x ∷ part_variables ps
part_variables ((key.Label f, c) ∷ ps) = part_variables ps

abbrev pub piece_variables : List Piece → List Var
piece_variables [] = []
piece_variables (Element f ∷ ps) = piece_variables ps
piece_variables (Sequence x ∷ ps) = x ∷ piece_variables ps

abbrev pub variables_of : Pure → List Var
variables_of (Equal a b) = part_variables (difference a b).parts
variables_of (Same s t) = piece_variables (seq_form s ++ seq_form t)
variables_of _ = []

abbrev pub if_later : Ordering → Var → Var → Var
if_later ordering.Less x y = y
if_later _ x y = x

abbrev pub later : Var → Option Var → Var
later x None = x
later x (Some y) = if_later (key_order (key.Var x) (key.Var y)) x y

-- the value of a variable by a fact, as the rule has it: a word or a sequence, and what everything is read with then
abbrev pub word_value : Var → Form → ℕ → Option Arg
word_value v f c =
    if c == 1 then Some (arg.Word 0 (form_word (times_form 4294967295 (form_but v f))))
    else (if c == 4294967295 then Some (arg.Word 0 (form_word (form_but v f))) else None)

abbrev pub seq_value : Var → List Piece → List Piece → Option Arg
seq_value v ps qs =
    if is_just v ps && not (has_sequence v qs) then Some (arg.Seq 0 (pieces_seq qs))
    else (if is_just v qs && not (has_sequence v ps) then Some (arg.Seq 0 (pieces_seq ps)) else None)

abbrev pub solved_value : Var → Pure → Option Arg
solved_value v (Equal a b) = word_value v (difference a b) (coefficient_in (key.Var v) (difference a b).parts)
solved_value v (Same s t) = seq_value v (seq_form s) (seq_form t)
solved_value v _ = None

abbrev pub setting : Var × Arg → Instance
setting (v, arg.Word i w) = word_set v w
setting (v, arg.Seq i q) = seq_set v q
setting (v, arg.Bare name) = word_set v (Number 0)

abbrev pub greatest_allowed : Pure → List Var → Option Var
greatest_allowed p [] = None
greatest_allowed p (x ∷ xs) = if is_some (solved_value x p) then Some (later x (greatest_allowed p xs)) else greatest_allowed p xs

-- the variable of a fact as an argument
abbrev pub variable_arg : Pure → Var → DArg
variable_arg (Same s t) x = given.Arg (arg.Seq 0 (SeqVar x))
variable_arg _ x = given.Arg (arg.Word 0 (WordVar x))

-- ---- one step

abbrev pub if_room : SymState → Solved → Option Solved
if_room s x = if has_room s then Some x else None

abbrev pub replacing_by : SymState → ℕ → DArg → Var → Option Arg → Option Solved
replacing_by s i x v None = None
replacing_by s i x v (Some a) =
    let z = replaced_state (setting (v, a)) s in
    if_room z (record { fact = i; rule = rule.Solve; args = given.Number i ∷ x ∷ []; reading = Some (v, a); state = z })

abbrev pub known_only : SymState → Option Var → Option Var
known_only s None = None
known_only s (Some x) = if known_var s.next x then Some x else None

abbrev pub by_solve : SymState → ℕ → Pure → Option Var → Option Solved
by_solve s i p None = None
by_solve s i p (Some x) = replacing_by s i (variable_arg p x) x (solved_value x p)

abbrev pub with_parts : SymState → ℕ → Option (Pure × Pure) → Option Solved
with_parts s i None = None
with_parts s i (Some h) =
    let z = with_fact (with_fact s h.0) h.1 in
    if_room z (record { fact = i; rule = rule.Uncons; args = given.Number i ∷ []; reading = None; state = z })

abbrev pub parts_of : Pure → Option (Pure × Pure)
parts_of (Same s t) = heads_and_tails (seq_form s) (seq_form t)
parts_of _ = None

abbrev pub step_at : SymState → ℕ → Pure → Option Solved
step_at s i p = first_some (by_solve s i p (known_only s (greatest_allowed p (variables_of p)))) (with_parts s i (parts_of p))

abbrev pub is_among : ℕ → List ℕ → Bool
is_among n [] = false
is_among n (m ∷ ms) = (n == m) || is_among n ms

-- the first fact from a number on that isn't taken and to which solve or uncons applies
abbrev pub first_step : SymState → List ℕ → ℕ → List Pure → Option Solved
first_step s taken i [] = None
first_step s taken i (p ∷ ps) =
    if is_among i taken then first_step s taken (i + 1) ps else first_some (step_at s i p) (first_step s taken (i + 1) ps)

-- ---- again and again

-- A state has at most 4294967295 facts, and each step takes one.
abbrev pub most_steps : ℕ
most_steps = 4294967296

abbrev pub solving_after : (List ℕ → SymState → List Solved) → List ℕ → Option Solved → List Solved
solving_after more taken None = []
solving_after more taken (Some x) = x ∷ more (taken ++ x.fact ∷ []) x.state

unfoldable pub solving_within : ℕ → List ℕ → SymState → List Solved
solving_within zero taken s = []
solving_within (suc n) taken s = solving_after (solving_within n) taken (first_step s taken 1 s.facts)

unfoldable pub solving : SymState → List Solved
solving s = solving_within most_steps [] s

-- the state, and a goal, after steps
abbrev pub state_after : SymState → List Solved → SymState
state_after s [] = s
state_after s (x ∷ xs) = state_after x.state xs

abbrev pub read_with : Option (Var × Arg) → Pure → Pure
read_with None g = g
read_with (Some x) g = replaced_fact (setting x) g

abbrev pub goal_after : List Solved → Pure → Pure
goal_after [] g = g
goal_after (x ∷ xs) g = goal_after xs (read_with x.reading g)

abbrev pub solved : SymState → SymState
solved s = state_after s (solving s)

abbrev pub solved_goal : SymState → Pure → Pure
solved_goal s g = goal_after (solving s) g

-- the nodes of solving, in their order, above a tree
abbrev pub solving_tree : List Solved → Deriv → Deriv
solving_tree [] t = t
solving_tree (x ∷ xs) t = node x.rule x.args (solving_tree xs t ∷ [])

-- two arguments agree after solving
abbrev pub agree : SymState → Arg → Arg → Bool
agree s (arg.Word i a) (arg.Word j b) = by_norm (solved_goal s (Equal a b))
agree s (arg.Seq i a) (arg.Seq j b) = by_norm (solved_goal s (Same a b))
agree s _ _ = false
