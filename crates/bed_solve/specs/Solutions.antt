-- What solving a state gives, as code has it: the nodes of its steps, the values with which goals are read, and the last state.
use Rattle.std.specs.Prelude.{◌≡◌, List, [], ◌∷◌, ◌++◌, Option, Some, None}
use Rattle.bed_lang.specs.declared.word.Var.{Var}
use Rattle.bed_lang.specs.declared.logic.Arg.{Arg}
use Rattle.bed_lang.specs.declared.logic.Pure.{Pure}
use Rattle.bed_deriv.specs.declared.derivation.Deriv.{Deriv}
use Rattle.bed_deriv.specs.declared.state.SymState.{SymState}
use Rattle.bed_deriv.specs.Opening.{replaced_fact}
use Rattle.bed_plain.specs.declared.solved.Solved.{Solved}
use Rattle.bed_plain.specs.Trees.{Choice, node}
use Rattle.bed_plain.specs.Solving.{setting, solving, solved}
use Rattle.bed_solve.specs.declared.solution.Solution.{Solution}

-- the nodes of steps, and the values with which goals are read after them, in order
abbrev pub choices : List Solved → List Choice
choices [] = []
choices (x ∷ xs) = (x.rule, x.args) ∷ choices xs

abbrev pub reading_alone : Option (Var × Arg) → List (Var × Arg)
reading_alone None = []
reading_alone (Some x) = x ∷ []

abbrev pub readings : List Solved → List (Var × Arg)
readings [] = []
readings (x ∷ xs) = reading_alone x.reading ++ readings xs

-- the solution has the steps of solving the state
pub record IsSolution (s : SymState) (x : Solution) : Type 0 where
  pub nodes : x.nodes ≡ choices (solving s)
  pub values : x.readings ≡ readings (solving s)
  pub state : x.state ≡ solved s

-- a solution of no steps, and one with a further step
abbrev pub unsolved : SymState → Solution
unsolved s = record { nodes = []; readings = []; state = s }

abbrev pub with_step : Solution → Solved → Solution
with_step x y = record { nodes = x.nodes ++ (y.rule, y.args) ∷ []; readings = x.readings ++ reading_alone y.reading; state = y.state }

-- a goal read with values, one after the other
abbrev pub read_all : List (Var × Arg) → Pure → Pure
read_all [] g = g
read_all (x ∷ xs) g = read_all xs (replaced_fact (setting x) g)

-- a tree below nodes that stand one in another
abbrev pub under : List Choice → Deriv → Deriv
under [] t = t
under (c ∷ cs) t = node c.0 c.1 (under cs t ∷ [])
