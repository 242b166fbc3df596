-- What the checker of facts answers.
use Rattle.std.specs.Prelude.{◌≡◌, ℕ, Result, Ok, Err}
use Rattle.bed_lang.specs.declared.logic.Pure.{Pure}
use Rattle.bed_lang.specs.declared.condition.Decls.{Decls}
use Rattle.bed_deriv.specs.declared.derivation.Deriv.{Deriv}
use Rattle.bed_deriv.specs.declared.state.SymState.{SymState}
use Rattle.bed_deriv.specs.declared.state.Sequent.{Sequent}
use Rattle.bed_deriv.specs.Checks.{sequent, remainder}
use Rattle.bed_deriv.specs.Walk.{Table, Walked, walk}
use Rattle.bed_deriv.specs.Derives.{Purpose, ForFacts, ForStates, ForSteps, ForEnds, purpose, fact_table, heap_rule, refused}
use Rattle.bed_check_pure.specs.declared.verdict.Verdict.{Verdict}
use Rattle.bed_check_pure.specs.declared.verdict.Verdict.TheVariants.{Reject, Memory}

-- The rules at a fact: the nineteen for facts. Every other rule proves none: a node of a rule that changes a state is refused by the first
-- of its premises that fails, or else by the third; a node of step or finish by the third.
abbrev pub at_fact : Decls → Purpose → Table Sequent
at_fact d ForFacts r q args n = fact_table d r q args n
at_fact d ForStates r q args n = refused (remainder (heap_rule d r q.state args n))
at_fact d ForSteps r q args n = Err 3
at_fact d ForEnds r q args n = Err 3

unfoldable pub goal_table : Decls → Table Sequent
goal_table d r q args n = at_fact d (purpose r) r q args n

-- the walk of a tree for a goal in a state; its root has number 1
abbrev pub walked : Decls → SymState → Pure → Deriv → Walked
walked d s goal t = walk (goal_table d) t (sequent s goal) 1

-- The answer is that of the walk, but for want of memory: Ok where every node is an instance of its rule, else the first node in
-- preorder that isn't, with its first failing premise.
abbrev pub Answers : Result (Unit {0}) Verdict → Walked → Type 0
Answers (Ok u) w = (last : ℕ) × (w ≡ Ok last)
Answers (Err (Reject node premise)) w = w ≡ Err (node, premise)
Answers (Err Memory) w = Unit {0}
