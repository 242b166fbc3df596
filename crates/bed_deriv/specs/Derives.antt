-- What derives: the thirty rules in one table, and a condition's derivation.
use Rattle.std.specs.Prelude.{◌≡◌, ℕ, List, [], ◌∷◌, ◌++◌, map, Result, Ok, Err, Option, Some, None}
use Rattle.bed_lang.specs.declared.word.Name.{Name}
use Rattle.bed_lang.specs.declared.logic.Pure.{Pure}
use Rattle.bed_lang.specs.declared.condition.Decls.{Decls}
use Rattle.bed_lang.specs.declared.condition.Cond.{Cond}
use Rattle.bed_deriv.specs.declared.derivation.Rule.{Rule}
use Rattle.bed_deriv.specs.declared.derivation.Rule.TheVariants as rule
use Rattle.bed_deriv.specs.declared.derivation.DArg.{DArg}
use Rattle.bed_deriv.specs.declared.derivation.Deriv.{Deriv}
use Rattle.bed_deriv.specs.declared.state.SymState.{SymState}
use Rattle.bed_deriv.specs.declared.state.Sequent.{Sequent}
use Rattle.bed_deriv.specs.declared.state.Remainder.{Remainder}
use Rattle.bed_deriv.specs.Opening.{started}
use Rattle.bed_deriv.specs.Checks.{Goals, Step, Fails, outcome, remainder, sequent}
use Rattle.bed_deriv.specs.PureRules.{hyp, norm, comb, solve, order, cut, carry, split, contradiction, distinct, bound, label}
use Rattle.bed_deriv.specs.ListRules.{uncons, void, member, lacks, part, one}
use Rattle.bed_deriv.specs.Chains.{chain}
use Rattle.bed_deriv.specs.HeapRules.{claim, case_split, never, unfold_rule, fold_rule, append_rule, divide, merge, shape}
use Rattle.bed_deriv.specs.declared.rest.Rest.{Rest}
use Rattle.bed_deriv.specs.declared.rest.Onward.{Onward}
use Rattle.bed_deriv.specs.declared.rest.Task.{Task}
use Rattle.bed_deriv.specs.declared.rest.Task.TheVariants.{Proves, Closes}
use Rattle.bed_deriv.specs.Steps.{onward_of, step, finish}
use Rattle.bed_deriv.specs.Walk.{Table, Walked, walk}

-- the rules for a fact
abbrev pub pure_rule : Decls → Rule → SymState → Option Pure → List DArg → ℕ → Goals
pure_rule d rule.Hyp s goal args n = hyp s goal args n
pure_rule d rule.Norm s goal args n = norm goal args n
pure_rule d rule.Comb s goal args n = comb s goal args n
pure_rule d rule.Solve s goal args n = solve s goal args n
pure_rule d rule.Uncons s goal args n = uncons s goal args n
pure_rule d rule.Chain s goal args n = chain s goal args n
pure_rule d rule.Order s goal args n = order s goal args n
pure_rule d rule.Cut s goal args n = cut s goal args n
pure_rule d rule.Carry s goal args n = carry s goal args n
pure_rule d rule.Split s goal args n = split s goal args n
pure_rule d rule.Absurd s goal args n = contradiction s goal args n
pure_rule d rule.Void s goal args n = void s goal args n
pure_rule d rule.Member s goal args n = member s goal args n
pure_rule d rule.Lacks s goal args n = lacks s goal args n
pure_rule d rule.Part s goal args n = part s goal args n
pure_rule d rule.One s goal args n = one s goal args n
pure_rule d rule.Distinct s goal args n = distinct s goal args n
pure_rule d rule.Bound s goal args n = bound s goal args n
pure_rule d rule.Label s goal args n = label d goal args n
pure_rule d _ s goal args n = Fails 3

-- the rules for the rest of a condition that change its state alone
abbrev pub heap_rule : Decls → Rule → SymState → List DArg → ℕ → Step
heap_rule d rule.Claim s args n = claim s args n
heap_rule d rule.When s args n = case_split s args n
heap_rule d rule.Never s args n = never args n
heap_rule d rule.Unfold s args n = unfold_rule d s args n
heap_rule d rule.Fold s args n = fold_rule d s args n
heap_rule d rule.Append s args n = append_rule d s args n
heap_rule d rule.Divide s args n = divide s args n
heap_rule d rule.Merge s args n = merge s args n
heap_rule d rule.Shape s args n = shape s args n
heap_rule d _ s args n = Fails 3

-- what a rule is for
pub data Purpose : Type 0 where
  ForFacts : Purpose
  ForStates : Purpose
  ForSteps : Purpose
  ForEnds : Purpose

abbrev pub purpose : Rule → Purpose
purpose rule.Claim = ForStates
purpose rule.When = ForStates
purpose rule.Never = ForStates
purpose rule.Unfold = ForStates
purpose rule.Fold = ForStates
purpose rule.Append = ForStates
purpose rule.Divide = ForStates
purpose rule.Merge = ForStates
purpose rule.Shape = ForStates
purpose rule.Step = ForSteps
purpose rule.Finish = ForEnds
purpose _ = ForFacts

-- a goal in a state, for rules that prove facts
abbrev pub fact_table : Decls → Table Sequent
fact_table d r q args n = outcome (pure_rule d r q.state (Some q.goal) args n)

-- a rule for facts never meets its own condition at the rest of a condition, nor any other rule at a fact
abbrev pub refused : {A B : Type 0} → Result A ℕ → Result B ℕ
refused (Err p) = Err p
refused (Ok x) = Err 3

abbrev pub facts_to_prove : SymState → List Pure → List Task
facts_to_prove s [] = []
facts_to_prove s (g ∷ gs) = Proves (sequent s g) ∷ facts_to_prove s gs

abbrev pub proofs : Result (List Sequent) ℕ → Result (List Task) ℕ
proofs (Err p) = Err p
proofs (Ok qs) = Ok (map Proves qs)

abbrev pub from_states : Rest → List SymState → List Task
from_states r [] = []
from_states r (s ∷ ss) = Closes (record r { state = s }) ∷ from_states r ss

abbrev pub states_to_close : Rest → Result Remainder ℕ → Result (List Task) ℕ
states_to_close r (Err p) = Err p
states_to_close r (Ok m) = Ok (facts_to_prove r.state m.goals ++ from_states r m.states)

abbrev pub rests_to_close : Rest → Result Onward ℕ → Result (List Task) ℕ
rests_to_close r (Err p) = Err p
rests_to_close r (Ok o) = Ok (facts_to_prove r.state o.goals ++ map Closes o.rests)

abbrev pub by_purpose : Decls → Name → Purpose → Table Task
by_purpose d function ForFacts r (Proves q) args n = proofs (fact_table d r q args n)
by_purpose d function ForFacts r (Closes e) args n = refused (outcome (pure_rule d r e.state None args n))
by_purpose d function ForStates r (Proves q) args n = refused (remainder (heap_rule d r q.state args n))
by_purpose d function ForStates r (Closes e) args n = states_to_close e (remainder (heap_rule d r e.state args n))
by_purpose d function ForSteps r (Proves q) args n = Err 3
by_purpose d function ForSteps r (Closes e) args n = rests_to_close e (onward_of (step d e args n))
by_purpose d function ForEnds r (Proves q) args n = Err 3
by_purpose d function ForEnds r (Closes e) args n = rests_to_close e (onward_of (finish d function e args n))

-- the thirty rules
abbrev pub rules : Decls → Name → Table Task
rules d function r t args n = by_purpose d function (purpose r) r t args n

-- the rest of a condition at its start: the whole of it
abbrev pub whole : Cond → Decls → Task
whole c d = Closes (record { state = started c d; actions = c.actions; goal = c.goal })

-- what the check of a tree for a condition gives; and a tree derives a condition where each node is an instance of its rule
abbrev pub checked : Decls → Cond → Deriv → Walked
checked d c t = walk (rules d c.function) t (whole c d) 1

pub record Derives (d : Decls) (c : Cond) (t : Deriv) : Type 0 where
  pub last : ℕ
  pub accepted : checked d c t ≡ Ok last
