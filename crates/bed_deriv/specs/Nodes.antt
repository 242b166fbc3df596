-- What the check of one node gives that changes the state of a condition's rest, for any table of rules for facts, by which its first
-- children are walked, and any table of rules for states.
use Rattle.std.specs.Prelude.{ℕ, ◌+◌, List, [], ◌∷◌, length, map, Result, Ok, Err}
use Rattle.bed_lang.specs.declared.logic.Pure.{Pure}
use Rattle.bed_deriv.specs.declared.derivation.Rule.{Rule}
use Rattle.bed_deriv.specs.declared.derivation.DArg.{DArg}
use Rattle.bed_deriv.specs.declared.derivation.Deriv.{Deriv, Deriv-F, out-Deriv}
use Rattle.bed_deriv.specs.declared.state.SymState.{SymState}
use Rattle.bed_deriv.specs.declared.state.Sequent.{Sequent}
use Rattle.bed_deriv.specs.declared.state.Remainder.{Remainder}
use Rattle.bed_deriv.specs.Checks.{sequent}
use Rattle.bed_deriv.specs.Walk.{Table, Walked, walk, walk_all}

-- for a rule and a state, with the arguments and the number of children: what the node leaves, or its first failing premise
abbrev pub StateTable : Type 0
StateTable = Rule → SymState → List DArg → ℕ → Result Remainder ℕ

-- facts to be proved in one state
abbrev pub sequents : SymState → List Pure → List Sequent
sequents s gs = map (sequent s) gs

-- what a node gives, where its first children are accepted; else the first node that isn't, with its first failing premise
abbrev pub where_walked : {A : Type 0} → A → Walked → Result A (ℕ × ℕ)
where_walked x (Err e) = Err e
where_walked x (Ok last) = Ok x

module _ (facts : Table Sequent) where
  -- the first children of a node, each with the fact that it proves in the node's own state, in order; the first one has number n
  abbrev pub children_walked : SymState → List Deriv → List Pure → ℕ → Walked
  children_walked s children goals n = walk_all (map (walk facts) children) (sequents s goals) n

  module _ (states : StateTable) where
    abbrev pub after_rule : SymState → List Deriv → ℕ → Result Remainder ℕ → Result (List SymState) (ℕ × ℕ)
    after_rule s children n (Err p) = Err (n, p)
    after_rule s children n (Ok m) = where_walked m.states (children_walked s children m.goals (n + 1))

    abbrev pub stepped_node : SymState → Deriv-F Deriv → ℕ → Result (List SymState) (ℕ × ℕ)
    stepped_node s t n = after_rule s t.children n (states t.rule s t.args (length t.children))

    -- The states of the children that go on with the rest, where the node, of number n, is an instance of its rule and its first
    -- children prove their facts; else the first node in preorder that is no instance, with its first failing premise.
    abbrev pub stepped_by : SymState → Deriv → ℕ → Result (List SymState) (ℕ × ℕ)
    stepped_by s t n = stepped_node s (out-Deriv t) n
