-- What the check of a match of terms gives, for any table of rules for facts, by which its first children are walked.
use Rattle.std.specs.Prelude.{ℕ, ◌+◌, ◌-◌, ◌&&◌, nat_le, List, length, drop, Result, Ok, Err}
use Rattle.bed_lang.specs.declared.logic.Pure.{Pure}
use Rattle.bed_lang.specs.declared.logic.Term.{Term}
use Rattle.bed_deriv.specs.declared.derivation.DArg.{DArg}
use Rattle.bed_deriv.specs.declared.derivation.Deriv.{Deriv, Deriv-F, out-Deriv}
use Rattle.bed_deriv.specs.declared.state.SymState.{SymState}
use Rattle.bed_deriv.specs.declared.state.Sequent.{Sequent}
use Rattle.bed_deriv.specs.Matches.{count_of_goals, count_of_atoms, chosen, all_different, numbers_left, match_goals}
use Rattle.bed_deriv.specs.Checks.{Check, Needs, Given, Leaves, first_failure}
use Rattle.bed_deriv.specs.Walk.{Table}
use Rattle.bed_deriv.specs.Nodes.{where_walked, children_walked}

-- what a match leaves: facts to be proved, and the numbers of the atoms that aren't taken
pub record Matched : Type 0 where
  pub goals : List Pure
  pub left : List ℕ

-- The last arguments are the atoms, one for each atom of the terms. Fewer arguments than atoms, or fewer children than facts, fail the
-- first premise; that there are no more of either is asked by the rule that holds the match.
abbrev pub match_terms : SymState → List Term → List DArg → ℕ → Check Matched
match_terms s ts args n =
    Needs 1 (nat_le (count_of_atoms ts) (length args) && nat_le (count_of_goals ts) n)
    (Given 2 (chosen s.atoms (drop (length args - count_of_atoms ts) args)) (λ cs.
    Needs 3 (all_different cs) (Given 3 (match_goals ts cs) (λ gs.
    Leaves (record { goals = gs; left = numbers_left cs 1 s.atoms })))))

module _ (facts : Table Sequent) where
  abbrev pub after_match : SymState → List Deriv → ℕ → Result Matched ℕ → Result (List ℕ) (ℕ × ℕ)
  after_match s children n (Err p) = Err (n, p)
  after_match s children n (Ok m) = where_walked m.left (children_walked facts s children m.goals (n + 1))

  abbrev pub matched_node : SymState → List Term → Deriv-F Deriv → ℕ → Result (List ℕ) (ℕ × ℕ)
  matched_node s ts t n = after_match s t.children n (first_failure (match_terms s ts t.args (length t.children)))

  -- The numbers of the atoms that are left, where the terms match the atoms that the node, of number n, gives and its first children
  -- prove what is left to prove; else the first node in preorder that is no instance, with its first failing premise.
  abbrev pub matched_by : SymState → List Term → Deriv → ℕ → Result (List ℕ) (ℕ × ℕ)
  matched_by s ts t n = matched_node s ts (out-Deriv t) n
