-- A derivation is checked node by node, in preorder from a number on: each node by its rule, and then its children from the left.
-- This is said for any table of rules: a table gives, for a rule and what a node stands for, with its arguments and its number of
-- children, the number of the first premise that fails, or what the children stand for.
use Rattle.std.specs.Prelude.{ℕ, ◌+◌, List, [], ◌∷◌, length, Result, Ok, Err}
use Rattle.bed_deriv.specs.declared.derivation.Deriv.{Deriv, Deriv-F, fold-Deriv}
use Rattle.bed_deriv.specs.declared.derivation.Rule.{Rule}
use Rattle.bed_deriv.specs.declared.derivation.DArg.{DArg}

abbrev pub Table : Type 0 → Type 0
Table T = Rule → T → List DArg → ℕ → Result (List T) ℕ

-- the number after the last node; or the first node that is no instance of its rule, with its first failing premise
abbrev pub Walked : Type 0
Walked = Result ℕ (ℕ × ℕ)

-- a tree as what it gives for a thing and the number of its root
abbrev pub Walk : Type 0 → Type 0
Walk T = T → ℕ → Walked

abbrev pub and_then : Walked → (ℕ → Walked) → Walked
and_then (Ok n) f = f n
and_then (Err e) f = Err e

-- trees in order, each for its thing, as far as there are both
abbrev pub walk_all : {T : Type 0} → List (Walk T) → List T → ℕ → Walked
walk_all [] ts n = Ok n
walk_all (w ∷ ws) [] n = Ok n
walk_all (w ∷ ws) (t ∷ ts) n = and_then (w t n) (λ m. walk_all ws ts m)

abbrev pub walk_below : {T : Type 0} → Result (List T) ℕ → List (Walk T) → ℕ → Walked
walk_below (Err p) ws n = Err (n, p)
walk_below (Ok ts) ws n = walk_all ws ts (n + 1)

abbrev pub walk_step : {T : Type 0} → Table T → Deriv-F (Walk T) → Walk T
walk_step table d t n = walk_below (table d.rule t d.args (length d.children)) d.children n

abbrev pub walk : {T : Type 0} → Table T → Deriv → Walk T
walk {T = T} table = fold-Deriv (Walk T) (walk_step table)
