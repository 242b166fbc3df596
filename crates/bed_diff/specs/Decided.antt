-- What each decision shows. By adding up the edges of a chain, values that meet each edge meet the goal;
-- by adding up those of a cycle, no values meet each edge; a point is an example to the contrary.
use Rattle.std.specs.Prelude.{◌≡◌, ℕ, ℤ, pos, ◌+ℤ◌, ◌≤ℤ◌, ◌<ℤ◌, List, length}
use Rattle.bed_diff.specs.declared.constraint.Edge3.{Edge3}
use Rattle.bed_diff.specs.declared.decision.Decision.{Decision}
use Rattle.bed_diff.specs.declared.decision.Decision.TheVariants.{Chain, Cycle, Point}
use Rattle.bed_diff.specs.Edges.{value_at, Solves, IsWalk, total}

-- a walk along the edges between the goal's ends, of total at most its weight
abbrev pub IsChain : List Edge3 → Edge3 → List ℕ → Type 0
IsChain es goal is = IsWalk es goal.from is goal.to × (total es is ≤ℤ goal.weight)

-- a closed walk along the edges, of negative total; so it isn't empty
abbrev pub IsNegativeCycle : List Edge3 → List ℕ → Type 0
IsNegativeCycle es is = (a : ℕ) × IsWalk es a is a × (total es is <ℤ pos 0)

-- a value for each of n nodes, that together meet each edge and not the goal
abbrev pub IsPoint : ℕ → List Edge3 → Edge3 → List ℤ → Type 0
IsPoint n es goal vs =
    (length vs ≡ n) × Solves vs es × ((value_at vs goal.to +ℤ goal.weight) <ℤ value_at vs goal.from)

-- a fact of the places of a chain, of those of a cycle, and of the values of a point
abbrev pub OnChain : (List ℕ → Type 0) → Decision → Type 0
OnChain P (Chain is) = P is
OnChain P (Cycle is) = Unit {0}
OnChain P (Point vs) = Unit {0}

abbrev pub OnCycle : (List ℕ → Type 0) → Decision → Type 0
OnCycle P (Chain is) = Unit {0}
OnCycle P (Cycle is) = P is
OnCycle P (Point vs) = Unit {0}

abbrev pub OnPoint : (List ℤ → Type 0) → Decision → Type 0
OnPoint P (Chain is) = Unit {0}
OnPoint P (Cycle is) = Unit {0}
OnPoint P (Point vs) = P vs
