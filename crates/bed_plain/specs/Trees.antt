-- Trees by their parts, and how large they are.
use Rattle.std.specs.Prelude.{ℕ, ◌+◌, max, List, [], ◌∷◌, Option, Some, None}
use Rattle.bed_deriv.specs.declared.derivation.Rule.{Rule}
use Rattle.bed_deriv.specs.declared.derivation.DArg.{DArg}
use Rattle.bed_deriv.specs.declared.derivation.Deriv.{Deriv, Deriv-F, roll-Deriv, fold-Deriv}

abbrev pub node : Rule → List DArg → List Deriv → Deriv
node r args ds = roll-Deriv (record { rule = r; args = args; children = ds })

abbrev pub leaf : Rule → List DArg → Deriv
leaf r args = node r args []

-- a rule with its arguments
abbrev pub Choice : Type 0
Choice = Rule × List DArg

abbrev pub total : List ℕ → ℕ
total [] = 0
total (n ∷ ns) = n + total ns

abbrev pub greatest : List ℕ → ℕ
greatest [] = 0
greatest (n ∷ ns) = max n (greatest ns)

abbrev pub nodes_step : Deriv-F ℕ → ℕ
nodes_step t = 1 + total t.children

-- how many nodes a tree has
abbrev pub nodes : Deriv → ℕ
nodes = fold-Deriv ℕ nodes_step

abbrev pub nesting_step : Deriv-F ℕ → ℕ
nesting_step t = 1 + greatest t.children

-- how many nodes stand one in another at most
abbrev pub nesting : Deriv → ℕ
nesting = fold-Deriv ℕ nesting_step

-- a relation between things and trees, for things in order with a tree for each
abbrev pub AllOf : {T : Type 0} → (T → Deriv → Type 0) → List T → List Deriv → Type 0
AllOf C [] [] = Unit {0}
AllOf C (x ∷ xs) (t ∷ ts) = C x t × AllOf C xs ts
AllOf C _ _ = ⊥

-- what a search for a tree answers: a tree of this kind, or that there is none
abbrev pub Answers : (Deriv → Type 0) → Option Deriv → Type 0
Answers C (Some t) = C t
Answers C None = (t : Deriv) → C t → ⊥
