-- What a search answers, where trees have a greatest number of nodes and a greatest nesting: a tree that keeps to them; or that each
-- tree goes with one that passes them. So a search may give up as soon as what it has made is too large: what the other parts of its tree
-- would be doesn't matter.
use Rattle.std.specs.Prelude.{◌≡◌, ℕ, ◌≤◌, ◌<◌, ◌⊎◌, List, map, Option, Some, None}
use Rattle.bed_deriv.specs.declared.derivation.Deriv.{Deriv}
use Rattle.bed_search.specs.declared.tree.Measured.{Measured}
use Rattle.bed_plain.specs.Trees.{AllOf, nodes, nesting, total, greatest}

module _ {T : Type 0} (C : T → Deriv → Type 0) where
  abbrev pub IsLarge : ℕ → ℕ → Deriv → Type 0
  IsLarge n k t = (n < nodes t) ⊎ (k < nesting t)

  -- some tree for the thing is too large
  abbrev pub HasLarge : T → ℕ → ℕ → Type 0
  HasLarge x n k = (t : Deriv) × C x t × IsLarge n k t

  -- no tree closes the thing, or some tree that does is too large
  abbrev pub IsRefused : T → ℕ → ℕ → Type 0
  IsRefused x n k = (t : Deriv) → C x t → HasLarge x n k

  -- the same for things in order, whose trees together have at most so many nodes
  abbrev pub AreLarge : ℕ → ℕ → List Deriv → Type 0
  AreLarge n k ts = (n < total (map nodes ts)) ⊎ (k < greatest (map nesting ts))

  abbrev pub HaveLarge : List T → ℕ → ℕ → Type 0
  HaveLarge xs n k = (ts : List Deriv) × AllOf C xs ts × AreLarge n k ts

  abbrev pub AreRefused : List T → ℕ → ℕ → Type 0
  AreRefused xs n k = (ts : List Deriv) → AllOf C xs ts → HaveLarge xs n k

-- a tree that has its size beside it
pub record IsMeasured (t : Measured) : Type 0 where
  pub nodes_are : nodes t.tree ≡ t.nodes
  pub nesting_is : nesting t.tree ≡ t.nesting

-- the answer for one thing
abbrev pub AnswersTree : {T : Type 0} → (T → Deriv → Type 0) → Option Measured → T → ℕ → ℕ → Type 0
AnswersTree C None x n k = IsRefused C x n k
AnswersTree C (Some t) x n k = C x t.tree × IsMeasured t × (t.nodes ≤ n) × (t.nesting ≤ k)
