-- Closed walks that begin at an edge which says by itself where it starts.
use Rattle.std.specs.Prelude.{◌≡◌, ℕ, ℤ, ◌<◌, Bool, true, false, List, [], ◌∷◌, ◌++◌, drop, length, map, slice_index_or, take, Option, Some, None}
use Rattle.bed_deriv.specs.declared.derivation.DArg.{DArg}
use Rattle.bed_deriv.specs.declared.derivation.DArg.TheVariants as given
use Rattle.bed_deriv.specs.declared.derivation.Edge.{Edge}
use Rattle.bed_deriv.specs.declared.derivation.Edge.TheVariants as edge
use Rattle.bed_diff.specs.declared.constraint.Edge3.{Edge3}
use Rattle.bed_diff.specs.Decided.{IsChain, IsNegativeCycle, IsPoint}

-- k and h start wherever the chain is
abbrev pub is_free : Edge → Bool
is_free (edge.K n) = false
is_free edge.H = false
is_free _ = true

-- the edges at places
abbrev pub edge_of : List Edge → ℕ → Edge
edge_of labels i = slice_index_or labels i edge.H

abbrev pub edges_at : List Edge → List ℕ → List Edge
edges_at labels places = map (edge_of labels) places

-- none of the edges is free
abbrev pub AreTied : List Edge → Type 0
AreTied [] = Unit {0}
AreTied (e ∷ es) = (is_free e ≡ false) × AreTied es

-- the walk begins anew at one of its places whose edge is free, where it has one
pub data IsFreed (labels : List Edge) (places is : List ℕ) : Type 0 where
  tied : AreTied (edges_at labels places) → is ≡ places → IsFreed labels places is
  turned : (at : ℕ) → at < length places → is_free (edge_of labels (slice_index_or places at 0)) ≡ true → is ≡ drop at places ++ take at places → IsFreed labels places is

-- the arguments of a chain along the edges at these places
abbrev pub chain_args : List Edge → List ℕ → List DArg
chain_args labels places = map given.Edge (edges_at labels places)

-- what a decision on these edges, of which each has its label, gives: a chain to the goal's end, a negative cycle that says where it
-- starts, or none of them where values meet the edges and not the goal
pub data IsDecided (nodes : ℕ) (edges : List Edge3) (labels : List Edge) (goal : Edge3) (r : Option (List DArg)) : Type 0 where
  by_chain : (is : List ℕ) → IsChain edges goal is → r ≡ Some (chain_args labels is) → IsDecided nodes edges labels goal r
  by_cycle : (places is : List ℕ) → IsNegativeCycle edges places → IsFreed labels places is → r ≡ Some (chain_args labels is) → IsDecided nodes edges labels goal r
  by_point : (vs : List ℤ) → IsPoint nodes edges goal vs → r ≡ None → IsDecided nodes edges labels goal r

-- what a decision gives of the edge from a node to itself with weight -1: a negative cycle, or values that meet the edges
pub data IsRound (nodes : ℕ) (edges : List Edge3) (labels : List Edge) (goal : Edge3) (r : Option (List DArg)) : Type 0 where
  by_cycle : (places is : List ℕ) → IsNegativeCycle edges places → IsFreed labels places is → r ≡ Some (chain_args labels is) → IsRound nodes edges labels goal r
  by_point : (vs : List ℤ) → IsPoint nodes edges goal vs → r ≡ None → IsRound nodes edges labels goal r
