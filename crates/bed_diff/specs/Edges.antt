-- Edges as constraints on values, and walks along edges.
use Rattle.std.specs.Prelude.{◌≡◌, ℕ, ℤ, pos, neg_ℤ, ◌+ℤ◌, ◌≤ℤ◌, ◌<◌, List, [], ◌∷◌, length, slice_index_or, All}
use Rattle.bed_diff.specs.declared.constraint.Edge3.{Edge3}

-- the edge at a place; the default is never read, since walks ask that each place is one of the edges'
abbrev pub edge_at : List Edge3 → ℕ → Edge3
edge_at es i = slice_index_or es i (record { from = 0; to = 0; weight = pos 0 })

-- the value of a node; the default is never read where there is a value for each node
abbrev pub value_at : List ℤ → ℕ → ℤ
value_at vs n = slice_index_or vs n (pos 0)

-- what an edge asks: value(from) is at most value(to) plus the weight
abbrev pub IsMet : List ℤ → Edge3 → Type 0
IsMet vs e = value_at vs e.from ≤ℤ (value_at vs e.to +ℤ e.weight)

-- the values meet each edge
abbrev pub Solves : List ℤ → List Edge3 → Type 0
Solves vs es = All (IsMet vs) es

-- the edges at these places lead, one after the other, from a to b; no edge leads from a to a
abbrev pub IsWalk : List Edge3 → ℕ → List ℕ → ℕ → Type 0
IsWalk es a [] b = a ≡ b
IsWalk es a (i ∷ is) b = (i < length es) × ((edge_at es i).from ≡ a) × IsWalk es (edge_at es i).to is b

-- the sum of the weights at these places
abbrev pub total : List Edge3 → List ℕ → ℤ
total es [] = pos 0
total es (i ∷ is) = (edge_at es i).weight +ℤ total es is

-- an edge whose ends are among n nodes and whose weight lies between -w and w, both allowed
pub record IsWithin (n w : ℕ) (e : Edge3) : Type 0 where
  pub from_in : e.from < n
  pub to_in : e.to < n
  pub low : neg_ℤ (pos w) ≤ℤ e.weight
  pub high : e.weight ≤ℤ pos w
