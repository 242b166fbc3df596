-- What the labels say while the rounds run. A label has a value, the round that gave it (0: none did), and
-- the place of the edge that did, which starts at the node; so following labels is a walk.
use Rattle.std.specs.Prelude.{◌≡◌, ℕ, ℤ, pos, neg_ℤ, ◌+ℤ◌, ◌≤ℤ◌, ◌<ℤ◌, ◌<◌, ◌≤◌, ◌+◌, ◌-◌, ◌*◌, zero, suc, drop, sum_by, List, [], length, slice_index_or, All, Contains}
use Rattle.bed_diff.specs.declared.constraint.Edge3.{Edge3}
use Rattle.bed_diff.specs.declared.rounds.Label.{Label}
use Rattle.bed_diff.specs.Edges.{edge_at, IsWalk, total, Solves}
use Rattle.bed_diff.specs.declared.solution.Outcome.{Outcome}
use Rattle.bed_diff.specs.declared.solution.Outcome.TheVariants.{Circuit, Values}

-- what is known of a node
abbrev pub label_at : List Label → ℕ → Label
label_at ls x = slice_index_or ls x (record { value = pos 0; round = 0; edge = 0 })

abbrev pub value_of : List Label → ℕ → ℤ
value_of ls x = (label_at ls x).value

abbrev pub round_of : List Label → ℕ → ℕ
round_of ls x = (label_at ls x).round

-- a walk of total `sum` from a node of value b and round q to one of value a and round p: the value is at
-- least what the walk asks for, and above it where the round doesn't fall. Round a closed walk q is p, so
-- its total is negative: with `weak` alone it could be 0
pub record Falls (sum a : ℤ) (p : ℕ) (b : ℤ) (q : ℕ) : Type 0 where
  pub weak : (sum +ℤ a) ≤ℤ b
  pub strict : q ≤ p → (sum +ℤ a) <ℤ b

-- the label l of the node x names an edge that starts at x. The round falls by one at most, so that from a
-- node of round r at least r labels can be followed: more than nodes - 1 of them pass a node twice
pub record IsPointed (es : List Edge3) (ls : List Label) (x : ℕ) (l : Label) : Type 0 where
  pub inside : l.edge < length es
  pub starts : (edge_at es l.edge).from ≡ x
  pub near : l.round ≤ round_of ls (edge_at es l.edge).to + 1
  pub falls : Falls (edge_at es l.edge).weight (value_of ls (edge_at es l.edge).to)
      (round_of ls (edge_at es l.edge).to) l.value l.round

-- the labels' values meet the edge
abbrev pub IsMetBy : List Label → Edge3 → Type 0
IsMetBy ls e = value_of ls e.from ≤ℤ (value_of ls e.to +ℤ e.weight)

-- each label that was written points on
abbrev pub ArePointed : List Edge3 → List Label → Type 0
ArePointed es ls = (x : ℕ) → x < length ls → 0 < round_of ls x → IsPointed es ls x (label_at ls x)

-- k rounds are done, and a part of the next one. A value of round r is the sum of r weights at most, each
-- of at most 2^33 + 1 = 8589934593 in size, so that no sum leaves 64 bits
pub record Progress (es : List Edge3) (k : ℕ) (ls : List Label) : Type 0 where
  pub rounds : (x : ℕ) → x < length ls → round_of ls x ≤ k + 1
  pub low : (x : ℕ) → x < length ls → neg_ℤ (pos (8589934593 * round_of ls x)) ≤ℤ value_of ls x
  pub high : (x : ℕ) → x < length ls → value_of ls x ≤ℤ pos 0
  pub pointed : ArePointed es ls
  pub before : (j : ℕ) → j < length es → round_of ls (edge_at es j).to < k → IsMetBy ls (edge_at es j)

-- round k + 1 has nothing to do for the edge: it is met, or its `to` changed in this very round, so that the
-- next one looks at it
abbrev pub IsDone : ℕ → List Label → Edge3 → Type 0
IsDone k ls e = round_of ls e.to < k + 1 → IsMetBy ls e

-- what was done stays done, in whichever order the edges are taken
abbrev pub KeepsDone : List Edge3 → ℕ → List Label → List Label → Type 0
KeepsDone es k ls ls' = (j : ℕ) → j < length es → IsDone k ls (edge_at es j) → IsDone k ls' (edge_at es j)

-- the list has exactly the nodes that the running round changed
pub record Collected (k : ℕ) (ls : List Label) (next : List ℕ) : Type 0 where
  pub all : (x : ℕ) → x < length ls → round_of ls x ≡ k + 1 → Contains next x
  pub only : All (λ x. (x < length ls) × (round_of ls x ≡ k + 1)) next

-- the list has the nodes that round k changed
abbrev pub Covers : ℕ → List Label → List ℕ → Type 0
Covers k ls front = (x : ℕ) → x < length ls → round_of ls x ≡ k → Contains front x

-- each edge is done
abbrev pub AreDone : List Edge3 → ℕ → List Label → Type 0
AreDone es k ls = (j : ℕ) → j < length es → IsDone k ls (edge_at es j)

-- each edge to the node is done
abbrev pub AreDoneTo : List Edge3 → ℕ → List Label → ℕ → Type 0
AreDoneTo es k ls x = (j : ℕ) → j < length es → (edge_at es j).to ≡ x → IsDone k ls (edge_at es j)

-- what holds between two rounds
pub record IsReady (es : List Edge3) (n k : ℕ) (ls : List Label) (front : List ℕ) : Type 0 where
  pub nodes : length ls ≡ n
  pub more : k < n
  pub progress : Progress es k ls
  pub fresh : Collected k ls []
  pub nodes_in : All (λ x. x < length ls) front
  pub covers : Covers k ls front

-- of the first i edges: `last` has for each node one more than the place of the last edge to it, or 0,
-- and `before` has for each edge the same of the edges before it with the same end
pub record AreListed (es : List Edge3) (n i : ℕ) (last before : List ℕ) : Type 0 where
  pub nodes : length last ≡ n
  pub places : length before ≡ i
  pub low : (x : ℕ) → x < n → slice_index_or last x 0 ≤ i
  pub begins : (x : ℕ) → x < n → 0 < slice_index_or last x 0 → (edge_at es (slice_index_or last x 0 - 1)).to ≡ x
  pub goes : (j : ℕ) → j < i → 0 < slice_index_or before j 0
      → (edge_at es (slice_index_or before j 0 - 1)).to ≡ (edge_at es j).to
  pub ends : (j : ℕ) → j < i → j < slice_index_or last (edge_at es j).to 0
  pub falls : (j : ℕ) → j < i → slice_index_or before j 0 ≤ j
  pub gaps : (j f : ℕ) → j < i → slice_index_or before j 0 ≤ f → f < j → (edge_at es f).to ≡ (edge_at es j).to → ⊥

-- no place stands twice
abbrev pub AreDistinct : List ℕ → Type 0
AreDistinct is = (i j : ℕ) → i < length is → j < length is → slice_index_or is i 0 ≡ slice_index_or is j 0 → i ≡ j

-- a closed walk of negative total, with no edge twice: so it can be cut at one edge, and the rest of it is
-- without that edge
pub record IsNegativeCircuit (es : List Edge3) (is : List ℕ) : Type 0 where
  pub node : ℕ
  pub walk : IsWalk es node is node
  pub negative : total es is <ℤ pos 0
  pub distinct : AreDistinct is

-- a closed walk of negative total, or values that meet each edge
abbrev pub IsOutcome : ℕ → List Edge3 → Outcome → Type 0
IsOutcome n es (Circuit is) = IsNegativeCircuit es is.items
IsOutcome n es (Values vs) = (length vs.items ≡ n) × Solves vs.items es

-- a walk from y to z, along which the labels fall
pub record Leads (es : List Edge3) (ls : List Label) (y : ℕ) (is : List ℕ) (z : ℕ) : Type 0 where
  pub walk : IsWalk es y is z
  pub falls : Falls (total es is) (value_of ls z) (round_of ls z) (value_of ls y) (round_of ls y)

-- each number above 0 counts
abbrev pub mark : ℕ → ℕ
mark zero = 0
mark (suc n) = 1

-- the labels led from `start` along `walk` to `at`; `steps` has for each node one more than its index in the
-- walk, or 0. The marks in it count the steps, so a walk of as many steps as there are nodes passed them all
pub record Trail (es : List Edge3) (ls : List Label) (start : ℕ) (steps walk : List ℕ) (at : ℕ) : Type 0 where
  pub inside : at < length ls
  pub nodes : length steps ≡ length ls
  pub counted : sum_by mark steps ≡ length walk
  pub near : round_of ls start ≤ round_of ls at + length walk
  pub short : (y : ℕ) → y < length ls → slice_index_or steps y 0 ≤ length walk
  pub paths : (y : ℕ) → y < length ls → 0 < slice_index_or steps y 0 → Leads es ls y (drop (slice_index_or steps y 0 - 1) walk) at
  pub places : (j : ℕ) → j < length walk → slice_index_or steps (edge_at es (slice_index_or walk j 0)).from 0 ≡ j + 1
