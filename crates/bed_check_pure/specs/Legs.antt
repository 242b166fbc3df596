-- The chain as a walk: where it starts, one edge after the other, and its end.
use Rattle.std.specs.Prelude.{ℕ, ◌+◌, ◌-◌, List, [], ◌∷◌, Option, Some, None, Result, Ok, Err}
use Rattle.bed_lang.specs.declared.form.Form.{Form}
use Rattle.bed_lang.specs.declared.word.Word.{Word, Number}
use Rattle.bed_lang.specs.declared.logic.Pure.{Pure}
use Rattle.bed_lang.specs.Numbers.{wrap}
use Rattle.bed_lang.specs.Forms.{word_form, same_form}
use Rattle.bed_lang.specs.SameFacts.{is_constant}
use Rattle.bed_deriv.specs.declared.derivation.DArg.{DArg}
use Rattle.bed_deriv.specs.declared.derivation.DArg.TheVariants as given
use Rattle.bed_deriv.specs.declared.derivation.Edge.{Edge}
use Rattle.bed_deriv.specs.declared.derivation.Edge.TheVariants.{F, G, X, Y, P, Q, R, S, K, Z, H}
use Rattle.bed_deriv.specs.declared.state.SymState.{SymState}
use Rattle.bed_deriv.specs.declared.state.Sequent.{Sequent}
use Rattle.bed_deriv.specs.Arguments.{numbered}
use Rattle.bed_deriv.specs.Chains.{Leg, leg, forth, back, exact_forth, exact_back, from_one_more, to_one_more, to_one_less, from_one_less, left_word, legs, closes, chain_start}
use Rattle.bed_deriv.specs.Checks.{Goals, Needs, Leaves, when}
use Rattle.bed_check_pure.specs.declared.legs.Ends.{Ends}
use Rattle.bed_check_pure.specs.declared.legs.Reached.{Reached}

-- an edge as the rule has it, with its ends and both sums
abbrev pub as_ends : Leg → Ends
as_ends l = record { from = l.from; to = l.to; up = l.up; down = l.down }

-- what a fact gives an edge of this kind
abbrev pub of_kind : Edge → Pure → Option Leg
of_kind (F i) = forth
of_kind (G i) = back
of_kind (X i) = exact_forth
of_kind (Y i) = exact_back
of_kind (P i) = from_one_more
of_kind (Q i) = to_one_more
of_kind (R i) = to_one_less
of_kind (S i) = from_one_less
of_kind _ = λ p. None

abbrev pub ends_or : Option Leg → Result Ends ℕ
ends_or None = Err 3
ends_or (Some l) = Ok (as_ends l)

abbrev pub ends_by : (Pure → Option Leg) → Option Pure → Result Ends ℕ
ends_by f None = Err 2
ends_by f (Some p) = ends_or (f p)

-- the edge that a fact gives
abbrev pub fact_ends : SymState → ℕ → (Pure → Option Leg) → Result Ends ℕ
fact_ends s i f = ends_by f (numbered s.facts i)

-- the edge to a number, from a constant
abbrev pub number_ends : Form → ℕ → Ends
number_ends node n = record { from = node; to = word_form (Number n); up = node.constant - wrap n; down = wrap n - node.constant }

abbrev pub constant_ends : Form → ℕ → Result Ends ℕ
constant_ends node n = when (is_constant node) 3 (Ok (number_ends node n))

-- an edge at a node of the chain
abbrev pub edge_ends : SymState → Form → Edge → Result Ends ℕ
edge_ends s node (F i) = fact_ends s i forth
edge_ends s node (G i) = fact_ends s i back
edge_ends s node (X i) = fact_ends s i exact_forth
edge_ends s node (Y i) = fact_ends s i exact_back
edge_ends s node (P i) = fact_ends s i from_one_more
edge_ends s node (Q i) = fact_ends s i to_one_more
edge_ends s node (R i) = fact_ends s i to_one_less
edge_ends s node (S i) = fact_ends s i from_one_less
edge_ends s node (K n) = constant_ends node n
edge_ends s node (Z e) = Ok (as_ends (leg (Number 0) e 0 0))
edge_ends s node H = Ok (record { from = node; to = word_form (Number 4294967295); up = 0; down = 0 })

-- what follows where the step before is no failure
abbrev pub after : {A B : Type 0} → Result A ℕ → (A → Result B ℕ) → Result B ℕ
after (Err p) f = Err p
after (Ok x) f = f x

-- a node that the chain reaches, with both sums
abbrev pub reach : Form → ℕ → ℕ → Reached
reach node up down = record { node = node; up = up; down = down }

abbrev pub moved : Form → ℕ → ℕ → Ends → Result Reached ℕ
moved node up down l = when (same_form l.from node) 3 (Ok (reach l.to (up + l.up) (down + l.down)))

abbrev pub one_edge : SymState → DArg → Form → ℕ → ℕ → Result Reached ℕ
one_edge s (given.Edge e) node up down = after (edge_ends s node e) (moved node up down)
one_edge s _ node up down = Err 2

abbrev pub all_edges : SymState → List DArg → Form → ℕ → ℕ → Result Reached ℕ
all_edges s [] node up down = Ok (reach node up down)
all_edges s (a ∷ es) node up down = after (one_edge s a node up down) (λ x. all_edges s es x.node x.up x.down)

-- where a chain starts
abbrev pub form_or : Option Word → Result Form ℕ
form_or None = Err 3
form_or (Some a) = Ok (word_form a)

abbrev pub from_of : Result Ends ℕ → Result Form ℕ
from_of (Err p) = Err p
from_of (Ok l) = Ok l.from

abbrev pub edge_start : SymState → Pure → Edge → Result Form ℕ
edge_start s g (F i) = from_of (fact_ends s i forth)
edge_start s g (G i) = from_of (fact_ends s i back)
edge_start s g (X i) = from_of (fact_ends s i exact_forth)
edge_start s g (Y i) = from_of (fact_ends s i exact_back)
edge_start s g (P i) = from_of (fact_ends s i from_one_more)
edge_start s g (Q i) = from_of (fact_ends s i to_one_more)
edge_start s g (R i) = from_of (fact_ends s i to_one_less)
edge_start s g (S i) = from_of (fact_ends s i from_one_less)
edge_start s g (K n) = form_or (left_word g)
edge_start s g (Z e) = Ok (word_form (Number 0))
edge_start s g H = form_or (left_word g)

abbrev pub first_node : SymState → Pure → List DArg → Result Form ℕ
first_node s g [] = form_or (left_word g)
first_node s g (given.Edge e ∷ es) = edge_start s g e
first_node s g (_ ∷ es) = Err 2

-- the end of a chain, the chain from its first node on, and all of it
abbrev pub chain_end : Pure → Form → Reached → Result (List Sequent) ℕ
chain_end g first x = when (closes g first x.node x.up x.down) 3 (Ok [])

abbrev pub chain_from : SymState → Pure → List DArg → Form → Result (List Sequent) ℕ
chain_from s g args first = after (all_edges s args first 0 0) (chain_end g first)

abbrev pub whole_chain : SymState → Pure → List DArg → Result (List Sequent) ℕ
whole_chain s g args = after (first_node s g args) (chain_from s g args)

abbrev pub chain_of : SymState → Pure → List DArg → Goals
chain_of s g args = chain_start s g args (λ first. legs s args first 0 0 (λ last up down. Needs 3 (closes g first last up down) (Leaves [])))
