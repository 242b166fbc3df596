-- The chain is its walk: what the rule's premises say of it, one after the other.
use Rattle.std.proofs.Common.{◌≡◌, ℕ, ◌+◌, ◌-◌, Bool, true, false, List, [], ◌∷◌, Option, Some, None, Result, Ok, Err, refl, ◌∙◌}
use Rattle.bed_lang.specs.declared.form.Form.{Form}
use Rattle.bed_lang.specs.declared.word.Word.{Word, Number}
use Rattle.bed_lang.specs.declared.logic.Pure.{Pure}
use Rattle.bed_lang.specs.Numbers.{wrap}
use Rattle.bed_lang.specs.Forms.{word_form, same_form}
use Rattle.bed_lang.specs.SameFacts.{is_constant}
use Rattle.bed_deriv.specs.declared.derivation.DArg.{DArg}
use Rattle.bed_deriv.specs.declared.derivation.DArg.TheVariants as given
use Rattle.bed_deriv.specs.declared.derivation.Edge.{Edge}
use Rattle.bed_deriv.specs.declared.derivation.Edge.TheVariants.{F, G, X, Y, P, Q, R, S, K, Z, H}
use Rattle.bed_deriv.specs.declared.state.SymState.{SymState}
use Rattle.bed_deriv.specs.Arguments.{numbered}
use Rattle.bed_deriv.specs.Chains.{Leg, forth, back, exact_forth, exact_back, from_one_more, to_one_more, to_one_less, from_one_less, of_fact, edge, left_word, legs, closes, goal_start, fact_start, chain_start}
use Rattle.bed_deriv.specs.Checks.{Goals, Needs, Leaves, first_failure, when, Given}
use Rattle.bed_check_pure.specs.declared.legs.Ends.{Ends}
use Rattle.bed_check_pure.specs.Legs.{ends_or, ends_by, fact_ends, number_ends, edge_ends, after, moved, all_edges, form_or, from_of, first_node, chain_from, whole_chain, chain_of, reach}

-- an edge's ends as the rule has them
abbrev as_leg : Ends → Leg
as_leg l = record { from = l.from; to = l.to; up = l.up; down = l.down }

fact_is : (s : SymState) (i : ℕ) (f : Pure → Option Leg) (go : Leg → Goals)
    → first_failure (of_fact s i f go) ≡ after (fact_ends s i f) (λ l. first_failure (go (as_leg l)))
fact_is s i f go = by (numbered s.facts i)
  where
    found : (o : Option Leg) → first_failure (Given 3 o go) ≡ after (ends_or o) (λ l. first_failure (go (as_leg l)))
    found None = refl
    found (Some l) = refl

    by : (o : Option Pure) → first_failure (Given 2 o (λ p. Given 3 (f p) go)) ≡ after (ends_by f o) (λ l. first_failure (go (as_leg l)))
    by None = refl
    by (Some p) = found (f p)

constant_is : (node : Form) (n : ℕ) (go : Leg → Goals) (t : Bool)
    → when t 3 (first_failure (go (record { from = node; to = word_form (Number n); up = node.constant - wrap n; down = wrap n - node.constant })))
    ≡ after (when t 3 (Ok (number_ends node n))) (λ l. first_failure (go (as_leg l)))
constant_is node n go true = refl
constant_is node n go false = refl

edge_is : (s : SymState) (node : Form) (e : Edge) (go : Leg → Goals)
    → first_failure (edge s node e go) ≡ after (edge_ends s node e) (λ l. first_failure (go (as_leg l)))
edge_is s node (F i) go = fact_is s i forth go
edge_is s node (G i) go = fact_is s i back go
edge_is s node (X i) go = fact_is s i exact_forth go
edge_is s node (Y i) go = fact_is s i exact_back go
edge_is s node (P i) go = fact_is s i from_one_more go
edge_is s node (Q i) go = fact_is s i to_one_more go
edge_is s node (R i) go = fact_is s i to_one_less go
edge_is s node (S i) go = fact_is s i from_one_less go
edge_is s node (K n) go = constant_is node n go (is_constant node)
edge_is s node (Z e) go = refl
edge_is s node H go = refl

-- an edge is gone along, and then the others
one_move : (s : SymState) (es : List DArg) (up down : ℕ) (go : Form → ℕ → ℕ → Goals)
    → ((n : Form) (u d : ℕ) → first_failure (legs s es n u d go) ≡ after (all_edges s es n u d) (λ x. first_failure (go x.node x.up x.down)))
    → (l : Ends) (t : Bool)
    → when t 3 (first_failure (legs s es l.to (up + l.up) (down + l.down) go))
    ≡ after (after (when t 3 (Ok (reach l.to (up + l.up) (down + l.down)))) (λ x. all_edges s es x.node x.up x.down)) (λ x. first_failure (go x.node x.up x.down))
one_move s es up down go ih l true = ih l.to (up + l.up) (down + l.down)
one_move s es up down go ih l false = refl

legs_are : (s : SymState) (es : List DArg) (node : Form) (up down : ℕ) (go : Form → ℕ → ℕ → Goals)
    → first_failure (legs s es node up down go) ≡ after (all_edges s es node up down) (λ x. first_failure (go x.node x.up x.down))
legs_are s [] node up down go = refl
legs_are s (given.Edge e ∷ es) node up down go =
    edge_is s node e (λ l. Needs 3 (same_form l.from node) (legs s es l.to (up + l.up) (down + l.down) go))
    ∙ by (λ n u d. legs_are s es n u d go) (edge_ends s node e)
  where
    by : ((n : Form) (u d : ℕ) → first_failure (legs s es n u d go) ≡ after (all_edges s es n u d) (λ x. first_failure (go x.node x.up x.down)))
        → (r : Result Ends ℕ)
        → after r (λ l. first_failure (Needs 3 (same_form l.from node) (legs s es l.to (up + l.up) (down + l.down) go)))
        ≡ after (after (after r (moved node up down)) (λ x. all_edges s es x.node x.up x.down)) (λ x. first_failure (go x.node x.up x.down))
    by ih (Err p) = refl
    by ih (Ok l) = one_move s es up down go ih l (same_form l.from node)
legs_are s (given.Number n ∷ es) node up down go = refl
legs_are s (given.Arg a ∷ es) node up down go = refl
legs_are s (given.Pure p ∷ es) node up down go = refl
legs_are s (given.Name x ∷ es) node up down go = refl

goal_is : (g : Pure) (go : Form → Goals) → first_failure (goal_start g go) ≡ after (form_or (left_word g)) (λ a. first_failure (go a))
goal_is g go = by (left_word g)
  where
    by : (o : Option Word) → first_failure (Given 3 o (λ a. go (word_form a))) ≡ after (form_or o) (λ a. first_failure (go a))
    by None = refl
    by (Some a) = refl

start_is : (s : SymState) (i : ℕ) (f : Pure → Option Leg) (go : Form → Goals)
    → first_failure (fact_start s i f go) ≡ after (from_of (fact_ends s i f)) (λ a. first_failure (go a))
start_is s i f go = fact_is s i f (λ l. go l.from) ∙ by (fact_ends s i f)
  where
    by : (r : Result Ends ℕ) → after r (λ l. first_failure (go l.from)) ≡ after (from_of r) (λ a. first_failure (go a))
    by (Err p) = refl
    by (Ok l) = refl

first_is : (s : SymState) (g : Pure) (args : List DArg) (go : Form → Goals)
    → first_failure (chain_start s g args go) ≡ after (first_node s g args) (λ a. first_failure (go a))
first_is s g [] go = goal_is g go
first_is s g (given.Edge (F i) ∷ es) go = start_is s i forth go
first_is s g (given.Edge (G i) ∷ es) go = start_is s i back go
first_is s g (given.Edge (X i) ∷ es) go = start_is s i exact_forth go
first_is s g (given.Edge (Y i) ∷ es) go = start_is s i exact_back go
first_is s g (given.Edge (P i) ∷ es) go = start_is s i from_one_more go
first_is s g (given.Edge (Q i) ∷ es) go = start_is s i to_one_more go
first_is s g (given.Edge (R i) ∷ es) go = start_is s i to_one_less go
first_is s g (given.Edge (S i) ∷ es) go = start_is s i from_one_less go
first_is s g (given.Edge (K n) ∷ es) go = goal_is g go
first_is s g (given.Edge (Z e) ∷ es) go = refl
first_is s g (given.Edge H ∷ es) go = goal_is g go
first_is s g (given.Number n ∷ es) go = refl
first_is s g (given.Arg a ∷ es) go = refl
first_is s g (given.Pure p ∷ es) go = refl
first_is s g (given.Name x ∷ es) go = refl

pub chain_is : (s : SymState) (g : Pure) (args : List DArg) → first_failure (chain_of s g args) ≡ whole_chain s g args
chain_is s g args =
    first_is s g args (λ first. legs s args first 0 0 (λ last up down. Needs 3 (closes g first last up down) (Leaves [])))
    ∙ by (first_node s g args)
  where
    by : (r : Result Form ℕ)
        → after r (λ first. first_failure (legs s args first 0 0 (λ last up down. Needs 3 (closes g first last up down) (Leaves []))))
        ≡ after r (chain_from s g args)
    by (Err p) = refl
    by (Ok first) = legs_are s args first 0 0 (λ last up down. Needs 3 (closes g first last up down) (Leaves []))
