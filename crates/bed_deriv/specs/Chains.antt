-- The rule chain. Each edge says that the value of one word is at most the value of another plus a weight; the values are whole
-- numbers from 0 to 4294967295, and nothing wraps.
use Rattle.std.specs.Prelude.{ℕ, ◌+◌, ◌-◌, Bool, true, false, ◌&&◌, ◌||◌, ◌==◌, not, nat_lt, nat_le, List, [], ◌∷◌, Option, Some, None, if◌then◌else◌}
use Rattle.bed_lang.specs.declared.form.Form.{Form}
use Rattle.bed_lang.specs.declared.word.Word.{Word, Number, Add, Sub}
use Rattle.bed_lang.specs.declared.logic.Pure.{Pure}
use Rattle.bed_lang.specs.declared.logic.Pure.TheVariants.{Equal, Unequal, Less, AtMost, Same, Member, NonMember, Code}
use Rattle.bed_lang.specs.Numbers.{wrap}
use Rattle.bed_lang.specs.Forms.{word_form, same_form}
use Rattle.bed_lang.specs.Differences.{difference}
use Rattle.bed_deriv.specs.declared.derivation.DArg.{DArg}
use Rattle.bed_deriv.specs.declared.derivation.DArg.TheVariants as given
use Rattle.bed_deriv.specs.declared.derivation.Edge.{Edge}
use Rattle.bed_deriv.specs.declared.derivation.Edge.TheVariants.{F, G, X, Y, P, Q, R, S, K, Z, H}
use Rattle.bed_deriv.specs.declared.state.SymState.{SymState}
use Rattle.bed_lang.specs.SameFacts.{is_constant}
use Rattle.bed_deriv.specs.Fresh.{known_word}
use Rattle.bed_deriv.specs.Arguments.{numbered}
use Rattle.bed_deriv.specs.Checks.{Goals, Needs, Given, Fails, Leaves}

-- one edge: value(from) + down <= value(to) + up, so its weight is up - down
pub record Leg : Type 0 where
  pub from : Form
  pub to : Form
  pub up : ℕ
  pub down : ℕ

abbrev pub leg : Word → Word → ℕ → ℕ → Leg
leg a b up down = record { from = word_form a; to = word_form b; up = up; down = down }

abbrev pub one_more : Word → Word
one_more a = Add a (Number 1)

abbrev pub one_less : Word → Word
one_less b = Sub b (Number 1)

-- f: from a to b, -1 for `a < b`, else 0
abbrev pub forth : Pure → Option Leg
forth (Less a b) = Some (leg a b 0 1)
forth (AtMost a b) = Some (leg a b 0 0)
forth (Equal a b) = Some (leg a b 0 0)
forth _ = None

-- g: from b to a, 0, for `a = b`
abbrev pub back : Pure → Option Leg
back (Equal a b) = Some (leg b a 0 0)
back _ = None

-- where b - a is a constant c above 0: x from a to b with -c, y from b to a with c
abbrev pub constant_above_0 : Form → Option ℕ
constant_above_0 f = if is_constant f && not (f.constant == 0) then Some f.constant else None

abbrev pub up_by : Word → Word → Option ℕ → Option Leg
up_by a b None = None
up_by a b (Some c) = Some (leg a b 0 c)

abbrev pub down_by : Word → Word → Option ℕ → Option Leg
down_by a b None = None
down_by a b (Some c) = Some (leg b a c 0)

abbrev pub exact_forth : Pure → Option Leg
exact_forth (Less a b) = up_by a b (constant_above_0 (difference b a))
exact_forth (AtMost a b) = up_by a b (constant_above_0 (difference b a))
exact_forth _ = None

abbrev pub exact_back : Pure → Option Leg
exact_back (Less a b) = down_by a b (constant_above_0 (difference b a))
exact_back (AtMost a b) = down_by a b (constant_above_0 (difference b a))
exact_back _ = None

-- p, q: from a + 1 to a with 1, and back with -1, for `a < b`
abbrev pub from_one_more : Pure → Option Leg
from_one_more (Less a b) = Some (leg (one_more a) a 1 0)
from_one_more _ = None

abbrev pub to_one_more : Pure → Option Leg
to_one_more (Less a b) = Some (leg a (one_more a) 0 1)
to_one_more _ = None

-- r, s: from b to b - 1 with 1, and back with -1, for `a < b`
abbrev pub to_one_less : Pure → Option Leg
to_one_less (Less a b) = Some (leg b (one_less b) 1 0)
to_one_less _ = None

abbrev pub from_one_less : Pure → Option Leg
from_one_less (Less a b) = Some (leg (one_less b) b 0 1)
from_one_less _ = None

-- what an edge needs of its fact, and the leg that it then is; k, z and h need none
abbrev pub of_fact : SymState → ℕ → (Pure → Option Leg) → (Leg → Goals) → Goals
of_fact s i f go_on = Given 2 (numbered s.facts i) (λ p. Given 3 (f p) go_on)

-- an edge that starts at this node of the chain. k: from a constant m to n with m - n; z: from 0 to e; h: from anything to 4294967295
abbrev pub edge : SymState → Form → Edge → (Leg → Goals) → Goals
edge s node (F i) go_on = of_fact s i forth go_on
edge s node (G i) go_on = of_fact s i back go_on
edge s node (X i) go_on = of_fact s i exact_forth go_on
edge s node (Y i) go_on = of_fact s i exact_back go_on
edge s node (P i) go_on = of_fact s i from_one_more go_on
edge s node (Q i) go_on = of_fact s i to_one_more go_on
edge s node (R i) go_on = of_fact s i to_one_less go_on
edge s node (S i) go_on = of_fact s i from_one_less go_on
edge s node (K n) go_on =
    Needs 3 (is_constant node)
    (go_on (record { from = node; to = word_form (Number n); up = node.constant - wrap n; down = wrap n - node.constant }))
edge s node (Z e) go_on = go_on (leg (Number 0) e 0 0)
edge s node H go_on = go_on (record { from = node; to = word_form (Number 4294967295); up = 0; down = 0 })

-- the edges in order, each from where the one before ends; then what follows, at the last node with both sums
abbrev pub legs : SymState → List DArg → Form → ℕ → ℕ → (Form → ℕ → ℕ → Goals) → Goals
legs s [] node up down go_on = go_on node up down
legs s (given.Edge e ∷ es) node up down go_on =
    edge s node e (λ l. Needs 3 (same_form l.from node) (legs s es l.to (up + l.up) (down + l.down) go_on))
legs s (_ ∷ es) node up down go_on = Fails 2

-- every argument is an edge with a fact, and a word, that the state has
abbrev pub is_there : {A : Type 0} → Option A → Bool
is_there None = false
is_there (Some x) = true

abbrev pub has_fact : SymState → ℕ → Bool
has_fact s i = is_there (numbered s.facts i)

abbrev pub known_edge : SymState → Edge → Bool
known_edge s (F i) = has_fact s i
known_edge s (G i) = has_fact s i
known_edge s (X i) = has_fact s i
known_edge s (Y i) = has_fact s i
known_edge s (P i) = has_fact s i
known_edge s (Q i) = has_fact s i
known_edge s (R i) = has_fact s i
known_edge s (S i) = has_fact s i
known_edge s (K n) = true
known_edge s (Z e) = known_word s.next e
known_edge s H = true

abbrev pub known_edges : SymState → List DArg → Bool
known_edges s [] = true
known_edges s (given.Edge e ∷ es) = known_edge s e && known_edges s es
known_edges s (_ ∷ es) = false

-- the word on a goal's left side
abbrev pub left_word : Pure → Option Word
left_word (Equal a b) = Some a
left_word (Unequal a b) = Some a
left_word (Less a b) = Some a
left_word (AtMost a b) = Some a
left_word (Same s t) = None
left_word (Member a s) = Some a
left_word (NonMember a s) = Some a
left_word (Code a name) = None

-- where a chain starts: at its first edge's start; at the goal's left side, where the first edge is k or h or there is none
abbrev pub fact_start : SymState → ℕ → (Pure → Option Leg) → (Form → Goals) → Goals
fact_start s i f go_on = of_fact s i f (λ l. go_on l.from)

abbrev pub goal_start : Pure → (Form → Goals) → Goals
goal_start g go_on = Given 3 (left_word g) (λ a. go_on (word_form a))

abbrev pub chain_start : SymState → Pure → List DArg → (Form → Goals) → Goals
chain_start s g [] go_on = goal_start g go_on
chain_start s g (given.Edge (F i) ∷ es) go_on = fact_start s i forth go_on
chain_start s g (given.Edge (G i) ∷ es) go_on = fact_start s i back go_on
chain_start s g (given.Edge (X i) ∷ es) go_on = fact_start s i exact_forth go_on
chain_start s g (given.Edge (Y i) ∷ es) go_on = fact_start s i exact_back go_on
chain_start s g (given.Edge (P i) ∷ es) go_on = fact_start s i from_one_more go_on
chain_start s g (given.Edge (Q i) ∷ es) go_on = fact_start s i to_one_more go_on
chain_start s g (given.Edge (R i) ∷ es) go_on = fact_start s i to_one_less go_on
chain_start s g (given.Edge (S i) ∷ es) go_on = fact_start s i from_one_less go_on
chain_start s g (given.Edge (K n) ∷ es) go_on = goal_start g go_on
chain_start s g (given.Edge (Z e) ∷ es) go_on = go_on (word_form (Number 0))
chain_start s g (given.Edge H ∷ es) go_on = goal_start g go_on
chain_start s g (_ ∷ es) go_on = Fails 2

-- the chain goes from the goal's left side to its right side with a total of at most 0 for `<=`, at most -1 for `<`
abbrev pub proves : Pure → Form → Form → ℕ → ℕ → Bool
proves (AtMost a b) first last up down = same_form first (word_form a) && same_form last (word_form b) && nat_le up down
proves (Less a b) first last up down = same_form first (word_form a) && same_form last (word_form b) && nat_lt up down
proves _ first last up down = false

-- or, for any goal, it ends where it starts with a negative total
abbrev pub closes : Pure → Form → Form → ℕ → ℕ → Bool
closes g first last up down = proves g first last up down || (same_form first last && nat_lt up down)

-- chain[edges]
abbrev pub chain : SymState → Option Pure → List DArg → ℕ → Goals
chain s goal args n =
    Needs 1 (n == 0) (Needs 2 (known_edges s args) (Given 3 goal (λ g.
    chain_start s g args (λ first. legs s args first 0 0 (λ last up down. Needs 3 (closes g first last up down) (Leaves []))))))
