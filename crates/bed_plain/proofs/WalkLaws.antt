-- A walk along edges, each from where the one before ends, is a chain that the rule chain accepts where it closes the goal.
use Rattle.std.proofs.Common.{◌≡◌, ℕ, ◌+◌, ◌-◌, Bool, true, false, ◌&&◌, ◌||◌, ◌==◌, nat_lt, List, [], ◌∷◌, map, Option, Some, None, Result, Ok, Err, refl, ap, sym, ◌∙◌, subst, arith}
use Rattle.bed_lang.specs.declared.form.Form.{Form}
use Rattle.bed_lang.specs.declared.word.Word.{Word, Number}
use Rattle.bed_lang.specs.declared.logic.Pure.{Pure}
use Rattle.bed_lang.specs.declared.condition.Decls.{Decls}
use Rattle.bed_lang.specs.Numbers.{wrap}
use Rattle.bed_lang.specs.Forms.{word_form, same_form}
use Rattle.bed_deriv.specs.declared.derivation.Rule.TheVariants as rule
use Rattle.bed_deriv.specs.declared.derivation.DArg.{DArg}
use Rattle.bed_deriv.specs.declared.derivation.DArg.TheVariants as given
use Rattle.bed_deriv.specs.declared.derivation.Edge.{Edge}
use Rattle.bed_deriv.specs.declared.derivation.Edge.TheVariants.{F, G, X, Y, P, Q, R, S, K, Z, H}
use Rattle.bed_deriv.specs.declared.state.SymState.{SymState}
use Rattle.bed_deriv.specs.declared.state.Sequent.{Sequent}
use Rattle.bed_deriv.specs.Arguments.{numbered}
use Rattle.bed_lang.specs.SameFacts.{is_constant}
use Rattle.bed_deriv.specs.Fresh.{known_word}
use Rattle.bed_deriv.specs.Checks.{Goals, Needs, Given, Leaves, first_failure, outcome, sequent}
use Rattle.bed_deriv.specs.Chains.{Leg, leg, forth, back, exact_forth, exact_back, from_one_more, to_one_more, to_one_less, from_one_less, of_fact, edge, legs, is_there, has_fact, known_edge, known_edges, left_word, chain_start, fact_start, goal_start, closes, chain}
use Rattle.bed_deriv.specs.Derives.{fact_table}
use Rattle.bed_plain.specs.Plain.{Leaf}
use Rattle.bed_plain.proofs.CheckLaws.{needs_so, given_so, outcome_so}

module _ (s : SymState) where
  -- the leg of a fact's edge
  pub record FactLeg (i : ℕ) (f : Pure → Option Leg) (l : Leg) : Type 0 where
    pub fact : Pure
    pub at : numbered s.facts i ≡ Some fact
    pub is : f fact ≡ Some l

  -- the leg of an edge that starts at a node
  abbrev pub EdgeLeg : Form → Edge → Leg → Type 0
  EdgeLeg node (F i) l = FactLeg i forth l
  EdgeLeg node (G i) l = FactLeg i back l
  EdgeLeg node (X i) l = FactLeg i exact_forth l
  EdgeLeg node (Y i) l = FactLeg i exact_back l
  EdgeLeg node (P i) l = FactLeg i from_one_more l
  EdgeLeg node (Q i) l = FactLeg i to_one_more l
  EdgeLeg node (R i) l = FactLeg i to_one_less l
  EdgeLeg node (S i) l = FactLeg i from_one_less l
  EdgeLeg node (K n) l = (is_constant node ≡ true) × (record { from = node; to = word_form (Number n); up = node.constant - wrap n; down = wrap n - node.constant } ≡ l)
  EdgeLeg node (Z e) l = (known_word s.next e ≡ true) × (leg (Number 0) e 0 0 ≡ l)
  EdgeLeg node H l = record { from = node; to = word_form (Number 4294967295); up = 0; down = 0 } ≡ l

  -- edges in order, with the sums of their weights
  abbrev pub Walks : List Edge → Form → ℕ → ℕ → Form → ℕ → ℕ → Type 0
  Walks [] node up down last u w = (node ≡ last) × (up ≡ u) × (down ≡ w)
  Walks (e ∷ es) node up down last u w = (l : Leg) × EdgeLeg node e l × (same_form l.from node ≡ true) × Walks es l.to (up + l.up) (down + l.down) last u w

  -- where a chain starts
  abbrev pub Starts : Pure → List Edge → Form → Type 0
  Starts g (F i ∷ es) first = (l : Leg) × FactLeg i forth l × (l.from ≡ first)
  Starts g (G i ∷ es) first = (l : Leg) × FactLeg i back l × (l.from ≡ first)
  Starts g (X i ∷ es) first = (l : Leg) × FactLeg i exact_forth l × (l.from ≡ first)
  Starts g (Y i ∷ es) first = (l : Leg) × FactLeg i exact_back l × (l.from ≡ first)
  Starts g (P i ∷ es) first = (l : Leg) × FactLeg i from_one_more l × (l.from ≡ first)
  Starts g (Q i ∷ es) first = (l : Leg) × FactLeg i to_one_more l × (l.from ≡ first)
  Starts g (R i ∷ es) first = (l : Leg) × FactLeg i to_one_less l × (l.from ≡ first)
  Starts g (S i ∷ es) first = (l : Leg) × FactLeg i from_one_less l × (l.from ≡ first)
  Starts g (Z e ∷ es) first = word_form (Number 0) ≡ first
  Starts g _ first = (a : Word) × (left_word g ≡ Some a) × (word_form a ≡ first)

  by_fact : (i : ℕ) (f : Pure → Option Leg) (l : Leg) (h : Leg → Goals) (qs : List Sequent) → FactLeg i f l → first_failure (h l) ≡ Ok qs → first_failure (of_fact s i f h) ≡ Ok qs
  by_fact i f l h qs x e = given_so 2 (numbered s.facts i) (λ p. Given 3 (f p) h) x.fact qs x.at (given_so 3 (f x.fact) h l qs x.is e)

  along : (node : Form) (e : Edge) (l : Leg) (h : Leg → Goals) (qs : List Sequent) → EdgeLeg node e l → first_failure (h l) ≡ Ok qs → first_failure (edge s node e h) ≡ Ok qs
  along node (F i) l h qs x e = by_fact i forth l h qs x e
  along node (G i) l h qs x e = by_fact i back l h qs x e
  along node (X i) l h qs x e = by_fact i exact_forth l h qs x e
  along node (Y i) l h qs x e = by_fact i exact_back l h qs x e
  along node (P i) l h qs x e = by_fact i from_one_more l h qs x e
  along node (Q i) l h qs x e = by_fact i to_one_more l h qs x e
  along node (R i) l h qs x e = by_fact i to_one_less l h qs x e
  along node (S i) l h qs x e = by_fact i from_one_less l h qs x e
  along node (K n) l h qs x e =
      let k : Leg = record { from = node; to = word_form (Number n); up = node.constant - wrap n; down = wrap n - node.constant } in
      needs_so 3 (is_constant node) (h k) qs x.0 (subst (λ (k : Leg). first_failure (h k) ≡ Ok qs) (sym x.1) e)
  along node (Z w) l h qs x e = subst (λ (k : Leg). first_failure (h k) ≡ Ok qs) (sym x.1) e
  along node H l h qs x e = subst (λ (k : Leg). first_failure (h k) ≡ Ok qs) (sym x) e

  walk_legs : (es : List Edge) (node last : Form) (up down u w : ℕ) (h : Form → ℕ → ℕ → Goals) (qs : List Sequent) → Walks es node up down last u w
      → first_failure (h last u w) ≡ Ok qs → first_failure (legs s (map given.Edge es) node up down h) ≡ Ok qs
  walk_legs [] node last up down u w h qs x e =
      subst (λ (f : Form). first_failure (h f up down) ≡ Ok qs) (sym x.0) (subst (λ m. first_failure (h last m down) ≡ Ok qs) (sym x.1) (subst (λ m. first_failure (h last u m) ≡ Ok qs) (sym x.2) e))
  walk_legs (a ∷ es) node last up down u w h qs (l, is, same, more) e =
      along node a l (λ k. Needs 3 (same_form k.from node) (legs s (map given.Edge es) k.to (up + k.up) (down + k.down) h)) qs is
      (needs_so 3 (same_form l.from node) (legs s (map given.Edge es) l.to (up + l.up) (down + l.down) h) qs same
      (walk_legs es l.to last (up + l.up) (down + l.down) u w h qs more e))

  there : (i : ℕ) (f : Pure → Option Leg) (l : Leg) → FactLeg i f l → has_fact s i ≡ true
  there i f l x = ap is_there x.at

  edge_known : (node : Form) (e : Edge) (l : Leg) → EdgeLeg node e l → known_edge s e ≡ true
  edge_known node (F i) l x = there i forth l x
  edge_known node (G i) l x = there i back l x
  edge_known node (X i) l x = there i exact_forth l x
  edge_known node (Y i) l x = there i exact_back l x
  edge_known node (P i) l x = there i from_one_more l x
  edge_known node (Q i) l x = there i to_one_more l x
  edge_known node (R i) l x = there i to_one_less l x
  edge_known node (S i) l x = there i from_one_less l x
  edge_known node (K n) l x = refl
  edge_known node (Z w) l x = x.0
  edge_known node H l x = refl

  edges_known : (es : List Edge) (node last : Form) (up down u w : ℕ) → Walks es node up down last u w → known_edges s (map given.Edge es) ≡ true
  edges_known [] node last up down u w x = refl
  edges_known (a ∷ es) node last up down u w (l, is, same, more) =
      ap (λ b. b && known_edges s (map given.Edge es)) (edge_known node a l is) ∙ edges_known es l.to last (up + l.up) (down + l.down) u w more

  from_fact : (i : ℕ) (f : Pure → Option Leg) (l : Leg) (first : Form) (h : Form → Goals) (qs : List Sequent) → FactLeg i f l → l.from ≡ first → first_failure (h first) ≡ Ok qs
      → first_failure (fact_start s i f h) ≡ Ok qs
  from_fact i f l first h qs x same e = by_fact i f l (λ k. h k.from) qs x (subst (λ (n : Form). first_failure (h n) ≡ Ok qs) (sym same) e)

  from_goal : (g : Pure) (a : Word) (first : Form) (h : Form → Goals) (qs : List Sequent) → left_word g ≡ Some a → word_form a ≡ first → first_failure (h first) ≡ Ok qs
      → first_failure (goal_start g h) ≡ Ok qs
  from_goal g a first h qs is same e = given_so 3 (left_word g) (λ a. h (word_form a)) a qs is (subst (λ (n : Form). first_failure (h n) ≡ Ok qs) (sym same) e)

  starts_so : (g : Pure) (es : List Edge) (first : Form) (h : Form → Goals) (qs : List Sequent) → Starts g es first → first_failure (h first) ≡ Ok qs
      → first_failure (chain_start s g (map given.Edge es) h) ≡ Ok qs
  starts_so g [] first h qs x e = from_goal g x.0 first h qs x.1 x.2 e
  starts_so g (F i ∷ es) first h qs x e = from_fact i forth x.0 first h qs x.1 x.2 e
  starts_so g (G i ∷ es) first h qs x e = from_fact i back x.0 first h qs x.1 x.2 e
  starts_so g (X i ∷ es) first h qs x e = from_fact i exact_forth x.0 first h qs x.1 x.2 e
  starts_so g (Y i ∷ es) first h qs x e = from_fact i exact_back x.0 first h qs x.1 x.2 e
  starts_so g (P i ∷ es) first h qs x e = from_fact i from_one_more x.0 first h qs x.1 x.2 e
  starts_so g (Q i ∷ es) first h qs x e = from_fact i to_one_more x.0 first h qs x.1 x.2 e
  starts_so g (R i ∷ es) first h qs x e = from_fact i to_one_less x.0 first h qs x.1 x.2 e
  starts_so g (S i ∷ es) first h qs x e = from_fact i from_one_less x.0 first h qs x.1 x.2 e
  starts_so g (K n ∷ es) first h qs x e = from_goal g x.0 first h qs x.1 x.2 e
  starts_so g (Z w ∷ es) first h qs x e = subst (λ (n : Form). first_failure (h n) ≡ Ok qs) (sym x) e
  starts_so g (H ∷ es) first h qs x e = from_goal g x.0 first h qs x.1 x.2 e

  -- the chain is accepted: as a chain from the goal's left side to its right side, or, for any goal, as a negative cycle
  pub walk_accepted : (d : Decls) (g : Pure) (es : List Edge) (first last : Form) (u w : ℕ) → Starts g es first → Walks es first 0 0 last u w → closes g first last u w ≡ true
      → Leaf d rule.Chain (sequent s g) (map given.Edge es)
  walk_accepted d g es first last u w begins goes is =
      let go = λ (first : Form). legs s (map given.Edge es) first 0 0 (λ last up down. Needs 3 (closes g first last up down) (Leaves [])) in
      outcome_so (chain s (Some g) (map given.Edge es) 0) []
      (needs_so 2 (known_edges s (map given.Edge es)) (Given 3 (Some g) (λ g. chain_start s g (map given.Edge es) (λ first. legs s (map given.Edge es) first 0 0 (λ last up down. Needs 3 (closes g first last up down) (Leaves []))))) []
      (edges_known es first last 0 0 u w goes)
      (starts_so g es first go [] begins
      (walk_legs es first last 0 0 u w (λ last up down. Needs 3 (closes g first last up down) (Leaves [])) [] goes
      (needs_so 3 (closes g first last u w) (Leaves []) [] is refl)))) refl
