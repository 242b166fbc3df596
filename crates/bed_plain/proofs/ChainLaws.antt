-- A solution of all edges and a chain: the chain's start is at most its end plus its weight.
use Rattle.std.proofs.Common.{◌≡◌, ℕ, ◌+◌, ◌-◌, ◌≤◌, ◌<◌, Bool, true, false, ◌&&◌, ◌||◌, ◌==◌, nat_le, nat_lt, List, [], ◌∷◌, Option, Some, None, Result, Ok, Err, refl, ap, sym, ◌∙◌, subst, arith, inl, inr}
use Rattle.std.proofs.lemmas.Bool.{and_parts, or_cases, ltb-true, leb-true}
use Rattle.bed_lang.specs.declared.form.Form.{Form}
use Rattle.bed_lang.specs.declared.word.Word.{Word, Number, roll-Word, ind-Word, fold-roll-Word, map-Word}
use Rattle.bed_lang.specs.declared.word.Word.TheOpen.{Word-F}
use Rattle.bed_lang.specs.declared.word.Word.TheVariants.{rolls-Number}
use Rattle.bed_lang.specs.declared.logic.Pure.{Pure}
use Rattle.bed_lang.specs.declared.logic.Pure.TheVariants.{Equal, Unequal, Less, AtMost, Same, Member, NonMember, Code}
use Rattle.bed_lang.specs.declared.condition.Decls.{Decls}
use Rattle.bed_lang.specs.Numbers.{wrap}
use Rattle.bed_lang.specs.Forms.{word_form, form_step, same_form}
use Rattle.bed_lang.specs.Differences.{difference}
use Rattle.bed_deriv.specs.declared.derivation.Rule.TheVariants as rule
use Rattle.bed_deriv.specs.declared.derivation.DArg.{DArg}
use Rattle.bed_deriv.specs.declared.derivation.DArg.TheVariants as given
use Rattle.bed_deriv.specs.declared.derivation.Edge.{Edge}
use Rattle.bed_deriv.specs.declared.derivation.Edge.TheVariants.{F, G, X, Y, P, Q, R, S, K, Z, H}
use Rattle.bed_deriv.specs.declared.state.SymState.{SymState}
use Rattle.bed_deriv.specs.declared.state.Sequent.{Sequent}
use Rattle.bed_deriv.specs.Arguments.{numbered}
use Rattle.bed_lang.specs.SameFacts.{is_constant}
use Rattle.bed_deriv.specs.Fresh.{known_word}
use Rattle.bed_deriv.specs.Checks.{Goals, Check, Needs, Given, Leaves, first_failure, outcome, sequent}
use Rattle.bed_deriv.specs.Chains.{Leg, leg, forth, back, exact_forth, exact_back, from_one_more, to_one_more, to_one_less, from_one_less, one_more, one_less, constant_above_0, up_by, down_by, of_fact, edge, legs, known_edge, known_edges, left_word, chain_start, fact_start, goal_start, proves, closes, chain}
use Rattle.bed_deriv.specs.Derives.{fact_table}
use Rattle.bed_plain.specs.Chained.{LegHolds, FactHolds, Solves, Says, zero_form, top_form}
use Rattle.bed_plain.specs.Plain.{Leaf}
use Rattle.bed_plain.proofs.CheckLaws.{needs_ok, needs_so, given_ok, given_so, outcome_ok, outcome_so}

-- ---- constants of forms are words

abbrev IsSmall : Form → Type 0
IsSmall f = f.constant < 4294967296

small_layer : (x : Word-F Form) → IsSmall (form_step x)
small_layer (Word-F.Number n) = omega arith
small_layer (Word-F.Var x) = omega arith
small_layer (Word-F.Label x) = omega arith
small_layer (Word-F.Add a b) = omega arith
small_layer (Word-F.Sub a b) = omega arith
small_layer (Word-F.Times n a) = omega arith

pub small_form : (w : Word) → IsSmall (word_form w)
small_form = ind-Word (λ w. IsSmall (word_form w)) (λ x y is. subst IsSmall (sym (fold-roll-Word Form form_step x)) (small_layer (map-Word Word Form word_form x)))

pub number_form : (n : ℕ) → word_form (Number n) ≡ record { constant = wrap n; parts = [] }
number_form n = ap word_form (sym (rolls-Number n)) ∙ fold-roll-Word Form form_step (Word-F.Number n)

-- ---- edges

module _ (s : SymState) (v : Form → ℕ) (solves : Solves s v) where
  -- an edge that is accepted: its leg holds under v, and it is accepted whatever follows at that leg
  abbrev Leads : Form → Edge → (Leg → Goals) → List Sequent → Type 1
  Leads node e go_on qs =
      (l : Leg) × LegHolds v (Some l) × (IsSmall l.from × IsSmall l.to) × (first_failure (go_on l) ≡ Ok qs)
      × ((h : Leg → Goals) (rs : List Sequent) → first_failure (h l) ≡ Ok rs → first_failure (edge s node e h) ≡ Ok rs)

  abbrev EndIsSmall : Option Leg → Type 0
  EndIsSmall None = Unit {0}
  EndIsSmall (Some l) = IsSmall l.from × IsSmall l.to

  abbrev Tells : (Pure → Option Leg) → Type 0
  Tells f = (p : Pure) → FactHolds v p → LegHolds v (f p) × EndIsSmall (f p)

  by_fact : (i : ℕ) (f : Pure → Option Leg) (go_on : Leg → Goals) (qs : List Sequent) → Tells f → first_failure (of_fact s i f go_on) ≡ Ok qs
      → (l : Leg) × LegHolds v (Some l) × (IsSmall l.from × IsSmall l.to) × (first_failure (go_on l) ≡ Ok qs)
      × ((h : Leg → Goals) (rs : List Sequent) → first_failure (h l) ≡ Ok rs → first_failure (of_fact s i f h) ≡ Ok rs)
  by_fact i f go_on qs tells e =
      let (p, at, e2) = given_ok 2 (numbered s.facts i) (λ p. Given 3 (f p) go_on) qs e in
      let (l, is, e3) = given_ok 3 (f p) go_on qs e2 in
      let told = tells p (solves.facts_hold i p at) in (
        l,
        subst (LegHolds v) is told.0,
        subst EndIsSmall is told.1,
        e3,
        λ h rs e4. given_so 2 (numbered s.facts i) (λ p. Given 3 (f p) h) p rs at (given_so 3 (f p) h l rs is e4),
      )

  f_tells : Tells forth
  f_tells (Less a b) h = (h.by_f, (small_form a, small_form b))
  f_tells (AtMost a b) h = (h.by_f, (small_form a, small_form b))
  f_tells (Equal a b) h = (h.by_f, (small_form a, small_form b))
  f_tells _ h = (h.by_f, tt)

  g_tells : Tells back
  g_tells (Equal a b) h = (h.by_g, (small_form b, small_form a))
  g_tells _ h = (h.by_g, tt)

  up_small : (a b : Word) (c : Option ℕ) → EndIsSmall (up_by a b c)
  up_small a b None = tt
  up_small a b (Some c) = (small_form a, small_form b)

  down_small : (a b : Word) (c : Option ℕ) → EndIsSmall (down_by a b c)
  down_small a b None = tt
  down_small a b (Some c) = (small_form b, small_form a)

  x_tells : Tells exact_forth
  x_tells (Less a b) h = (h.by_x, up_small a b (constant_above_0 (difference b a)))
  x_tells (AtMost a b) h = (h.by_x, up_small a b (constant_above_0 (difference b a)))
  x_tells _ h = (h.by_x, tt)

  y_tells : Tells exact_back
  y_tells (Less a b) h = (h.by_y, down_small a b (constant_above_0 (difference b a)))
  y_tells (AtMost a b) h = (h.by_y, down_small a b (constant_above_0 (difference b a)))
  y_tells _ h = (h.by_y, tt)

  p_tells : Tells from_one_more
  p_tells (Less a b) h = (h.by_p, (small_form (one_more a), small_form a))
  p_tells _ h = (h.by_p, tt)

  q_tells : Tells to_one_more
  q_tells (Less a b) h = (h.by_q, (small_form a, small_form (one_more a)))
  q_tells _ h = (h.by_q, tt)

  r_tells : Tells to_one_less
  r_tells (Less a b) h = (h.by_r, (small_form b, small_form (one_less b)))
  r_tells _ h = (h.by_r, tt)

  s_tells : Tells from_one_less
  s_tells (Less a b) h = (h.by_s, (small_form (one_less b), small_form b))
  s_tells _ h = (h.by_s, tt)

  v_number : (n : ℕ) → v (word_form (Number n)) ≡ v zero_form + wrap n
  v_number n =
      solves.constants (word_form (Number n)) (small_form (Number n)) (subst (λ f. is_constant f ≡ true) (sym (number_form n)) refl)
      ∙ ap (λ (f : Form). v zero_form + f.constant) (number_form n)

  pub leads : (node : Form) → IsSmall node → (e : Edge) → known_edge s e ≡ true → (go_on : Leg → Goals) (qs : List Sequent) → first_failure (edge s node e go_on) ≡ Ok qs → Leads node e go_on qs
  leads node small (F i) known go_on qs e = by_fact i forth go_on qs f_tells e
  leads node small (G i) known go_on qs e = by_fact i back go_on qs g_tells e
  leads node small (X i) known go_on qs e = by_fact i exact_forth go_on qs x_tells e
  leads node small (Y i) known go_on qs e = by_fact i exact_back go_on qs y_tells e
  leads node small (P i) known go_on qs e = by_fact i from_one_more go_on qs p_tells e
  leads node small (Q i) known go_on qs e = by_fact i to_one_more go_on qs q_tells e
  leads node small (R i) known go_on qs e = by_fact i to_one_less go_on qs r_tells e
  leads node small (S i) known go_on qs e = by_fact i from_one_less go_on qs s_tells e
  leads node small (K n) known go_on qs e =
      let l : Leg = record { from = node; to = word_form (Number n); up = node.constant - wrap n; down = wrap n - node.constant } in
      let (constant, e2) = needs_ok 3 (is_constant node) (go_on l) qs e in (
        l,
        (let at = solves.constants node small constant in let to = v_number n in omega arith),
        (small, small_form (Number n)),
        e2,
        λ h rs e3. needs_so 3 (is_constant node) (h l) rs constant e3,
      )
  leads node small (Z w) known go_on qs e =
      (leg (Number 0) w 0 0, (let o = solves.least w known in omega arith), (small_form (Number 0), small_form w), e, λ h rs e3. e3)
  leads node small H known go_on qs e =
      let l : Leg = record { from = node; to = word_form (Number 4294967295); up = 0; down = 0 } in
      (l, (let o = solves.largest node small in omega arith), (small, small_form (Number 4294967295)), e, λ h rs e3. e3)

  -- edges in order from a node: where they end, with both sums, what follows is accepted; and so is whatever is accepted there
  abbrev Reaches : Form → ℕ → ℕ → List DArg → (Form → ℕ → ℕ → Goals) → List Sequent → Type 1
  Reaches node up down es go_on qs =
      (last : Form) × (u w : ℕ) × (v node + up + w ≤ v last + down + u) × (first_failure (go_on last u w) ≡ Ok qs)
      × ((h : Form → ℕ → ℕ → Goals) (rs : List Sequent) → first_failure (h last u w) ≡ Ok rs → first_failure (legs s es node up down h) ≡ Ok rs)

  pub reaches : (es : List DArg) → known_edges s es ≡ true → (node : Form) (up down : ℕ) (go_on : Form → ℕ → ℕ → Goals) (qs : List Sequent) → IsSmall node
      → first_failure (legs s es node up down go_on) ≡ Ok qs → Reaches node up down es go_on qs
  reaches [] known node up down go_on qs small e = (node, up, down, omega arith, e, λ h rs e2. e2)
  reaches (given.Edge x ∷ es) known node up down go_on qs small e =
      let there = and_parts (known_edge s x) (known_edges s es) known in
      let after = λ (k : Form → ℕ → ℕ → Goals) (l : Leg). Needs 3 (same_form l.from node) (legs s es l.to (up + l.up) (down + l.down) k) in
      let (l, holds, small', e2, other) = leads node small x there.0 (after go_on) qs e in
      let (same, e3) = needs_ok 3 (same_form l.from node) (legs s es l.to (up + l.up) (down + l.down) go_on) qs e2 in
      let (last, u, w, far, e4, others) = reaches es there.1 l.to (up + l.up) (down + l.down) go_on qs small'.1 e3 in
      let alike = solves.alike l.from node same in (
        last,
        u,
        w,
        omega arith,
        e4,
        λ h rs e5. other (after h) rs (needs_so 3 (same_form l.from node) (legs s es l.to (up + l.up) (down + l.down) h) rs same (others h rs e5)),
      )
  reaches (given.Number m ∷ es) known node up down go_on qs small e = absurd (cc)
  reaches (given.Arg a ∷ es) known node up down go_on qs small e = absurd (cc)
  reaches (given.Pure p ∷ es) known node up down go_on qs small e = absurd (cc)
  reaches (given.Name x ∷ es) known node up down go_on qs small e = absurd (cc)

  -- where a chain starts
  abbrev Begins : Pure → List DArg → (Form → Goals) → List Sequent → Type 0
  Begins g args go_on qs = (first : Form) × IsSmall first × (first_failure (go_on first) ≡ Ok qs)

  begins_by_fact : (g : Pure) (args : List DArg) (i : ℕ) (f : Pure → Option Leg) (go_on : Form → Goals) (qs : List Sequent) → Tells f
      → first_failure (fact_start s i f go_on) ≡ Ok qs → Begins g args go_on qs
  begins_by_fact g args i f go_on qs tells e = let (l, holds, small, e2, other) = by_fact i f (λ l. go_on l.from) qs tells e in (l.from, small.0, e2)

  begins_by_goal : (g : Pure) (args : List DArg) (go_on : Form → Goals) (qs : List Sequent) → first_failure (goal_start g go_on) ≡ Ok qs → Begins g args go_on qs
  begins_by_goal g args go_on qs e = let (a, is, e2) = given_ok 3 (left_word g) (λ a. go_on (word_form a)) qs e in (word_form a, small_form a, e2)

  begins : (g : Pure) (args : List DArg) (go_on : Form → Goals) (qs : List Sequent) → first_failure (chain_start s g args go_on) ≡ Ok qs → Begins g args go_on qs
  begins g [] go_on qs e = begins_by_goal g [] go_on qs e
  begins g (given.Edge (F i) ∷ es) go_on qs e = begins_by_fact g [] i forth go_on qs f_tells e
  begins g (given.Edge (G i) ∷ es) go_on qs e = begins_by_fact g [] i back go_on qs g_tells e
  begins g (given.Edge (X i) ∷ es) go_on qs e = begins_by_fact g [] i exact_forth go_on qs x_tells e
  begins g (given.Edge (Y i) ∷ es) go_on qs e = begins_by_fact g [] i exact_back go_on qs y_tells e
  begins g (given.Edge (P i) ∷ es) go_on qs e = begins_by_fact g [] i from_one_more go_on qs p_tells e
  begins g (given.Edge (Q i) ∷ es) go_on qs e = begins_by_fact g [] i to_one_more go_on qs q_tells e
  begins g (given.Edge (R i) ∷ es) go_on qs e = begins_by_fact g [] i to_one_less go_on qs r_tells e
  begins g (given.Edge (S i) ∷ es) go_on qs e = begins_by_fact g [] i from_one_less go_on qs s_tells e
  begins g (given.Edge (K m) ∷ es) go_on qs e = begins_by_goal g [] go_on qs e
  begins g (given.Edge (Z w) ∷ es) go_on qs e = (word_form (Number 0), small_form (Number 0), e)
  begins g (given.Edge H ∷ es) go_on qs e = begins_by_goal g [] go_on qs e
  begins g (given.Number m ∷ es) go_on qs e = absurd (cc)
  begins g (given.Arg a ∷ es) go_on qs e = absurd (cc)
  begins g (given.Pure p ∷ es) go_on qs e = absurd (cc)
  begins g (given.Name x ∷ es) go_on qs e = absurd (cc)

  ends : (f g : Form) (a b : Word) (t : Bool) → ((same_form f (word_form a) && same_form g (word_form b)) && t) ≡ true
      → (v f ≡ v (word_form a)) × (v g ≡ v (word_form b)) × (t ≡ true)
  ends f g a b t e =
      let k = and_parts (same_form f (word_form a) && same_form g (word_form b)) t e in
      let j = and_parts (same_form f (word_form a)) (same_form g (word_form b)) k.0 in
      (solves.alike f (word_form a) j.0, solves.alike g (word_form b) j.1, k.1)

  proved : (g : Pure) (f l : Form) (u w : ℕ) → v f + w ≤ v l + u → proves g f l u w ≡ true → Says v g
  proved (AtMost a b) f l u w far e = let k = ends f l a b _ e in let m = leb-true u w k.2 in omega arith
  proved (Less a b) f l u w far e = let k = ends f l a b _ e in let m = ltb-true u w k.2 in omega arith
  proved (Equal a b) f l u w far e = absurd (cc)
  proved (Unequal a b) f l u w far e = absurd (cc)
  proved (Same a b) f l u w far e = absurd (cc)
  proved (Member a b) f l u w far e = absurd (cc)
  proved (NonMember a b) f l u w far e = absurd (cc)
  proved (Code a b) f l u w far e = absurd (cc)

  no_cycle : (f l : Form) (u w : ℕ) → v f + w ≤ v l + u → (same_form f l && nat_lt u w) ≡ true → ⊥
  no_cycle f l u w far e =
      let k = and_parts (same_form f l) (nat_lt u w) e in
      let same = solves.alike f l k.0 in let m = ltb-true u w k.1 in omega arith

  closed : (g : Pure) (f l : Form) (u w : ℕ) → v f + w ≤ v l + u → closes g f l u w ≡ true → Says v g
  closed g f l u w far e = elim (or_cases (proves g f l u w) (same_form f l && nat_lt u w) e) [
    | inl yes' ↦ proved g f l u w far yes'
    | inr cycle ↦ absurd (no_cycle f l u w far cycle)
  ]

-- A chain for a goal is true of every solution of the edges: so where a solution is found that isn't as the goal says, there is no
-- chain for it; and, since no solution is as an equation says, no negative cycle.
pub chain_says : (d : Decls) (s : SymState) (v : Form → ℕ) → Solves s v → (g : Pure) (args : List DArg) → Leaf d rule.Chain (sequent s g) args → Says v g
chain_says d s v solves g args accepted =
    let go = λ (first : Form). legs s args first 0 0 (λ last up down. Needs 3 (closes g first last up down) (Leaves [])) in
    let from = λ (x : Pure). chain_start s x args (λ first. legs s args first 0 0 (λ last up down. Needs 3 (closes x first last up down) (Leaves []))) in
    let ok = outcome_ok (chain s (Some g) args 0) [] accepted in
    let (none, e1) = needs_ok 1 true (Needs 2 (known_edges s args) (Given 3 (Some g) from)) [] ok.0 in
    let (known, e2) = needs_ok 2 (known_edges s args) (Given 3 (Some g) from) [] e1 in
    let (first, small, e3) = begins s v solves g args go [] e2 in
    let (last, u, w, far, e4, others) = reaches s v solves args known first 0 0 (λ last up down. Needs 3 (closes g first last up down) (Leaves [])) [] small e3 in
    let (is, e5) = needs_ok 3 (closes g first last u w) (Leaves []) [] e4 in
    closed s v solves g first last u w (omega arith) is
