-- A walk along the edges of the graph is a walk along edges of a chain.
use Rattle.std.proofs.Common.{◌≡◌, ℕ, pos, negsuc, ◌+ℤ◌, ◌-ℤ◌, ◌<ℤ◌, zero, suc, ◌+◌, ◌<◌, ◌≤◌, Bool, true, false, ◌&&◌, ◌||◌, nat_le, nat_lt, List, [], ◌∷◌, map, length, Some, refl, ap, sym, ◌∙◌, subst, arith, ◌⊎◌, inl, inr}
use Rattle.std.specs.Prelude.{slice_index_or}
use Rattle.std.proofs.lemmas.Int.{ints}
use Rattle.std.proofs.lemmas.Bool.{and_from, lt-ltb, le-leb}
use Rattle.bed_lang.specs.declared.form.Form.{Form}
use Rattle.bed_lang.specs.declared.word.Word.{Word}
use Rattle.bed_lang.specs.declared.logic.Pure.{Pure}
use Rattle.bed_lang.specs.declared.logic.Pure.TheVariants.{Less, AtMost}
use Rattle.bed_lang.specs.Forms.{word_form, same_form}
use Rattle.bed_lang.specs.declared.condition.Decls.{Decls}
use Rattle.bed_forms.proofs.SameForms.{same_form-decides}
use Rattle.bed_deriv.specs.declared.derivation.Rule.TheVariants as rule
use Rattle.bed_deriv.specs.declared.derivation.DArg.TheVariants as given
use Rattle.bed_deriv.specs.declared.derivation.Edge.{Edge}
use Rattle.bed_deriv.specs.declared.derivation.Edge.TheVariants as edge
use Rattle.bed_deriv.specs.declared.state.SymState.{SymState}
use Rattle.bed_deriv.specs.Checks.{sequent}
use Rattle.bed_deriv.specs.Chains.{Leg, left_word, proves}
use Rattle.bed_diff.specs.declared.constraint.Edge3.{Edge3}
use Rattle.bed_diff.specs.Edges.{edge_at, IsWalk, total}
use Rattle.bed_diff.specs.Decided.{IsChain}
use Rattle.bed_plain.specs.Chained.{has_form}
use Rattle.bed_plain.specs.Plain.{Leaf}
use Rattle.bed_plain.proofs.WalkLaws.{EdgeLeg, Walks, Starts, walk_accepted}
use Rattle.bed_chain.specs.Graph.{forms_of, place_of, Link, edge_between, edges_of, labels_of}
use Rattle.bed_chain.proofs.NodeLemmas.{one_place}
use Rattle.bed_chain.proofs.LinkLemmas.{Each, IsForm, IsLink}

-- the edges at these places
abbrev pub label_at : List Link → ℕ → Edge
label_at xs i = slice_index_or (labels_of xs) i edge.H

abbrev pub picked : List Link → List ℕ → List Edge
picked xs is = map (label_at xs) is

module _ (s : SymState) (ws : List Word) where
  abbrev fs : List Form
  fs = forms_of ws

  pub record At (xs : List Link) (i : ℕ) : Type 0 where
    pub item : Link
    pub good : IsLink fs s item
    pub edge_is : edge_at (edges_of fs xs) i ≡ edge_between fs item.leg
    pub label_is : label_at xs i ≡ item.edge

  pub at_place : (xs : List Link) (i : ℕ) → i < length (edges_of fs xs) → Each (IsLink fs s) xs → At xs i
  at_place [] i lt all = absurd (omega arith)
  at_place (x ∷ xs) zero lt all = record { item = x; good = all.0; edge_is = refl; label_is = refl }
  at_place (x ∷ xs) (suc i) lt all = let a = at_place xs i (omega arith) all.1 in record { item = a.item; good = a.good; edge_is = a.edge_is; label_is = a.label_is }

  -- the first edge says by itself where it starts
  abbrev pub IsFree : List Edge → Type 0
  IsFree [] = ⊥
  IsFree (edge.K n ∷ es) = ⊥
  IsFree (edge.H ∷ es) = ⊥
  IsFree (e ∷ es) = Unit {0}

  -- what it takes that edges start at a node, for a goal
  abbrev pub StartsAt : Pure → List Edge → Form → Type 0
  StartsAt g es f = IsFree es ⊎ ((a : Word) × (left_word g ≡ Some a) × (word_form a ≡ f))

  starts_so : (g : Pure) (e : Edge) (es : List Edge) (f : Form) (l : Leg) → EdgeLeg s f e l → l.from ≡ f → StartsAt g (e ∷ es) f → Starts s g (e ∷ es) f
  starts_so g (edge.F n) es f l x from at = (l, x, from)
  starts_so g (edge.G n) es f l x from at = (l, x, from)
  starts_so g (edge.X n) es f l x from at = (l, x, from)
  starts_so g (edge.Y n) es f l x from at = (l, x, from)
  starts_so g (edge.P n) es f l x from at = (l, x, from)
  starts_so g (edge.Q n) es f l x from at = (l, x, from)
  starts_so g (edge.R n) es f l x from at = (l, x, from)
  starts_so g (edge.S n) es f l x from at = (l, x, from)
  starts_so g (edge.Z e) es f l x from at = ap (λ (k : Leg). k.from) x.1 ∙ from
  starts_so g (edge.K n) es f l x from (inl none) = absurd none
  starts_so g (edge.K n) es f l x from (inr goal) = goal
  starts_so g edge.H es f l x from (inl none) = absurd none
  starts_so g edge.H es f l x from (inr goal) = goal

  starts_none : (g : Pure) (f : Form) → StartsAt g [] f → Starts s g [] f
  starts_none g f (inl none) = absurd none
  starts_none g f (inr goal) = goal

  -- where a walk leads, with both sums
  pub record Reach (xs : List Link) (f : Form) (is : List ℕ) (up down b : ℕ) : Type 0 where
    pub last : Form
    pub u : ℕ
    pub w : ℕ
    pub walks : Walks s (picked xs is) f up down last u w
    pub starts : (g : Pure) → StartsAt g (picked xs is) f → Starts s g (picked xs is) f
    pub form : IsForm last
    pub has : has_form last fs ≡ true
    pub at : place_of last fs ≡ b
    pub sum : (pos u -ℤ pos w) ≡ ((pos up -ℤ pos down) +ℤ total (edges_of fs xs) is)

  -- nodes at one place are one form
  pub one_node : (f g : Form) → IsForm f → IsForm g → has_form f fs ≡ true → has_form g fs ≡ true → place_of f fs ≡ place_of g fs → f ≡ g
  one_node f g x y h k e =
      x.is ∙ one_place ws x.word y.word (subst (λ (z : Form). has_form z fs ≡ true) x.is h) (subst (λ (z : Form). has_form z fs ≡ true) y.is k)
      (ap (λ (z : Form). place_of z fs) (sym x.is) ∙ e ∙ ap (λ (z : Form). place_of z fs) y.is) ∙ sym y.is

  same_self : (f : Form) → IsForm f → same_form f f ≡ true
  same_self f x = subst (λ (z : Form). same_form z z ≡ true) (sym x.is) ((same_form-decides x.word x.word).1 refl)

  module _ (xs : List Link) (all : Each (IsLink fs s) xs) where
    abbrev es : List Edge3
    es = edges_of fs xs

    pub walk_along : (is : List ℕ) (a b : ℕ) → IsWalk es a is b → (f : Form) → IsForm f → has_form f fs ≡ true → place_of f fs ≡ a → (up down : ℕ) → Reach xs f is up down b
    walk_along [] a b walk f form has at up down =
        record { last = f; u = up; w = down; walks = (refl, refl, refl); starts = λ g at. starts_none g f at; form = form; has = has; at = at ∙ walk; sum = omega (arith, ints) }
    walk_along (i ∷ is) a b walk f form has at up down =
        let x = at_place xs i walk.0 all in
        let ends = x.good.ends in
        let l = x.item.leg in
        let here : place_of f fs ≡ place_of l.from fs = at ∙ sym walk.1 ∙ ap (λ (e : Edge3). e.from) x.edge_is in
        let f_is : f ≡ l.from = one_node f l.from form ends.from_form has ends.from_in here in
        let to_at : place_of l.to fs ≡ (edge_at es i).to = sym (ap (λ (e : Edge3). e.to) x.edge_is) in
        let r = walk_along is (edge_at es i).to b walk.2 l.to ends.to_form ends.to_in to_at (up + l.up) (down + l.down) in
        let leads : EdgeLeg s f (label_at xs i) l =
        subst (λ (e : Edge). EdgeLeg s f e l) (sym x.label_is) (subst (λ (z : Form). EdgeLeg s z x.item.edge l) (sym f_is) x.good.leg_is) in
        let same : same_form l.from f ≡ true = subst (λ (z : Form). same_form z f ≡ true) f_is (same_self f form) in
        let weight : (edge_at es i).weight ≡ (pos l.up -ℤ pos l.down) = ap (λ (e : Edge3). e.weight) x.edge_is in
        let sum = r.sum in
        record { last = r.last; u = r.u; w = r.w; walks = (l, leads, same, r.walks); starts = λ g at. starts_so g (label_at xs i) (picked xs is) f l leads (sym f_is) at; form = r.form; has = r.has; at = r.at; sum = omega (arith, ints) }

    -- a chain between the sides of a goal is accepted
    sides_meet : (t : Bool) (f g : Form) (a b : Word) → f ≡ word_form a → g ≡ word_form b → t ≡ true → ((same_form f (word_form a) && same_form g (word_form b)) && t) ≡ true
    sides_meet t f g a b e h is =
        and_from (same_form f (word_form a) && same_form g (word_form b)) t
        (and_from (same_form f (word_form a)) (same_form g (word_form b))
        (subst (λ (z : Form). same_form z (word_form a) ≡ true) (sym e) ((same_form-decides a a).1 refl))
        (subst (λ (z : Form). same_form z (word_form b) ≡ true) (sym h) ((same_form-decides b b).1 refl))) is

    or_this : (b c : Bool) → b ≡ true → (b || c) ≡ true
    or_this true c e = refl
    or_this false c e = absurd (cc)

    or_that : (b c : Bool) → c ≡ true → (b || c) ≡ true
    or_that true c e = refl
    or_that false c e = e

    word_node : (a : Word) → IsForm (word_form a)
    word_node a = record { word = a; is = refl }

    pub at_most_accepted : (d : Decls) (a b : Word) (is : List ℕ) → has_form (word_form a) fs ≡ true → has_form (word_form b) fs ≡ true
        → IsChain es (record { from = place_of (word_form a) fs; to = place_of (word_form b) fs; weight = pos 0 }) is
        → Leaf d rule.Chain (sequent s (AtMost a b)) (map given.Edge (picked xs is))
    at_most_accepted d a b is has_a has_b chain =
        let r = walk_along is (place_of (word_form a) fs) (place_of (word_form b) fs) chain.0 (word_form a) (word_node a) has_a refl 0 0 in
        let last_is : r.last ≡ word_form b = one_node r.last (word_form b) r.form (word_node b) r.has has_b r.at in
        let sum = r.sum in
        let less = chain.1 in
        let down : r.u ≤ r.w = omega (arith, ints) in
        walk_accepted s d (AtMost a b) (picked xs is) (word_form a) r.last r.u r.w (r.starts (AtMost a b) (inr (a, refl, refl))) r.walks
        (or_this (proves (AtMost a b) (word_form a) r.last r.u r.w) (same_form (word_form a) r.last && nat_lt r.u r.w)
        (sides_meet (nat_le r.u r.w) (word_form a) r.last a b refl last_is (le-leb r.u r.w down)))

    pub less_accepted : (d : Decls) (a b : Word) (is : List ℕ) → has_form (word_form a) fs ≡ true → has_form (word_form b) fs ≡ true
        → IsChain es (record { from = place_of (word_form a) fs; to = place_of (word_form b) fs; weight = negsuc 0 }) is
        → Leaf d rule.Chain (sequent s (Less a b)) (map given.Edge (picked xs is))
    less_accepted d a b is has_a has_b chain =
        let r = walk_along is (place_of (word_form a) fs) (place_of (word_form b) fs) chain.0 (word_form a) (word_node a) has_a refl 0 0 in
        let last_is : r.last ≡ word_form b = one_node r.last (word_form b) r.form (word_node b) r.has has_b r.at in
        let sum = r.sum in
        let less = chain.1 in
        let down : r.u < r.w = omega (arith, ints) in
        walk_accepted s d (Less a b) (picked xs is) (word_form a) r.last r.u r.w (r.starts (Less a b) (inr (a, refl, refl))) r.walks
        (or_this (proves (Less a b) (word_form a) r.last r.u r.w) (same_form (word_form a) r.last && nat_lt r.u r.w)
        (sides_meet (nat_lt r.u r.w) (word_form a) r.last a b refl last_is (lt-ltb r.u r.w down)))

    -- a negative cycle from a node is accepted for any goal, where its first edge says where it starts
    pub cycle_accepted : (d : Decls) (g : Pure) (f : Form) (is : List ℕ) → IsForm f → has_form f fs ≡ true → IsWalk es (place_of f fs) is (place_of f fs)
        → total es is <ℤ pos 0 → IsFree (picked xs is) → Leaf d rule.Chain (sequent s g) (map given.Edge (picked xs is))
    cycle_accepted d g f is form has walk negative free =
        let r = walk_along is (place_of f fs) (place_of f fs) walk f form has refl 0 0 in
        let last_is : f ≡ r.last = one_node f r.last form r.form has r.has (sym r.at) in
        let sum = r.sum in
        let down : r.u < r.w = omega (arith, ints) in
        walk_accepted s d g (picked xs is) f r.last r.u r.w (r.starts g (inl free)) r.walks
        (or_that (proves g f r.last r.u r.w) (same_form f r.last && nat_lt r.u r.w)
        (and_from (same_form f r.last) (nat_lt r.u r.w) (subst (λ (z : Form). same_form f z ≡ true) last_is (same_self f form)) (lt-ltb r.u r.w down)))
