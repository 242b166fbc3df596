-- Values that meet all edges of the graph solve all edges of chains, once they are carried on to every form.
use Rattle.std.proofs.Common.{◌≡◌, ℕ, ℤ, pos, negsuc, ◌+ℤ◌, ◌-ℤ◌, ◌≤ℤ◌, ◌<ℤ◌, zero, suc, ◌+◌, ◌-◌, ◌<◌, ◌≤◌, true, if◌then◌else◌, List, [], ◌∷◌, ◌++◌, slice_get, Option, Some, None, refl, ap, sym, ◌∙◌, subst, arith}
use Rattle.std.proofs.lemmas.Int.{ints}
use Rattle.bed_lang.specs.declared.form.Form.{Form}
use Rattle.bed_lang.specs.declared.word.Word.{Word, Number}
use Rattle.bed_lang.specs.declared.logic.Pure.{Pure}
use Rattle.bed_lang.specs.Forms.{word_form, same_form}
use Rattle.bed_lang.specs.SameFacts.{is_constant}
use Rattle.bed_forms.proofs.DifferenceLaws.{constant-small}
use Rattle.bed_forms.proofs.SameForms.{same_form-decides}
use Rattle.bed_deriv.specs.declared.derivation.Edge.{Edge}
use Rattle.bed_deriv.specs.declared.derivation.Edge.TheVariants as edge
use Rattle.bed_deriv.specs.declared.state.SymState.{SymState}
use Rattle.bed_deriv.specs.Arguments.{numbered}
use Rattle.bed_deriv.specs.Fresh.{known_word}
use Rattle.bed_deriv.specs.Chains.{Leg, leg, forth, back, exact_forth, exact_back, from_one_more, to_one_more, to_one_less, from_one_less}
use Rattle.bed_diff.specs.Edges.{value_at, Solves as SolvesEdges}
use Rattle.bed_plain.specs.Chained.{has_form, LegHolds, FactHolds, Solves, zero_form, top_form}
use Rattle.bed_plain.proofs.ChainLaws.{number_form}
use Rattle.bed_plain.proofs.CarryLaws.{outside, carry, carried_solves}
use Rattle.bed_chain.specs.Graph.{forms_of, place_of, Link, link, link_if, edge_between, edges_of, fact_links, facts_links, number_leg, top_leg, constant_links, named_word, least_links, node_links, nodes_links, all_links}
use Rattle.bed_chain.proofs.RebuiltLemmas.{named_form, named_known}
use Rattle.bed_chain.proofs.NodeLemmas.{together, place_together, placed}
use Rattle.bed_chain.proofs.LinkLemmas.{numbered_next, Each, constant_form, IsLink}

-- ---- whole numbers as natural ones, from far enough below

abbrev IsAbove : ℕ → ℤ → Type 0
IsAbove c (pos n) = Unit {0}
IsAbove c (negsuc n) = suc n ≤ c

pub lift : ℕ → ℤ → ℕ
lift c (pos n) = n + c
lift c (negsuc n) = c - suc n

below : ℤ → ℕ
below (pos n) = 0
below (negsuc n) = suc n

pub bound_of : List ℤ → ℕ
bound_of [] = 0
bound_of (z ∷ zs) = below z + bound_of zs

own_above : (z : ℤ) (c : ℕ) → IsAbove (below z + c) z
unfolding below
own_above (pos n) c = tt
own_above (negsuc n) c = omega arith

more_above : (z : ℤ) (c d : ℕ) → IsAbove c z → IsAbove (d + c) z
more_above (pos n) c d h = tt
more_above (negsuc n) c d h = omega arith

pub at_above : (vs : List ℤ) (k : ℕ) → IsAbove (bound_of vs) (value_at vs k)
unfolding bound_of
at_above [] k = tt
at_above (z ∷ zs) zero = own_above z (bound_of zs)
at_above (z ∷ zs) (suc k) = more_above (value_at zs k) (bound_of zs) (below z) (at_above zs k)

lift_met : (c : ℕ) (y z : ℤ) (up down : ℕ) → IsAbove c y → IsAbove c z → y ≤ℤ (z +ℤ (pos up -ℤ pos down)) → lift c y + down ≤ lift c z + up
unfolding lift
lift_met c (pos m) (pos n) up down a b h = omega (arith, ints)
lift_met c (pos m) (negsuc n) up down a b h = omega (arith, ints)
lift_met c (negsuc m) (pos n) up down a b h = omega (arith, ints)
lift_met c (negsuc m) (negsuc n) up down a b h = omega (arith, ints)

pub lift_above : (c : ℕ) (y z : ℤ) → IsAbove c y → IsAbove c z → (z +ℤ pos 0) <ℤ y → lift c z < lift c y
unfolding lift
lift_above c (pos m) (pos n) a b h = omega (arith, ints)
lift_above c (pos m) (negsuc n) a b h = omega (arith, ints)
lift_above c (negsuc m) (pos n) a b h = omega (arith, ints)
lift_above c (negsuc m) (negsuc n) a b h = omega (arith, ints)

pub lift_at_least : (c : ℕ) (y z : ℤ) → IsAbove c y → IsAbove c z → (z +ℤ negsuc 0) <ℤ y → lift c z ≤ lift c y
unfolding lift
lift_at_least c (pos m) (pos n) a b h = omega (arith, ints)
lift_at_least c (pos m) (negsuc n) a b h = omega (arith, ints)
lift_at_least c (negsuc m) (pos n) a b h = omega (arith, ints)
lift_at_least c (negsuc m) (negsuc n) a b h = omega (arith, ints)

-- ---- facts of each item

each_front : {A : Type 0} (P : A → Type 0) (xs ys : List A) → Each P (xs ++ ys) → Each P xs
each_front P [] ys h = tt
each_front P (x ∷ xs) ys h = (h.0, each_front P xs ys h.1)

each_back : {A : Type 0} (P : A → Type 0) (xs ys : List A) → Each P (xs ++ ys) → Each P ys
each_back P [] ys h = h
each_back P (x ∷ xs) ys h = each_back P xs ys h.1

module _ (s : SymState) (ws : List Word) (vs : List ℤ) where
  abbrev pub fs : List Form
  fs = forms_of ws

  abbrev pub value : Form → ℕ
  value f = lift (bound_of vs) (value_at vs (place_of f fs))

  abbrev pub v : Form → ℕ
  v = carry fs value

  alike : (f g : Form) → same_form f g ≡ true → value f ≡ value g
  alike f g same = ap (λ n. lift (bound_of vs) (value_at vs n)) (place_together fs 0 f g same)

  abbrev Met : Link → Type 0
  Met x = value x.leg.from + x.leg.down ≤ value x.leg.to + x.leg.up

  links_met : (xs : List Link) → SolvesEdges vs (edges_of fs xs) → Each Met xs
  links_met [] all = tt
  links_met (x ∷ xs) all = (
    lift_met (bound_of vs) (value_at vs (place_of x.leg.from fs)) (value_at vs (place_of x.leg.to fs)) x.leg.up x.leg.down (at_above vs (place_of x.leg.from fs)) (at_above vs (place_of x.leg.to fs))
        (all 0 (edge_between fs x.leg) (omega arith)),
    links_met xs (λ k d lt. all (suc k) d (omega arith)),
  )

  -- ---- the legs of the facts, between forms of the graph

  abbrev Held : Link → Type 0
  Held x = LegHolds v (Some x.leg)

  pub inside : (f : Form) → has_form f fs ≡ true → v f ≡ value f
  inside f has = ap (λ b. if b then value f else outside (value zero_form) f) has

  held_of : (x : Link) → IsLink fs s x → Met x → Held x
  held_of x good met = let a = inside x.leg.from good.ends.from_in in let b = inside x.leg.to good.ends.to_in in omega arith

  all_held : (xs : List Link) → Each (IsLink fs s) xs → Each Met xs → Each Held xs
  all_held [] good met = tt
  all_held (x ∷ xs) good met = (held_of x good.0 met.0, all_held xs good.1 met.1)

  leg_held : (e : Edge) (o : Option Leg) → Each Held (link_if e o) → LegHolds v o
  leg_held e None h = tt
  leg_held e (Some l) h = h.0

  fact_held : (i : ℕ) (p : Pure) → Each Held (fact_links i p) → FactHolds v p
  fact_held i p h =
      let r1 = each_back Held (link_if (edge.F i) (forth p)) _ h in
      let r2 = each_back Held (link_if (edge.G i) (back p)) _ r1 in
      let r3 = each_back Held (link_if (edge.X i) (exact_forth p)) _ r2 in
      let r4 = each_back Held (link_if (edge.Y i) (exact_back p)) _ r3 in
      let r5 = each_back Held (link_if (edge.P i) (from_one_more p)) _ r4 in
      let r6 = each_back Held (link_if (edge.Q i) (to_one_more p)) _ r5 in
      record {
        by_f = leg_held (edge.F i) (forth p) (each_front Held (link_if (edge.F i) (forth p)) _ h);
        by_g = leg_held (edge.G i) (back p) (each_front Held (link_if (edge.G i) (back p)) _ r1);
        by_x = leg_held (edge.X i) (exact_forth p) (each_front Held (link_if (edge.X i) (exact_forth p)) _ r2);
        by_y = leg_held (edge.Y i) (exact_back p) (each_front Held (link_if (edge.Y i) (exact_back p)) _ r3);
        by_p = leg_held (edge.P i) (from_one_more p) (each_front Held (link_if (edge.P i) (from_one_more p)) _ r4);
        by_q = leg_held (edge.Q i) (to_one_more p) (each_front Held (link_if (edge.Q i) (to_one_more p)) _ r5);
        by_r = leg_held (edge.R i) (to_one_less p) (each_front Held (link_if (edge.R i) (to_one_less p)) _ r6);
        by_s = leg_held (edge.S i) (from_one_less p) (each_back Held (link_if (edge.R i) (to_one_less p)) _ r6);
      }

  facts_held : (ps : List Pure) (i : ℕ) → Each Held (facts_links i ps) → (k : ℕ) (p : Pure) → slice_get ps k ≡ Some p → FactHolds v p
  facts_held [] i h k p e = absurd (cc)
  facts_held (q ∷ ps) i h zero p e = let same : q ≡ p = cc in subst (FactHolds v) same (fact_held i q (each_front Held (fact_links i q) (facts_links (i + 1) ps) h))
  facts_held (q ∷ ps) i h (suc k) p e = facts_held ps (i + 1) (each_back Held (fact_links i q) (facts_links (i + 1) ps) h) k p e

  numbered_held : Each Held (facts_links 1 s.facts) → (i : ℕ) (p : Pure) → numbered s.facts i ≡ Some p → FactHolds v p
  numbered_held h zero p e = absurd (cc)
  numbered_held h (suc k) p e = facts_held s.facts 1 h k p (sym (numbered_next s.facts k) ∙ e)

  -- ---- the edges of the nodes

  node_met : (us : List Word) → Each Met (nodes_links s.next us) → (k : ℕ) (w : Word) → slice_get us k ≡ Some w → Each Met (node_links s.next w)
  node_met [] h k w e = absurd (cc)
  node_met (u ∷ us) h zero w e = let same : u ≡ w = cc in subst (λ (z : Word). Each Met (node_links s.next z)) same (each_front Met (node_links s.next u) (nodes_links s.next us) h)
  node_met (u ∷ us) h (suc k) w e = node_met us (each_back Met (node_links s.next u) (nodes_links s.next us) h) k w e

  module _ (all : Each Met (nodes_links s.next ws)) (zero_in : has_form zero_form fs ≡ true) (top_in : has_form top_form fs ≡ true) where
    -- a node of a form
    node : (f : Form) → has_form f fs ≡ true → (w : Word) × (same_form f (word_form w) ≡ true) × Each Met (node_links s.next w)
    node f has = let p = placed ws 0 f has in (p.word, p.same, node_met ws all p.place p.word p.at)

    zero_constant : zero_form.constant ≡ 0
    zero_constant = ap (λ (f : Form). f.constant) (number_form 0)

    behind : (w : Word) → Each Met (node_links s.next w) → Each Met (link edge.H (top_leg (word_form w)) ∷ constant_links (word_form w))
    behind w h = each_back Met (least_links s.next w) _ h

    constant_at : (w : Word) → is_constant (word_form w) ≡ true → Each Met (constant_links (word_form w)) → value (word_form w) ≡ value zero_form + (word_form w).constant
    constant_at w is h =
        let f = word_form w in
        let both : Each Met (link (edge.K 0) (number_leg f 0) ∷ link (edge.K f.constant) (number_leg (word_form (Number 0)) f.constant) ∷ []) =
        subst (λ b. Each Met (if b then link (edge.K 0) (number_leg f 0) ∷ link (edge.K f.constant) (number_leg (word_form (Number 0)) f.constant) ∷ [] else [])) is h in
        let one = both.0 in
        let two = both.1.0 in
        let z = zero_constant in
        let small = constant-small w in
        let same : value (word_form (Number f.constant)) ≡ value f = ap value (constant_form w is) in
        omega arith

    constants : (f : Form) → has_form f fs ≡ true → is_constant f ≡ true → value f ≡ value zero_form + f.constant
    constants f has is =
        let n = node f has in
        let w = n.0 in
        let same = n.1 in
        let t = together fs f (word_form w) same in
        alike f (word_form w) same ∙ constant_at w (sym t.1 ∙ is) (behind w n.2).1 ∙ ap (λ m. value zero_form + m) (sym t.2)

    top_is : top_form.constant ≡ 4294967295
    top_is = ap (λ (f : Form). f.constant) (number_form 4294967295)

    top_far : value top_form ≡ value zero_form + 4294967295
    top_far = constants top_form top_in (subst (λ (f : Form). is_constant f ≡ true) (sym (number_form 4294967295)) refl) ∙ ap (λ n. value zero_form + n) top_is

    largest : (f : Form) → has_form f fs ≡ true → value f ≤ value top_form
    largest f has =
        let n = node f has in
        let same = alike f (word_form n.0) n.1 in
        let h = (behind n.0 n.2).0 in
        omega arith

    least : (w : Word) → known_word s.next w ≡ true → has_form (word_form w) fs ≡ true → value zero_form ≤ value (word_form w)
    least w known has =
        let n = node (word_form w) has in
        let u = n.0 in
        let same = alike (word_form w) (word_form u) n.1 in
        let is = named_known s.next w u known ((same_form-decides w u).0 n.1) in
        let one : Each Met (link (edge.Z (named_word s.next u)) (leg (Number 0) (named_word s.next u) 0 0) ∷ []) =
        subst (λ b. Each Met (if b then link (edge.Z (named_word s.next u)) (leg (Number 0) (named_word s.next u) 0 0) ∷ [] else [])) is (each_front Met (least_links s.next u) _ n.2) in
        let h = one.0 in
        let form : value (word_form (named_word s.next u)) ≡ value (word_form u) = ap value (named_form s.next u) in
        omega arith

    pub solved : Each Held (facts_links 1 s.facts) → Solves s v
    solved held = carried_solves s fs value (together fs) alike zero_in top_in constants top_far least largest (numbered_held held)

  pub point_solves : SolvesEdges vs (edges_of fs (all_links s ws)) → Each (IsLink fs s) (all_links s ws) → has_form zero_form fs ≡ true → has_form top_form fs ≡ true → Solves s v
  point_solves all good zero_in top_in =
      let met = links_met (all_links s ws) all in
      let own = facts_links 1 s.facts in
      let nodes = nodes_links s.next ws in
      solved (each_back Met own nodes met) zero_in top_in (all_held own (each_front (IsLink fs s) own nodes good) (each_front Met own nodes met))
