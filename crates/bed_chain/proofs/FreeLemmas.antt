-- Chains and cycles of the graph, as arguments of the rule chain.
use Rattle.std.proofs.Common.{◌≡◌, ℕ, ℤ, pos, negsuc, ◌+ℤ◌, ◌≤ℤ◌, zero, suc, ◌+◌, ◌-◌, ◌<◌, ◌≤◌, ◌^◌, true, false, ◌&&◌, List, [], ◌∷◌, ◌++◌, take, drop, length, Option, Some, refl, ap, ap₂, sym, ◌∙◌, subst, arith, ◌⊎◌, inl, inr, neg_ℤ, to_z, of_z, w64}
use Rattle.std.specs.Prelude.{All, slice_index_or}
use Rattle.std.proofs.lemmas.Int.{ints}
use Rattle.std.proofs.lemmas.List.{take-append-drop}
use Rattle.bed_lang.specs.declared.form.Form.{Form}
use Rattle.bed_lang.specs.declared.word.Word.{Word, Number}
use Rattle.bed_lang.specs.declared.logic.Pure.{Pure}
use Rattle.bed_lang.specs.declared.condition.Decls.{Decls}
use Rattle.bed_lang.specs.Numbers.{wrap}
use Rattle.bed_lang.specs.Forms.{word_form}
use Rattle.bed_forms.proofs.DifferenceLaws.{constant-small}
use Rattle.bed_deriv.specs.declared.derivation.Rule.TheVariants as rule
use Rattle.bed_deriv.specs.declared.derivation.DArg.{DArg}
use Rattle.bed_deriv.specs.declared.derivation.Edge.{Edge}
use Rattle.bed_deriv.specs.declared.derivation.Edge.TheVariants as edge
use Rattle.bed_deriv.specs.declared.state.SymState.{SymState}
use Rattle.bed_deriv.specs.Checks.{sequent}
use Rattle.bed_deriv.specs.Chains.{Leg}
use Rattle.bed_diff.specs.declared.constraint.Edge3.{Edge3}
use Rattle.bed_diff.specs.declared.decision.Decision.{Decision}
use Rattle.bed_diff.specs.Edges.{edge_at, IsWalk, IsWithin, total}
use Rattle.bed_diff.specs.Decided.{IsChain, IsNegativeCycle, IsPoint, OnChain, OnCycle, OnPoint}
use Rattle.bed_plain.specs.Chained.{has_form, is_between, all_between}
use Rattle.bed_plain.specs.Plain.{Leaf}
use Rattle.bed_plain.proofs.ChainLaws.{number_form}
use Rattle.bed_plain.proofs.WalkLaws.{EdgeLeg, Walks}
use Rattle.bed_chain.specs.Graph.{forms_of, place_of, Link, edge_between, edges_of, labels_of}
use Rattle.bed_chain.specs.Freed.{is_free, edge_of, edges_at, AreTied, IsFreed, chain_args}
use Rattle.bed_chain.proofs.NodeLemmas.{placed}
use Rattle.bed_chain.proofs.LinkLemmas.{Each, IsForm, IsLink}
use Rattle.bed_chain.proofs.AlongLemmas.{label_at, picked, at_place, IsFree, one_node, walk_along, cycle_accepted}

-- ---- walks in parts

walk_parts : (es : List Edge3) (a b : ℕ) (is js : List ℕ) → IsWalk es a (is ++ js) b → (m : ℕ) × IsWalk es a is m × IsWalk es m js b
walk_parts es a b [] js w = (a, refl, w)
walk_parts es a b (i ∷ is) js w = let r = walk_parts es (edge_at es i).to b is js w.2 in (r.0, (w.0, w.1, r.1), r.2)

walk_both : (es : List Edge3) (a m b : ℕ) (is js : List ℕ) → IsWalk es a is m → IsWalk es m js b → IsWalk es a (is ++ js) b
walk_both es a m b [] js w u = subst (λ n. IsWalk es n js b) (sym w) u
walk_both es a m b (i ∷ is) js w u = (w.0, w.1, walk_both es (edge_at es i).to m b is js w.2 u)

total_both : (es : List Edge3) (is js : List ℕ) → total es (is ++ js) ≡ (total es is +ℤ total es js)
total_both es [] js = omega (arith, ints)
total_both es (i ∷ is) js = let e = total_both es is js in omega (arith, ints)

-- a closed walk that begins at another of its places
turned_cycle : (es : List Edge3) (places : List ℕ) (at : ℕ) → IsNegativeCycle es places → IsNegativeCycle es (drop at places ++ take at places)
turned_cycle es places at (a, walk, negative) =
    let parts = sym (take-append-drop at places) in
    let split = walk_parts es a a (take at places) (drop at places) (subst (λ l. IsWalk es a l a) parts walk) in
    let sum : total es places ≡ (total es (take at places) +ℤ total es (drop at places)) = ap (total es) parts ∙ total_both es (take at places) (drop at places) in
    let turned = total_both es (drop at places) (take at places) in
    (split.0, walk_both es split.0 a split.0 (drop at places) (take at places) split.2 split.1, omega (arith, ints))

drop_first : (xs : List ℕ) (at : ℕ) → at < length xs → (more : List ℕ) × (drop at xs ≡ slice_index_or xs at 0 ∷ more)
drop_first [] at lt = absurd (omega arith)
drop_first (x ∷ xs) zero lt = (xs, refl)
drop_first (x ∷ xs) (suc at) lt = drop_first xs at (omega arith)

-- ---- edges that are tied give no negative total

module _ (s : SymState) where
  tied_walk : (es : List Edge) (node : Form) (up down : ℕ) (last : Form) (u w : ℕ) → Walks s es node up down last u w → AreTied es → node.constant < 4294967296
      → up + w + node.constant ≤ u + down + last.constant
  tied_walk [] node up down last u w x tied small =
      let same : node.constant ≡ last.constant = ap (λ (f : Form). f.constant) x.0 in let a = x.1 in let b = x.2 in omega arith
  tied_walk (edge.K n ∷ es) node up down last u w (l, leads, same, more) tied small =
      let k : Leg = record { from = node; to = word_form (Number n); up = node.constant - wrap n; down = wrap n - node.constant } in
      let to_is : l.to.constant ≡ wrap n = sym (ap (λ (j : Leg). j.to.constant) leads.1) ∙ ap (λ (f : Form). f.constant) (number_form n) in
      let up_is : l.up ≡ node.constant - wrap n = sym (ap (λ (j : Leg). j.up) leads.1) in
      let down_is : l.down ≡ wrap n - node.constant = sym (ap (λ (j : Leg). j.down) leads.1) in
      let rest = tied_walk es l.to (up + l.up) (down + l.down) last u w more tied.1 (omega arith) in
      omega arith
  tied_walk (edge.H ∷ es) node up down last u w (l, leads, same, more) tied small =
      let to_is : l.to.constant ≡ 4294967295 = sym (ap (λ (j : Leg). j.to.constant) leads) ∙ ap (λ (f : Form). f.constant) (number_form 4294967295) in
      let up_is : l.up ≡ 0 = sym (ap (λ (j : Leg). j.up) leads) in
      let down_is : l.down ≡ 0 = sym (ap (λ (j : Leg). j.down) leads) in
      let rest = tied_walk es l.to (up + l.up) (down + l.down) last u w more tied.1 (omega arith) in
      omega arith
  tied_walk (edge.F i ∷ es) node up down last u w x tied small = absurd (let e = tied.0 in cc)
  tied_walk (edge.G i ∷ es) node up down last u w x tied small = absurd (let e = tied.0 in cc)
  tied_walk (edge.X i ∷ es) node up down last u w x tied small = absurd (let e = tied.0 in cc)
  tied_walk (edge.Y i ∷ es) node up down last u w x tied small = absurd (let e = tied.0 in cc)
  tied_walk (edge.P i ∷ es) node up down last u w x tied small = absurd (let e = tied.0 in cc)
  tied_walk (edge.Q i ∷ es) node up down last u w x tied small = absurd (let e = tied.0 in cc)
  tied_walk (edge.R i ∷ es) node up down last u w x tied small = absurd (let e = tied.0 in cc)
  tied_walk (edge.S i ∷ es) node up down last u w x tied small = absurd (let e = tied.0 in cc)
  tied_walk (edge.Z e ∷ es) node up down last u w x tied small = absurd (let e = tied.0 in cc)

pub place_at : (ws : List Word) (f : Form) → has_form f (forms_of ws) ≡ true → place_of f (forms_of ws) < length ws
place_at ws f has = let p = placed ws 0 f has in let is = p.is in let lt = p.below in omega arith

module _ (s : SymState) (ws : List Word) (xs : List Link) (all : Each (IsLink (forms_of ws) s) xs) where
  abbrev fs : List Form
  fs = forms_of ws

  abbrev es : List Edge3
  es = edges_of fs xs

  -- where a walk begins, as a form
  record Begins (a : ℕ) : Type 0 where
    form : Form
    is_form : IsForm form
    has : has_form form fs ≡ true
    at : place_of form fs ≡ a

  begins : (i : ℕ) (is : List ℕ) (a b : ℕ) → IsWalk es a (i ∷ is) b → Begins a
  begins i is a b walk =
      let x = at_place s ws xs i walk.0 all in
      let ends = x.good.ends in
      record { form = x.item.leg.from; is_form = ends.from_form; has = ends.from_in; at = sym (ap (λ (e : Edge3). e.from) x.edge_is) ∙ walk.1 }

  small_form : (f : Form) → IsForm f → f.constant < 4294967296
  small_form f is = subst (λ (g : Form). g.constant < 4294967296) (sym is.is) (constant-small is.word)

  no_tied_cycle : (is : List ℕ) → IsNegativeCycle es is → AreTied (edges_at (labels_of xs) is) → ⊥
  no_tied_cycle [] (a, walk, negative) tied = omega (arith, ints)
  no_tied_cycle (i ∷ is) (a, walk, negative) tied =
      let f = begins i is a a walk in
      let r = walk_along s ws xs all (i ∷ is) a a walk f.form f.is_form f.has f.at 0 0 in
      let bound = tied_walk s (picked xs (i ∷ is)) f.form 0 0 r.last r.u r.w r.walks tied (small_form f.form f.is_form) in
      let same : f.form.constant ≡ r.last.constant = ap (λ (g : Form). g.constant) (one_node s ws f.form r.last f.is_form r.form f.has r.has (f.at ∙ sym r.at)) in
      let sum = r.sum in
      omega (arith, ints)

  free_so : (e : Edge) (more : List Edge) → is_free e ≡ true → IsFree s ws (e ∷ more)
  free_so (edge.K n) more h = absurd (cc)
  free_so edge.H more h = absurd (cc)
  free_so (edge.F i) more h = tt
  free_so (edge.G i) more h = tt
  free_so (edge.X i) more h = tt
  free_so (edge.Y i) more h = tt
  free_so (edge.P i) more h = tt
  free_so (edge.Q i) more h = tt
  free_so (edge.R i) more h = tt
  free_so (edge.S i) more h = tt
  free_so (edge.Z e) more h = tt

  from_first : (d : Decls) (g : Pure) (i : ℕ) (is : List ℕ) → IsNegativeCycle es (i ∷ is) → is_free (edge_of (labels_of xs) i) ≡ true → Leaf d rule.Chain (sequent s g) (chain_args (labels_of xs) (i ∷ is))
  from_first d g i is (a, walk, negative) free =
      let f = begins i is a a walk in
      cycle_accepted s ws xs all d g f.form (i ∷ is) f.is_form f.has (subst (λ n. IsWalk es n (i ∷ is) n) (sym f.at) walk) negative (free_so (label_at xs i) (picked xs is) free)

  -- a negative cycle that begins anew at a free edge closes every goal
  pub freed_accepted : (d : Decls) (g : Pure) (places is : List ℕ) → IsNegativeCycle es places → IsFreed (labels_of xs) places is → Leaf d rule.Chain (sequent s g) (chain_args (labels_of xs) is)
  freed_accepted d g places is cycle (IsFreed.tied tied e) = absurd (no_tied_cycle places cycle tied)
  freed_accepted d g places is cycle (IsFreed.turned at lt free e) =
      let first = drop_first places at lt in
      let begins_so : drop at places ++ take at places ≡ slice_index_or places at 0 ∷ (first.0 ++ take at places) = ap (λ l. l ++ take at places) first.1 in
      subst (λ l. Leaf d rule.Chain (sequent s g) (chain_args (labels_of xs) l)) (sym (e ∙ begins_so))
      (from_first d g (slice_index_or places at 0) (first.0 ++ take at places) (subst (IsNegativeCycle es) begins_so (turned_cycle es places at cycle)) free)

  -- ---- chains run between nodes

  between_link : (x : Link) → IsLink fs s x → is_between fs x.edge ≡ true
  between_link x good = by x.edge good.leg_is
    where
      by : (e : Edge) → EdgeLeg s x.leg.from e x.leg → is_between fs e ≡ true
      by (edge.F i) l = refl
      by (edge.G i) l = refl
      by (edge.X i) l = refl
      by (edge.Y i) l = refl
      by (edge.P i) l = refl
      by (edge.Q i) l = refl
      by (edge.R i) l = refl
      by (edge.S i) l = refl
      by (edge.K n) l = subst (λ (f : Form). has_form f fs ≡ true) (sym (ap (λ (j : Leg). j.to) l.1)) good.ends.to_in
      by (edge.Z e) l = subst (λ (f : Form). has_form f fs ≡ true) (sym (ap (λ (j : Leg). j.to) l.1)) good.ends.to_in
      by edge.H l = refl

  pub walk_between : (is : List ℕ) (a b : ℕ) → IsWalk es a is b → all_between fs (chain_args (labels_of xs) is) ≡ true
  walk_between [] a b walk = refl
  walk_between (i ∷ is) a b walk =
      let x = at_place s ws xs i walk.0 all in
      let one : is_between fs (label_at xs i) ≡ true = subst (λ (e : Edge). is_between fs e ≡ true) (sym x.label_is) (between_link x.item x.good) in
      ap (λ t. t && all_between fs (chain_args (labels_of xs) is)) one ∙ walk_between is (edge_at es i).to b walk.2

  pub freed_walk : (places is : List ℕ) → IsNegativeCycle es places → IsFreed (labels_of xs) places is → (a : ℕ) × IsWalk es a is a
  freed_walk places is (a, walk, negative) (IsFreed.tied tied e) = (a, subst (λ l. IsWalk es a l a) (sym e) walk)
  freed_walk places is cycle (IsFreed.turned at lt free e) = let t = turned_cycle es places at cycle in (t.0, subst (λ l. IsWalk es t.0 l t.0) (sym e) t.1)

  -- ---- edges lie among the nodes

  place_in : (f : Form) → has_form f fs ≡ true → place_of f fs < length ws
  place_in f has = place_at ws f has

  within : (x : Link) → IsLink fs s x → IsWithin (length ws) (2 ^ 33) (edge_between fs x.leg)
  within x good =
      let up = good.ends.up_small in
      let down = good.ends.down_small in
      record { from_in = place_in x.leg.from good.ends.from_in; to_in = place_in x.leg.to good.ends.to_in; low = omega (arith, ints); high = omega (arith, ints) }

pub all_within : (s : SymState) (ws : List Word) (xs : List Link) → Each (IsLink (forms_of ws) s) xs → All (IsWithin (length ws) (2 ^ 33)) (edges_of (forms_of ws) xs)
all_within s ws [] good k d lt = absurd (omega arith)
all_within s ws (x ∷ xs) good zero d lt = within s ws (x ∷ xs) good x good.0
all_within s ws (x ∷ xs) good (suc k) d lt = all_within s ws xs good.1 k d (omega arith)

-- ---- where the first free edge is

pub tied_next : (labels : List Edge) (places : List ℕ) (at : ℕ) → at < length places → AreTied (edges_at labels (take at places)) → is_free (edge_of labels (slice_index_or places at 0)) ≡ false
    → AreTied (edges_at labels (take (at + 1) places))
tied_next labels [] at lt tied e = absurd (omega arith)
tied_next labels (x ∷ xs) zero lt tied e = (e, tt)
tied_next labels (x ∷ xs) (suc at) lt tied e =
    subst (λ n. AreTied (edges_at labels (take n (x ∷ xs)))) (let next : suc (at + 1) ≡ suc at + 1 = omega arith in next) (tied.0, tied_next labels xs at (omega arith) tied.1 e)

-- ---- what a decision asks of its edges

pub edges_within : (s : SymState) (ws : List Word) (forms : List Form) (edges : List Edge3) (n : ℕ) (xs : List Link) → Each (IsLink (forms_of ws) s) xs → forms ≡ forms_of ws → edges ≡ edges_of forms xs → n ≡ length ws
    → All (IsWithin n (2 ^ 33)) edges
edges_within s ws forms edges n xs good are is long =
    subst (λ m. All (IsWithin m (2 ^ 33)) edges) (sym long) (subst (All (IsWithin (length ws) (2 ^ 33))) (sym (is ∙ ap (λ fs. edges_of fs xs) are)) (all_within s ws xs good))

pub goal_within : (ws : List Word) (a b : Word) (weight : ℤ) (w : ℕ) → has_form (word_form a) (forms_of ws) ≡ true → has_form (word_form b) (forms_of ws) ≡ true → (weight ≡ pos 0) ⊎ (weight ≡ negsuc 0) → 1 ≤ w
    → IsWithin (length ws) w (record { from = place_of (word_form a) (forms_of ws); to = place_of (word_form b) (forms_of ws); weight = weight })
goal_within ws a b weight w has_a has_b small le = record { from_in = place_at ws (word_form a) has_a; to_in = place_at ws (word_form b) has_b; low = low small; high = high small }
  where
    low : (weight ≡ pos 0) ⊎ (weight ≡ negsuc 0) → neg_ℤ (pos w) ≤ℤ weight
    low (inl e) = omega (arith, ints)
    low (inr e) = omega (arith, ints)

    high : (weight ≡ pos 0) ⊎ (weight ≡ negsuc 0) → weight ≤ℤ pos w
    high (inl e) = omega (arith, ints)
    high (inr e) = omega (arith, ints)

-- a closed walk whose total is at most -1 is a negative cycle
pub round_cycle : (es : List Edge3) (goal : Edge3) (is : List ℕ) → goal.from ≡ goal.to → goal.weight ≡ negsuc 0 → IsChain es goal is → IsNegativeCycle es is
round_cycle es goal is closed weight (walk, small) = (goal.from, subst (λ n. IsWalk es goal.from is n) (sym closed) walk, omega (arith, ints))

-- ---- what a decision says

pub chain_of : (es others : List Edge3) (goal : Edge3) (x : Decision) (is : List ℕ) → es ≡ others → x ≡ Decision.Chain is → OnChain (IsChain es goal) x → IsChain others goal is
chain_of es others goal x is same e h = subst (λ l. IsChain l goal is) same (subst (OnChain (IsChain es goal)) e h)

pub cycle_of : (es others : List Edge3) (x : Decision) (is : List ℕ) → es ≡ others → x ≡ Decision.Cycle is → OnCycle (IsNegativeCycle es) x → IsNegativeCycle others is
cycle_of es others x is same e h = subst (λ l. IsNegativeCycle l is) same (subst (OnCycle (IsNegativeCycle es)) e h)

pub point_of : (n : ℕ) (es others : List Edge3) (goal : Edge3) (x : Decision) (vs : List ℤ) → es ≡ others → x ≡ Decision.Point vs → OnPoint (IsPoint n es goal) x → IsPoint n others goal vs
point_of n es others goal x vs same e h = subst (λ l. IsPoint n l goal vs) same (subst (OnPoint (IsPoint n es goal)) e h)

pub args_of : (labels labels' : List Edge) (places places' : List ℕ) (r : List DArg) → labels ≡ labels' → places ≡ places' → r ≡ chain_args labels places → ◌≡◌ {A = Option (List DArg)} (Some r) (Some (chain_args labels' places'))
args_of labels labels' places places' r one two e = ap Some (e ∙ ap₂ chain_args one two)

pub freed_of : (labels labels' : List Edge) (places places' is : List ℕ) → labels ≡ labels' → places ≡ places' → IsFreed labels places is → IsFreed labels' places' is
freed_of labels labels' places places' is one two h = subst (λ l. IsFreed l places' is) one (subst (λ p. IsFreed labels p is) two h)

-- small weights are what their bits say
pub weight_back : (z : ℤ) → (z ≡ pos 0) ⊎ (z ≡ negsuc 0) → to_z w64 (of_z w64 z) ≡ z
weight_back z (inl e) = subst (λ y. to_z w64 (of_z w64 y) ≡ y) (sym e) refl
weight_back z (inr e) = subst (λ y. to_z w64 (of_z w64 y) ≡ y) (sym e) refl
