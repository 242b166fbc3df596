-- From the edges with the reverse of the goal to the edges and the goal.
use Rattle.std.proofs.Common.{to_z, of_z, w64, negsuc, ◌≡◌, ◌≢◌, ◌∙◌, ℕ, ℤ, pos, neg_ℤ, ◌-ℤ◌, ◌≤ℤ◌, ◌<◌, ◌+◌, List, [], ◌∷◌, ◌++◌, length, get_or, take, drop, map, All, sym, ap, subst, refl, arith, length-append}
use Rattle.std.proofs.lemmas.Int.{ints}
use Rattle.std.proofs.lemmas.List.{get_or_append_left, get_or_push, get_or_default, get_or-map, get_or-take, get_or-drop, length-take, length-drop, take-append-drop, drop_more}
use Rattle.std.proofs.lemmas.List.Elements.{All-head, All-tail, All-append}
use Rattle.bed_diff.specs.declared.constraint.Edge3.{Edge3}
use Rattle.bed_diff.specs.declared.rounds.Label.{Label}
use Rattle.bed_diff.specs.Edges.{edge_at, value_at, IsWalk, total, IsWithin, IsMet, Solves}
use Rattle.bed_diff.specs.Decided.{IsChain, IsNegativeCycle, IsPoint}
use Rattle.bed_diff.specs.Rounds.{value_of, round_of, Progress, Collected, AreDone, IsNegativeCircuit, AreDistinct, IsReady}
use Rattle.bed_diff.proofs.TrailLemmas.{IsWalk-append, total-append}

-- the same walk, without the edge x
record Stays (es : List Edge3) (x : Edge3) (a : ℕ) (is : List ℕ) (b : ℕ) : Type 0 where
  walk : IsWalk es a is b
  same : total (es ++ x ∷ []) is ≡ total es is

stays : (es : List Edge3) (x : Edge3) (a : ℕ) (is : List ℕ) (b : ℕ) → IsWalk (es ++ x ∷ []) a is b → All (λ p. p ≢ length es) is → Stays es x a is b
stays es x a [] b h n = record { walk = h; same = refl }
stays es x a (i ∷ is) b h n =
    let l = length-append es (x ∷ []) in
    let one : length (x ∷ []) ≡ 1 = refl in
    let other = All-head (λ p. p ≢ length es) i is n in
    let i_in : i < length (es ++ x ∷ []) = h.0 in
    let in' : i < length es = omega arith in
    let e : edge_at (es ++ x ∷ []) i ≡ edge_at es i = get_or_append_left es (x ∷ []) _ i in' in
    let to = ap (λ (y : Edge3). y.to) e in
    let P : ℕ → Type 0 = λ y. IsWalk (es ++ x ∷ []) y is b in
    let rest = stays es x (edge_at es i).to is b (subst P to h.2) (All-tail (λ p. p ≢ length es) i is n) in
    let w = ap (λ (y : Edge3). y.weight) e in
    let s = rest.same in
    record {
      walk = (in', sym (ap (λ (y : Edge3). y.from) e) ∙ h.1, rest.walk);
      same = omega (arith, ints);
    }

pub cycle_without : (es : List Edge3) (x : Edge3) (is : List ℕ) → IsNegativeCircuit (es ++ x ∷ []) is → All (λ p. p ≢ length es) is → IsNegativeCycle es is
cycle_without es x is l n =
    let s = stays es x l.node is l.node l.walk n in
    let t = s.same in
    let h = l.negative in
    (l.node, s.walk, omega (arith, ints))

-- a walk along two lists passes a node between them
record Meets (es : List Edge3) (a : ℕ) (is js : List ℕ) (b : ℕ) : Type 0 where
  node : ℕ
  first : IsWalk es a is node
  second : IsWalk es node js b

meets : (es : List Edge3) (a : ℕ) (is js : List ℕ) (b : ℕ) → IsWalk es a (is ++ js) b → Meets es a is js b
meets es a [] js b h = record { node = a; first = refl; second = h }
meets es a (i ∷ is) js b h =
    let m = meets es (edge_at es i).to is js b h.2 in
    record { node = m.node; first = (h.0, h.1, m.first); second = m.second }

-- the list at an index, cut in three
cut_at : (is : List ℕ) (p : ℕ) (x : ℕ) → p < length is → get_or is p 0 ≡ x → is ≡ take p is ++ (x ∷ drop (p + 1) is)
cut_at is p x h e = sym (take-append-drop p is) ∙ ap (λ (js : List ℕ). take p is ++ js) (drop_more is p 0 h ∙ ap (λ y. y ∷ drop (p + 1) is) e)

-- the edge stands in the walk once
module _ (is : List ℕ) (p x : ℕ) (h : p < length is) (at : get_or is p 0 ≡ x) (d : AreDistinct is) where
  before_other : All (λ y. y ≢ x) (take p is)
  before_other = λ k dflt l e.
      let len = length-take p is in
      let r : get_or is k 0 ≡ x = get_or_default is k 0 dflt (omega arith) ∙ sym (get_or-take p is k dflt (omega arith)) ∙ e in
      let same = d k p (omega arith) h (r ∙ sym at) in absurd (omega arith)

  after_other : All (λ y. y ≢ x) (drop (p + 1) is)
  after_other = λ k dflt l e.
      let len = length-drop (p + 1) is in
      let r : get_or is (p + 1 + k) 0 ≡ x = get_or_default is (p + 1 + k) 0 dflt (omega arith) ∙ sym (get_or-drop (p + 1) is k dflt) ∙ e in
      let same = d (p + 1 + k) p (omega arith) h (r ∙ sym at) in absurd (omega arith)

pub chain_without : (es : List Edge3) (goal x : Edge3) (is : List ℕ) (p : ℕ) → x.from ≡ goal.to → x.to ≡ goal.from
    → x.weight ≡ (pos 0 -ℤ pos 1 -ℤ goal.weight)
    → p < length is → get_or is p 0 ≡ length es → IsNegativeCircuit (es ++ x ∷ []) is
    → IsChain es goal (drop (p + 1) is ++ take p is)
chain_without es goal x is p from to weight h at l =
    let c = cut_at is p (length es) h at in
    let P : List ℕ → Type 0 = λ js. IsWalk (es ++ x ∷ []) l.node js l.node in
    let m = meets (es ++ x ∷ []) l.node (take p is) (length es ∷ drop (p + 1) is) l.node (subst P c l.walk) in
    let last : edge_at (es ++ x ∷ []) (length es) ≡ x = get_or_push es x _ (length es) refl in
    let f : m.node ≡ goal.to = sym m.second.1 ∙ ap (λ (y : Edge3). y.from) last ∙ from in
    let t : (edge_at (es ++ x ∷ []) (length es)).to ≡ goal.from = ap (λ (y : Edge3). y.to) last ∙ to in
    let A : ℕ → Type 0 = λ n. IsWalk (es ++ x ∷ []) n (drop (p + 1) is) l.node in
    let B : ℕ → Type 0 = λ n. IsWalk (es ++ x ∷ []) l.node (take p is) n in
    let walk = IsWalk-append (es ++ x ∷ []) goal.from l.node goal.to (drop (p + 1) is) (take p is) (subst A t m.second.2) (subst B f m.first) in
    let s = stays es x goal.from (drop (p + 1) is ++ take p is) goal.to walk
    (All-append (λ q. q ≢ length es) (drop (p + 1) is) (take p is) (after_other is p (length es) h at l.distinct) (before_other is p (length es) h at l.distinct)) in
    let whole = ap (total (es ++ x ∷ [])) c ∙ total-append (es ++ x ∷ []) (take p is) (length es ∷ drop (p + 1) is) in
    let parts = total-append (es ++ x ∷ []) (drop (p + 1) is) (take p is) in
    let w : (edge_at (es ++ x ∷ []) (length es)).weight ≡ x.weight = ap (λ (y : Edge3). y.weight) last in
    let same = s.same in
    let negative = l.negative in
    (s.walk, omega (arith, ints))

-- values that meet the edges and the reverse of the goal
pub point_without : (n : ℕ) (es : List Edge3) (goal x : Edge3) (vs : List ℤ) → x.from ≡ goal.to → x.to ≡ goal.from
    → x.weight ≡ (pos 0 -ℤ pos 1 -ℤ goal.weight) → length vs ≡ n → Solves vs (es ++ x ∷ []) → IsPoint n es goal vs
point_without n es goal x vs from to weight len s =
    let l = length-append es (x ∷ []) in
    let one : length (x ∷ []) ≡ 1 = refl in
    let last : edge_at (es ++ x ∷ []) (length es) ≡ x = get_or_push es x _ (length es) refl in
    let m = subst (IsMet vs) last (s (length es) _ (omega arith)) in
    let a : value_at vs x.from ≡ value_at vs goal.to = ap (value_at vs) from in
    let b : value_at vs x.to ≡ value_at vs goal.from = ap (value_at vs) to in
    (len, λ k d h. subst (IsMet vs) (get_or_append_left es (x ∷ []) d k h) (s k d (omega arith)), omega (arith, ints))

-- no node changed: the labels' values meet each edge
pub values_solve : (es : List Edge3) (k : ℕ) (ls : List Label) (next : List ℕ) → length next ≡ 0 → ((e : ℕ) → e < length es → ((edge_at es e).from < length ls) × ((edge_at es e).to < length ls))
    → Progress es k ls → AreDone es k ls → Collected k ls next → Solves (map (λ (l : Label). l.value) ls) es
values_solve es k ls next z ends p done none = λ j d h.
    let e = ends j h in
    let zero_label : Label = record { value = pos 0; round = 0; edge = 0 } in
    let vf : value_at (map (λ (l : Label). l.value) ls) (edge_at es j).from ≡ value_of ls (edge_at es j).from = get_or-map (λ (l : Label). l.value) ls (edge_at es j).from zero_label (pos 0) e.0 in
    let vt : value_at (map (λ (l : Label). l.value) ls) (edge_at es j).to ≡ value_of ls (edge_at es j).to = get_or-map (λ (l : Label). l.value) ls (edge_at es j).to zero_label (pos 0) e.1 in
    let most = p.rounds (edge_at es j).to e.1 in
    let ne : round_of ls (edge_at es j).to ≢ k + 1 = λ q. absurd (let c = none.all (edge_at es j).to e.1 q in let l = c.1 in omega arith) in
    let met = done j h (omega arith) in
    subst (IsMet (map (λ (l : Label). l.value) ls)) (get_or_default es j _ d h) (let m : IsMet (map (λ (l : Label). l.value) ls) (edge_at es j) = omega (arith, ints) in m)

-- the next round
pub ready_next : (es : List Edge3) (n k : ℕ) (ls : List Label) (next : List ℕ) → ((e : ℕ) → e < length es → (edge_at es e).to < length ls)
    → length ls ≡ n → k + 1 < n → Progress es k ls → AreDone es k ls → Collected k ls next → IsReady es n (k + 1) ls next
ready_next es n k ls next ends len more p done c = record {
  nodes = len;
  more = more;
  progress = record {
    rounds = λ x h. let r = p.rounds x h in omega arith;
    low = p.low;
    high = p.high;
    pointed = p.pointed;
    before = λ j h lt. done j h lt;
  };
  fresh = record {
    all = λ x h e. absurd (let r = p.rounds x h in omega arith);
    only = λ i d l. absurd (let z : length {A = ℕ} [] ≡ 0 = refl in omega arith);
  };
  nodes_in = λ i d l. (c.only i d l).0;
  covers = c.all;
}

-- the weight of the reverse of the goal, as the code computes it
pub reversed_weight : (g : ℤ) → neg_ℤ (pos 8589934592) ≤ℤ g → g ≤ℤ pos 8589934592
    → to_z w64 (of_z w64 (negsuc 0 -ℤ to_z w64 (of_z w64 g))) ≡ (pos 0 -ℤ pos 1 -ℤ g)
reversed_weight g l h = omega (arith, ints)

pub reversed_within : (n : ℕ) (g : Edge3) → IsWithin n 8589934592 g
    → IsWithin n 8589934593 (record { from = g.to; to = g.from; weight = pos 0 -ℤ pos 1 -ℤ g.weight })
reversed_within n g w =
    let l = w.low in
    let h = w.high in
    record { from_in = w.to_in; to_in = w.from_in; low = omega (arith, ints); high = omega (arith, ints) }

pub within_more : (n : ℕ) (e : Edge3) → IsWithin n 8589934592 e → IsWithin n 8589934593 e
within_more n e w =
    let l = w.low in
    let h = w.high in
    record { from_in = w.from_in; to_in = w.to_in; low = omega (arith, ints); high = omega (arith, ints) }
