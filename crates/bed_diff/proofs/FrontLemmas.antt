-- The list of nodes that a round changes.
use Rattle.std.proofs.Common.{◌≡◌, ◌≢◌, ◌∙◌, ℕ, ◌<◌, ◌≤◌, ◌+◌, ◌-◌, List, [], ◌∷◌, ◌++◌, length, get_or, set, below_more, length-set, length-append, get_or-set_same, get_or-set_other, sym, ap, subst, inl, inr, arith}
use Rattle.std.specs.List.{Contains}
use Rattle.std.proofs.lemmas.Bool.{cases_eq, cases_lt}
use Rattle.std.proofs.lemmas.List.Elements.{Contains-push, Contains-append_left, All-push, All-weaker}
use Rattle.std.proofs.lemmas.List.{get_or_default, get_or_push, get_or_append_left}
use Rattle.bed_diff.specs.declared.constraint.Edge3.{Edge3}
use Rattle.bed_diff.specs.declared.rounds.Label.{Label}
use Rattle.bed_diff.specs.Edges.{edge_at}
use Rattle.bed_diff.specs.Rounds.{round_of, Collected, IsDone, KeepsDone, AreListed, AreDoneTo, Covers, Progress}

module _ (k : ℕ) (ls ls' : List Label) (next : List ℕ) (v : ℕ)
    (len : length ls' ≡ length ls) (in' : v < length ls)
    (others : (x : ℕ) → x ≢ v → round_of ls' x ≡ round_of ls x)
    (now : round_of ls' v ≡ k + 1) (c : Collected k ls next) where
  by_case : (x : ℕ) (P : Type 0) → (x ≡ v → P) → (x ≢ v → P) → P
  by_case x P f g = elim (cases_eq x v) [ inl e ↦ f e | inr n ↦ g n ]

  changed : (x : ℕ) → (x < length ls) × (round_of ls x ≡ k + 1) → (x < length ls') × (round_of ls' x ≡ k + 1)
  changed x h = by_case x ((x < length ls') × (round_of ls' x ≡ k + 1))
      (λ e. (omega arith, ap (round_of ls') e ∙ now)) (λ n. (omega arith, others x n ∙ h.1))

  pub collected_push : Collected k ls' (next ++ v ∷ [])
  collected_push = record {
    all = λ x h e. by_case x (Contains (next ++ v ∷ []) x)
        (λ q. rw q (Contains-push next v))
        (λ n. Contains-append_left next (v ∷ []) x (c.all x (omega arith) (sym (others x n) ∙ e)));
    only = let both : (v < length ls') × (round_of ls' v ≡ k + 1) = (omega arith, now) in
        All-push (λ (x : ℕ). (x < length ls') × (round_of ls' x ≡ k + 1)) next v (All-weaker _ _ changed next c.only) both;
  }

  pub collected_again : round_of ls v ≡ k + 1 → Collected k ls' next
  collected_again old = record {
    all = λ x h e. by_case x (Contains next x)
        (λ q. rw q (c.all v in' old))
        (λ n. c.all x (omega arith) (sym (others x n) ∙ e));
    only = All-weaker _ _ changed next c.only;
  }

-- the edges to the node from `before` on are done, where those from `after` on and the edge between are
module _ (es : List Edge3) (n i : ℕ) (last before : List ℕ) (k node after : ℕ) (ls ls' : List Label)
    (l : AreListed es n i last before) (some : 0 < after) (in' : after ≤ i) (all : i ≡ length es)
    (end : (edge_at es (after - 1)).to ≡ node)
    (keeps : KeepsDone es k ls ls') (done : IsDone k ls' (edge_at es (after - 1)))
    (old : (j : ℕ) → after ≤ j → j < length es → (edge_at es j).to ≡ node → IsDone k ls (edge_at es j)) where
  pub done_before : (j : ℕ) → get_or before (after - 1) 0 ≤ j → j < length es → (edge_at es j).to ≡ node → IsDone k ls' (edge_at es j)
  done_before j lo h e = elim (cases_lt j after) [
    | inl below ↦ elim (cases_eq j (after - 1)) [
      | inl same ↦ let P : ℕ → Type 0 = λ x. IsDone k ls' (edge_at es x) in subst P (sym same) done
      | inr other ↦ absurd (l.gaps (after - 1) j (omega arith) lo (omega arith) (e ∙ sym end))
    ]
    | inr above ↦ keeps j h (old j above h e)
  ]

-- the edges to a later node of the front are still to do; those to this one are done
module _ (es : List Edge3) (k at : ℕ) (ls ls' : List Label) (front : List ℕ) (keeps : KeepsDone es k ls ls')
    (done : AreDoneTo es k ls' (get_or front at 0))
    (old : (j : ℕ) → j < length es → ((p : ℕ) → at ≤ p → p < length front → get_or front p 0 ≡ (edge_at es j).to → ⊥) → IsDone k ls (edge_at es j)) where
  pub done_further : (j : ℕ) → j < length es → ((p : ℕ) → at + 1 ≤ p → p < length front → get_or front p 0 ≡ (edge_at es j).to → ⊥) → IsDone k ls' (edge_at es j)
  done_further j h later = elim (cases_eq (edge_at es j).to (get_or front at 0)) [
    | inl same ↦ done j h same
    | inr other ↦ keeps j h (old j h (λ p lo hi e. elim (cases_eq p at) [
      | inl here ↦ other (sym e ∙ ap (λ x. get_or front x 0) here)
      | inr there ↦ later p (omega arith) hi e
    ]))
  ]

-- at the start of a round: an edge to a node that the front has not is done
pub done_first : (es : List Edge3) (k : ℕ) (ls : List Label) (front : List ℕ) → ((e : ℕ) → e < length es → (edge_at es e).to < length ls)
    → Progress es k ls → Covers k ls front
    → (j : ℕ) → j < length es → ((p : ℕ) → 0 ≤ p → p < length front → get_or front p 0 ≡ (edge_at es j).to → ⊥) → IsDone k ls (edge_at es j)
done_first es k ls front ends p covers j h none lt = elim (cases_eq (round_of ls (edge_at es j).to) k) [
  | inl e ↦
      let c = covers (edge_at es j).to (ends j h) e in
      absurd (none c.0 (omega arith) c.1 (get_or_default front c.0 0 (edge_at es j).to c.1 ∙ c.2))
  | inr n ↦ p.before j h (omega arith)
]

-- one edge more is listed
module _ (es : List Edge3) (n i : ℕ) (last before : List ℕ) (l : AreListed es n i last before)
    (to_in : (edge_at es i).to < n) where
  abbrev last' : List ℕ
  last' = set last (edge_at es i).to (i + 1)

  abbrev before' : List ℕ
  before' = before ++ get_or last (edge_at es i).to 0 ∷ []

  last_here : get_or last' (edge_at es i).to 0 ≡ i + 1
  last_here = get_or-set_same last (edge_at es i).to (i + 1) 0 (rw l.nodes to_in)

  last_there : (x : ℕ) → x ≢ (edge_at es i).to → get_or last' x 0 ≡ get_or last x 0
  last_there x n' = get_or-set_other last (edge_at es i).to x (i + 1) 0 n'

  before_new : get_or before' i 0 ≡ get_or last (edge_at es i).to 0
  before_new = get_or_push before (get_or last (edge_at es i).to 0) 0 i l.places

  before_old : (j : ℕ) → j < i → get_or before' j 0 ≡ get_or before j 0
  before_old j h = get_or_append_left before (get_or last (edge_at es i).to 0 ∷ []) 0 j (rw l.places h)

  low' : (x : ℕ) → x < n → get_or last' x 0 ≤ i + 1
  low' x h = elim (cases_eq x (edge_at es i).to) [
    | inl e ↦ let q : get_or last' x 0 ≡ i + 1 = rw e last_here in omega arith
    | inr o ↦ let q = last_there x o in let w = l.low x h in omega arith
  ]

  begins' : (x : ℕ) → x < n → 0 < get_or last' x 0 → (edge_at es (get_or last' x 0 - 1)).to ≡ x
  begins' x h some = elim (cases_eq x (edge_at es i).to) [
    | inl e ↦
        let q : get_or last' x 0 ≡ i + 1 = rw e last_here in
        let r : get_or last' x 0 - 1 ≡ i = omega arith in
        ap (λ p. (edge_at es p).to) r ∙ sym e
    | inr o ↦ let q = last_there x o in
        ap (λ p. (edge_at es (p - 1)).to) q ∙ l.begins x h (omega arith)
  ]

  ends_old : (j : ℕ) → j < i → j < get_or last' (edge_at es j).to 0
  ends_old j h = elim (cases_eq (edge_at es j).to (edge_at es i).to) [
    | inl e ↦ let q : get_or last' (edge_at es j).to 0 ≡ i + 1 = rw e last_here in omega arith
    | inr o ↦ let q = last_there (edge_at es j).to o in let w = l.ends j h in omega arith
  ]

  pub listed_more : AreListed es n (i + 1) (set last (edge_at es i).to (i + 1)) (before ++ get_or last (edge_at es i).to 0 ∷ [])
  listed_more = record {
    nodes = length-set last (edge_at es i).to (i + 1) ∙ l.nodes;
    places = omega (arith, length-append before (get_or last (edge_at es i).to 0 ∷ []), l.places);
    low = low';
    begins = begins';
    goes = below_more (λ j. 0 < get_or before' j 0 → (edge_at es (get_or before' j 0 - 1)).to ≡ (edge_at es j).to) i
        (λ j h some. let q = before_old j h in ap (λ p. (edge_at es (p - 1)).to) q ∙ l.goes j h (omega arith))
        (λ some. ap (λ p. (edge_at es (p - 1)).to) before_new ∙ l.begins (edge_at es i).to to_in (let q = before_new in omega arith));
    ends = below_more (λ j. j < get_or last' (edge_at es j).to 0) i ends_old (let q = last_here in omega arith);
    falls = below_more (λ j. get_or before' j 0 ≤ j) i
        (λ j h. let q = before_old j h in let w = l.falls j h in omega arith)
        (let q = before_new in let w = l.low (edge_at es i).to to_in in omega arith);
    gaps = λ j f h. below_more (λ (m : ℕ). get_or before' m 0 ≤ f → f < m → (edge_at es f).to ≡ (edge_at es m).to → ⊥) i
        (λ m h' lo. let q = before_old m h' in l.gaps m f h' (omega arith))
        (λ lo lt e. let q = before_new in let w = l.ends f lt in
        let r : get_or last (edge_at es f).to 0 ≡ get_or last (edge_at es i).to 0 = ap (λ x. get_or last x 0) e in absurd (omega arith)) j h;
  }
