-- The walk along the labels.
use Rattle.std.proofs.Common.{◌≡◌, ◌≢◌, ◌∙◌, ℕ, ℤ, pos, ◌+ℤ◌, zero, suc, ◌<◌, ◌≤◌, ◌+◌, ◌-◌, List, [], ◌∷◌, ◌++◌, length, get_or, set, drop, sum_by, sym, ap, subst, inl, inr, refl, arith, add-one, length-append, get_or-set_same, get_or-set_other, length-set}
use Rattle.std.proofs.lemmas.Int.{ints}
use Rattle.std.proofs.lemmas.Bool.{cases_eq, cases_lt}
use Rattle.std.proofs.lemmas.List.{length-drop, drop-append-le, get_or-drop, get_or_push, get_or_append_left}
use Rattle.std.proofs.Math.Seq.{drop-append_seam}
use Rattle.std.proofs.lemmas.List.Sums.{sum_by-set, sum_by-cons}
use Rattle.bed_diff.specs.declared.constraint.Edge3.{Edge3}
use Rattle.bed_diff.specs.declared.rounds.Label.{Label}
use Rattle.bed_diff.specs.Edges.{edge_at, IsWalk, total}
use Rattle.bed_diff.specs.Rounds.{label_at, value_of, round_of, Falls, IsPointed, Leads, Trail, mark, IsNegativeCircuit}

pub IsWalk-append : (es : List Edge3) (a b c : ℕ) (is js : List ℕ) → IsWalk es a is b → IsWalk es b js c → IsWalk es a (is ++ js) c
IsWalk-append es a b c [] js h g = rw h g
IsWalk-append es a b c (i ∷ is) js h g = (h.0, h.1, IsWalk-append es (edge_at es i).to b c is js h.2 g)

pub total-append : (es : List Edge3) (is js : List ℕ) → total es (is ++ js) ≡ (total es is +ℤ total es js)
total-append es [] js = omega (arith, ints)
total-append es (i ∷ is) js = let h = total-append es is js in omega (arith, ints)

falls_then : (s t a b c : ℤ) (p q r : ℕ) → Falls t b q c r → Falls s a p b q → Falls (t +ℤ s) a p c r
falls_then s t a b c p q r f g =
    let fw = f.weak in
    let gw = g.weak in
    record {
      weak = omega (arith, ints);
      strict = λ h. elim (cases_lt p q) [
        | inl lt ↦ let fs = f.strict (omega arith) in omega (arith, ints)
        | inr ge ↦ let gs = g.strict ge in omega (arith, ints)
      ];
    }

-- one edge, as a walk
leads_one : (es : List Edge3) (ls : List Label) (y : ℕ) (l : Label) → l ≡ label_at ls y → IsPointed es ls y l → Leads es ls y (l.edge ∷ []) (edge_at es l.edge).to
leads_one es ls y l e h =
    let f = h.falls in
    let z : (weight : ℤ) → (weight +ℤ pos 0) ≡ weight = λ w. omega (arith, ints) in
    record {
      walk = (h.inside, h.starts, refl);
      falls = rw (z (edge_at es l.edge).weight, ← ap (λ (m : Label). m.value) e, ← ap (λ (m : Label). m.round) e) f;
    }

-- a walk, and one edge more
leads_more : (es : List Edge3) (ls : List Label) (y z x : ℕ) (is js : List ℕ) → Leads es ls y is z → Leads es ls z js x → Leads es ls y (is ++ js) x
leads_more es ls y z x is js a b = record {
  walk = IsWalk-append es y z x is js a.walk b.walk;
  falls = rw (total-append es is js) (falls_then (total es js) (total es is) (value_of ls x) (value_of ls z) (value_of ls y) (round_of ls x) (round_of ls z) (round_of ls y) a.falls b.falls);
}

mark_suc : (n : ℕ) → mark (n + 1) ≡ 1
mark_suc n = rw add-one refl

mark-le : (xs : List ℕ) → sum_by mark xs ≤ length xs
mark-le [] = omega arith
mark-le (zero ∷ xs) =
    let h = mark-le xs in
    let e : sum_by mark (zero ∷ xs) ≡ 0 + sum_by mark xs = sum_by-cons mark zero xs in
    let l : length (zero ∷ xs) ≡ suc (length xs) = refl in
    omega arith
mark-le (suc n ∷ xs) =
    let h = mark-le xs in
    let e : sum_by mark (suc n ∷ xs) ≡ 1 + sum_by mark xs = sum_by-cons mark (suc n) xs in
    let l : length (suc n ∷ xs) ≡ suc (length xs) = refl in
    omega arith

module _ (es : List Edge3) (ls : List Label) (start : ℕ) (steps walk : List ℕ) (at : ℕ)
    (t : Trail es ls start steps walk at) (zero' : get_or steps at 0 ≡ 0) where
  marked : sum_by mark (set steps at (length walk + 1)) ≡ length walk + 1
  marked =
      let h = sum_by-set mark steps at (length walk + 1) 0 (rw t.nodes t.inside) in
      let m = mark_suc (length walk) in
      let z : mark (get_or steps at 0) ≡ 0 = ap mark zero' in
      let c = t.counted in
      omega arith

  -- not each node is on the walk
  pub room : length walk + 1 ≤ length ls
  room =
      let h = mark-le (set steps at (length walk + 1)) in
      let m = marked in
      let n = t.nodes in
      let l = length-set steps at (length walk + 1) in
      omega arith

  module _ (l : Label) (is : l ≡ label_at ls at) (edges : (e : ℕ) → e < length es → (edge_at es e).to < length ls) (p : IsPointed es ls at l) where
    abbrev steps' : List ℕ
    steps' = set steps at (length walk + 1)

    abbrev walk' : List ℕ
    walk' = walk ++ l.edge ∷ []

    len' : length walk' ≡ length walk + 1
    len' = omega (arith, length-append walk (l.edge ∷ []))

    here : get_or steps' at 0 ≡ length walk + 1
    here = get_or-set_same steps at (length walk + 1) 0 (rw t.nodes t.inside)

    there : (y : ℕ) → y ≢ at → get_or steps' y 0 ≡ get_or steps y 0
    there y n = get_or-set_other steps at y (length walk + 1) 0 n

    short' : (y : ℕ) → y < length ls → get_or steps' y 0 ≤ length walk'
    short' y h = elim (cases_eq y at) [
      | inl e ↦ let q : get_or steps' y 0 ≡ length walk + 1 = rw e here in let n = len' in omega arith
      | inr n ↦ let q = there y n in let s = t.short y h in let n' = len' in omega arith
    ]

    cut : (s : ℕ) → s ≡ length walk + 1 → drop (s - 1) walk' ≡ l.edge ∷ []
    cut s e = let f : s - 1 ≡ length walk = omega arith in rw f (drop-append_seam walk (l.edge ∷ []))

    paths' : (y : ℕ) → y < length ls → 0 < get_or steps' y 0 → Leads es ls y (drop (get_or steps' y 0 - 1) walk') (edge_at es l.edge).to
    paths' y h some = elim (cases_eq y at) [
      | inl e ↦
          let q : get_or steps' y 0 ≡ length walk + 1 = rw e here in
          let P : ℕ → List ℕ → Type 0 = λ x is. Leads es ls x is (edge_at es l.edge).to in
          let one : Leads es ls at (l.edge ∷ []) (edge_at es l.edge).to = leads_one es ls at l is p in
          let there' : P at (drop (get_or steps' y 0 - 1) walk') = rw (cut (get_or steps' y 0) q) one in
          subst (λ (x : ℕ). P x (drop (get_or steps' y 0 - 1) walk')) (sym e) there'
      | inr n ↦
          let q = there y n in
          let s = t.short y h in
          let old = t.paths y h (omega arith) in
          rw (q, drop-append-le (get_or steps y 0 - 1) walk (l.edge ∷ []) (omega arith))
          (leads_more es ls y at (edge_at es l.edge).to (drop (get_or steps y 0 - 1) walk) (l.edge ∷ []) old (leads_one es ls at l is p))
    ]

    place_at : (j : ℕ) → j < length walk + 1 → get_or steps' (edge_at es (get_or walk' j 0)).from 0 ≡ j + 1
    place_at j h = elim (cases_lt j (length walk)) [
      | inl lt ↦
          let w : get_or walk' j 0 ≡ get_or walk j 0 = get_or_append_left walk (l.edge ∷ []) 0 j lt in
          let old = t.places j lt in
          let n : (edge_at es (get_or walk j 0)).from ≢ at = λ e. absurd (let q = ap (λ x. get_or steps x 0) e in omega arith) in
          rw w (there (edge_at es (get_or walk j 0)).from n ∙ old)
      | inr ge ↦
          let e : length walk ≡ j = omega arith in
          let w : get_or walk' j 0 ≡ l.edge = get_or_push walk l.edge 0 j e in
          rw (w, p.starts) (here ∙ ap (λ x. x + 1) e)
    ]

    pub trail_more : Trail es ls start steps' walk' (edge_at es l.edge).to
    trail_more = record {
      inside = edges l.edge p.inside;
      nodes = length-set steps at (length walk + 1) ∙ t.nodes;
      counted = marked ∙ sym len';
      near = let n = p.near in let o = t.near in let r : l.round ≡ round_of ls at = ap (λ (m : Label). m.round) is in let q = len' in omega arith;
      short = short';
      paths = paths';
      places = λ j h. place_at j (let q = len' in omega arith);
    }

-- the walk from the first visit of `at` on is closed
pub trail_loop : (es : List Edge3) (ls : List Label) (start : ℕ) (steps walk : List ℕ) (at : ℕ)
    → Trail es ls start steps walk at → 0 < get_or steps at 0 → IsNegativeCircuit es (drop (get_or steps at 0 - 1) walk)
trail_loop es ls start steps walk at t some =
    let first = get_or steps at 0 - 1 in
    let h = t.paths at t.inside some in
    let n = h.falls.strict (omega arith) in
    let len : length (drop first walk) ≡ length walk - first = length-drop first walk in
    let back : (i : ℕ) → i < length (drop first walk) → get_or steps (edge_at es (get_or (drop first walk) i 0)).from 0 ≡ first + i + 1 =
    λ i l. rw (get_or-drop first walk i 0) (t.places (first + i) (omega arith)) in
    record {
      node = at;
      walk = h.walk;
      negative = omega (arith, ints);
      distinct = λ i j a b e.
          let x = back i a in
          let y = back j b in
          let z = ap (λ p. get_or steps (edge_at es p).from 0) e in
          omega arith;
    }
