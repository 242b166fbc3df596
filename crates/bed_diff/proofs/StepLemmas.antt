-- One edge is looked at.
use Rattle.std.proofs.Common.{true, false, to_z, of_z, ◌^◌, FitsSigned, w64, ◌≡◌, ◌≢◌, ℕ, ℤ, pos, neg_ℤ, ◌+ℤ◌, ◌≤ℤ◌, ◌<ℤ◌, ◌<◌, ◌≤◌, ◌+◌, ◌*◌, ◌⊎◌, List, length, set, refl, sym, ap, inl, inr, arith, get_or-set_same, get_or-set_other, length-set}
use lib.Signed.{le_z}
use Rattle.std.proofs.lemmas.Int.{ints, to_z-of_z}
use Rattle.std.proofs.lemmas.Bool.{cases_eq}
use Rattle.bed_diff.specs.declared.constraint.Edge3.{Edge3}
use Rattle.bed_diff.specs.declared.rounds.Label.{Label}
use Rattle.bed_diff.specs.Edges.{edge_at, IsWithin}
use Rattle.bed_diff.specs.Rounds.{label_at, value_of, round_of, IsPointed, IsMetBy, Progress, IsDone, KeepsDone}

-- what the label of x is after a write at v
pub data Reads (ls ls' : List Label) (v : ℕ) (l : Label) (x : ℕ) : Type 0 where
  here : x ≡ v → label_at ls' x ≡ l → value_of ls' x ≡ l.value → round_of ls' x ≡ l.round → Reads ls ls' v l x
  there : x ≢ v → label_at ls' x ≡ label_at ls x → value_of ls' x ≡ value_of ls x → round_of ls' x ≡ round_of ls x → Reads ls ls' v l x

zero_label : Label
zero_label = record { value = pos 0; round = 0; edge = 0 }

reads_at : (ls : List Label) (v : ℕ) (l : Label) (x : ℕ) → v < length ls → (x ≡ v) ⊎ (x ≢ v) → Reads ls (set ls v l) v l x
reads_at ls v l x h (inl e) =
    let same : label_at (set ls v l) x ≡ l = rw e (get_or-set_same ls v l _ h) in
    here e same (ap (λ (m : Label). m.value) same) (ap (λ (m : Label). m.round) same)
reads_at ls v l x h (inr ne) =
    let same : label_at (set ls v l) x ≡ label_at ls x = get_or-set_other ls v x l _ ne in
    there ne same (ap (λ (m : Label). m.value) same) (ap (λ (m : Label). m.round) same)

pub reads : (ls : List Label) (v : ℕ) (l : Label) (x : ℕ) → v < length ls → Reads ls (set ls v l) v l x
reads ls v l x h = reads_at ls v l x h (cases_eq x v)

-- an edge that was met stays met, where its `to` was not written and its `from` only fell
still_met : (ls ls' : List Label) (v : ℕ) (l : Label) (e : Edge3) (r : ℕ) → l.value ≤ℤ value_of ls v → r ≤ l.round
    → Reads ls ls' v l e.from → Reads ls ls' v l e.to
    → (round_of ls e.to < r → IsMetBy ls e) → round_of ls' e.to < r → IsMetBy ls' e
still_met ls ls' v l e r fall late a (here x y z w) h lt = absurd (omega arith)
still_met ls ls' v l e r fall late (here p q s t) (there x y z w) h lt =
    let met : IsMetBy ls e = h (omega arith) in
    let at : value_of ls e.from ≡ value_of ls v = ap (value_of ls) p in
    omega (arith, ints)
still_met ls ls' v l e r fall late (there p q s t) (there x y z w) h lt =
    let met : IsMetBy ls e = h (omega arith) in omega (arith, ints)

-- a pointer of another node stays, where the value at v fell and its round rose
still_pointed : (es : List Edge3) (ls ls' : List Label) (v : ℕ) (l : Label) (x : ℕ) (m : Label)
    → l.value <ℤ value_of ls v → round_of ls v ≤ l.round → m.round ≤ l.round
    → Reads ls ls' v l (edge_at es m.edge).to → IsPointed es ls x m → IsPointed es ls' x m
still_pointed es ls ls' v l x m fall later most (here p q s t) h =
    let f = h.falls in
    let at : value_of ls (edge_at es m.edge).to ≡ value_of ls v = ap (value_of ls) p in
    let weak = f.weak in
    record {
      inside = h.inside;
      starts = h.starts;
      near = omega arith;
      falls = record { weak = omega (arith, ints); strict = λ _. omega (arith, ints) };
    }
still_pointed es ls ls' v l x m fall later most (there p q s t) h =
    let f = h.falls in
    let weak = f.weak in
    record {
      inside = h.inside;
      starts = h.starts;
      near = rw t h.near;
      falls = rw (s, t) f;
    }

-- the pointer that the step writes
new_pointed : (es : List Edge3) (ls ls' : List Label) (i k : ℕ) (l : Label)
    → i < length es → l.edge ≡ i → l.round ≡ k + 1
    → l.value ≡ (value_of ls (edge_at es i).to +ℤ (edge_at es i).weight)
    → l.value <ℤ value_of ls (edge_at es i).from
    → round_of ls (edge_at es i).to ≡ k
    → Reads ls ls' (edge_at es i).from l (edge_at es i).to
    → IsPointed es ls' (edge_at es i).from l
new_pointed es ls ls' i k l in' p r v fall old (here a b c d) =
    let at : value_of ls (edge_at es i).to ≡ value_of ls (edge_at es i).from = ap (value_of ls) a in
    record {
      inside = rw p in';
      starts = rw p refl;
      near = rw p (omega arith);
      falls = rw p (record { weak = omega (arith, ints); strict = λ _. omega (arith, ints) });
    }
new_pointed es ls ls' i k l in' p r v fall old (there a b c d) =
    record {
      inside = rw p in';
      starts = rw p refl;
      near = rw p (omega arith);
      falls = rw p (record { weak = omega (arith, ints); strict = λ h. absurd (omega arith) });
    }

-- the round before did not change the edge's `to`: it is done
pub other_done : (es : List Edge3) (k i : ℕ) (ls : List Label) → i < length es
    → round_of ls (edge_at es i).to ≢ k → Progress es k ls → IsDone k ls (edge_at es i)
other_done es k i ls in' ne p = λ h. p.before i in' (omega arith)

module _ (es : List Edge3) (k i : ℕ) (ls : List Label) (l : Label)
    (in' : i < length es) (edge : IsWithin (length ls) 8589934593 (edge_at es i)) (p : Progress es k ls)
    (old : round_of ls (edge_at es i).to ≡ k) (place : l.edge ≡ i) (round : l.round ≡ k + 1)
    (value : l.value ≡ (value_of ls (edge_at es i).to +ℤ (edge_at es i).weight))
    (fall : l.value <ℤ value_of ls (edge_at es i).from) where
  abbrev new : List Label
  new = set ls (edge_at es i).from l

  round_at : (x : ℕ) → x < length ls → Reads ls new (edge_at es i).from l x → round_of new x ≤ k + 1
  round_at x h (here a b c d) = omega arith
  round_at x h (there a b c d) = let r = p.rounds x h in omega arith

  low_at : (x : ℕ) → x < length ls → Reads ls new (edge_at es i).from l x → neg_ℤ (pos (8589934593 * round_of new x)) ≤ℤ value_of new x
  low_at x h (here a b c d) =
      let low = p.low (edge_at es i).to edge.to_in in
      let weight = edge.low in
      omega (arith, ints)
  low_at x h (there a b c d) = let low = p.low x h in omega (arith, ints)

  high_at : (x : ℕ) → x < length ls → Reads ls new (edge_at es i).from l x → value_of new x ≤ℤ pos 0
  high_at x h (here a b c d) = let high = p.high (edge_at es i).from edge.from_in in omega (arith, ints)
  high_at x h (there a b c d) = let high = p.high x h in omega (arith, ints)

  read : (x : ℕ) → Reads ls new (edge_at es i).from l x
  read x = reads ls (edge_at es i).from l x edge.from_in

  pointed_at : (x : ℕ) → x < length ls → Reads ls new (edge_at es i).from l x → 0 < round_of new x → IsPointed es new x (label_at new x)
  pointed_at x h (here a b c d) pos' =
      let made = new_pointed es ls new i k l in' place round value fall old (read (edge_at es i).to) in
      rw (b, a) made
  pointed_at x h (there a b c d) pos' =
      let had = p.pointed x h (omega arith) in
      let r = p.rounds x h in
      let s = p.rounds (edge_at es i).from edge.from_in in
      rw b (still_pointed es ls new (edge_at es i).from l x (label_at ls x) fall (omega arith) (omega arith)
      (read (edge_at es (label_at ls x).edge).to) had)

  still : (j r : ℕ) → r ≤ k + 1 → (round_of ls (edge_at es j).to < r → IsMetBy ls (edge_at es j))
      → round_of new (edge_at es j).to < r → IsMetBy new (edge_at es j)
  still j r le = still_met ls new (edge_at es i).from l (edge_at es j) r (omega (arith, ints)) (omega arith)
      (read (edge_at es j).from) (read (edge_at es j).to)

  -- the edge itself is met afterwards, if its two ends differ
  itself : Reads ls new (edge_at es i).from l (edge_at es i).from → Reads ls new (edge_at es i).from l (edge_at es i).to
      → round_of new (edge_at es i).to < k + 1 → IsMetBy new (edge_at es i)
  itself (here a b c d) (here q r s t) lt = absurd (omega arith)
  itself (here a b c d) (there q r s t) lt = omega (arith, ints)
  itself (there a b c d) y lt = absurd (a refl)

  pub relaxed : Progress es k (set ls (edge_at es i).from l)
  relaxed = record {
    rounds = λ x h. round_at x (rw length-set at h) (read x);
    low = λ x h. low_at x (rw length-set at h) (read x);
    high = λ x h. high_at x (rw length-set at h) (read x);
    pointed = λ x h. pointed_at x (rw length-set at h) (read x);
    before = λ j h. still j k (omega arith) (p.before j h);
  }

  pub relaxed_keeps : KeepsDone es k ls (set ls (edge_at es i).from l)
  relaxed_keeps j h = still j (k + 1) (omega arith)

  pub relaxed_done : IsDone k (set ls (edge_at es i).from l) (edge_at es i)
  relaxed_done = itself (read (edge_at es i).from) (read (edge_at es i).to)

-- what lies between these bounds is an `i64`
pub small_fits : (a : ℤ) → neg_ℤ (pos (2 ^ 62)) ≤ℤ a → a ≤ℤ pos (2 ^ 62) → FitsSigned w64 a
small_fits a l h = omega (arith, ints)

pub value_low : (a : ℤ) (k : ℕ) → k ≤ 65536 → neg_ℤ (pos (8589934593 * k)) ≤ℤ a → neg_ℤ (pos (2 ^ 50)) ≤ℤ a
value_low a k h l = omega (arith, ints)

-- a sum as the code computes it
pub sum_is : (a w : ℤ) → FitsSigned w64 a → FitsSigned w64 w → FitsSigned w64 (a +ℤ w)
    → to_z w64 (of_z w64 (to_z w64 (of_z w64 a) +ℤ to_z w64 (of_z w64 w))) ≡ (a +ℤ w)
sum_is a w f g h = rw (to_z-of_z w64 a f, to_z-of_z w64 w g, to_z-of_z w64 (a +ℤ w) h) refl

pub le_from : (a b : ℤ) → le_z a b ≡ true → a ≤ℤ b
le_from a b h = grind (arith, ints)

pub lt_from : (a b : ℤ) → le_z a b ≡ false → b <ℤ a
lt_from a b h = grind (arith, ints)

-- the code's test failed: the sum is below the value that it read
pub lt_read : (v r x s : ℤ) → x ≡ s → FitsSigned w64 r → v ≡ r → le_z (to_z w64 (of_z w64 r)) x ≡ false → s <ℤ v
lt_read v r x s e f g h = lt_from v s (rw (e, to_z-of_z w64 r f, sym g) at h)
