-- Parts of memory in another shape: a block as two, two blocks as one, a cell as four bytes, four bytes as a cell.
use Rattle.std.proofs.Common.{◌≡◌, ◌≢◌, ℕ, ◌+◌, ◌-◌, ◌*◌, ◌<◌, ◌≤◌, Bool, true, false, nat_eq, if◌then◌else◌, Option, Some, None, List, [], ◌∷◌, ◌++◌, length, take, drop, inl, inr, refl, sym, ◌∙◌, ap, subst, arith, take-append-drop, length-drop, length-take-le, length-append}
use Rattle.std.proofs.lemmas.Bool.{eqb-true, eqb-false, eq-eqb, ne_eqb}
use Rattle.bed_lang.specs.Numbers.{wrap}
use Rattle.bed_machine.specs.Memory.{Memory, empty}
use Rattle.bed_machine.proofs.WordLaws.{four_bytes, word_of_four}
use Rattle.bed_sat.specs.Parts.{Meet, Joins}
use Rattle.bed_sat.specs.Cells.{IsCell, IsByte, AreWordsAt, IsBlock}
use Rattle.bed_sat.proofs.PartLaws.{joins_empty, to_empty, joins_left, joins_right, in_a_part}
use Rattle.bed_sat.proofs.BlockLaws.{words_append, append_words}

-- ---- blocks

-- the first m words of a block, and the others
pub block_divides : (a n m : ℕ) (h : Memory) → a < 4294967296 → m ≤ n → IsBlock a n h
    → (front back : Memory) × Joins h front back × IsBlock a m front × IsBlock (wrap (a + 4 * m)) (n - m) back
block_divides a n m h fits le is =
    let few : length (take m is.0) ≡ m = length-take-le m is.0 (omega (arith, is.1)) in
    let t = words_append a (take m is.0) (drop m is.0) h fits (subst (λ vs. AreWordsAt a vs h) (sym (take-append-drop m is.0)) is.2) in
    (t.0, t.1, t.2, (take m is.0, few, t.3), (drop m is.0, length-drop m is.0 ∙ ap (λ k. k - m) is.1, subst (λ k. AreWordsAt (wrap (a + 4 * k)) (drop m is.0) t.1) few t.4))

-- two blocks, one right after the other
pub blocks_merge : (a n m : ℕ) (h front back : Memory) → a < 4294967296 → Joins h front back → IsBlock a n front → IsBlock (wrap (a + 4 * n)) m back
    → IsBlock a (n + m) h
blocks_merge a n m h front back fits j is more = (
  is.0 ++ more.0,
  (let l = length-append is.0 more.0 in omega (arith, l, is.1, more.1)),
  append_words a is.0 more.0 h front back fits j is.2 (subst (λ k. AreWordsAt (wrap (a + 4 * k)) more.0 back) (sym is.1) more.2),
)

-- a block of one word is a cell
pub block_is_cell : (a : ℕ) (h : Memory) → IsBlock a 1 h → (v : ℕ) × IsCell a v h
block_is_cell a h is = by is.0 is.1 is.2
  where
    by : (vs : List ℕ) → length vs ≡ 1 → AreWordsAt a vs h → (v : ℕ) × IsCell a v h
    by [] l are = absurd (omega arith)
    by (v ∷ []) l are = (v, subst (IsCell a v) (sym (joins_empty (subst (Joins h are.0) are.4 are.2))) are.3)
    by (v ∷ u ∷ vs) l are = absurd (omega arith)

pub cell_is_block : (a v : ℕ) (h : Memory) → IsCell a v h → IsBlock a 1 h
cell_is_block a v h c = (v ∷ [], refl, (h, empty, to_empty h, c, refl))

-- a block of no words is nothing
pub block_is_empty : (a : ℕ) (h : Memory) → IsBlock a 0 h → h ≡ empty
block_is_empty a h is = by is.0 is.1 is.2
  where
    by : (vs : List ℕ) → length vs ≡ 0 → AreWordsAt a vs h → h ≡ empty
    by [] l are = are
    by (v ∷ vs) l are = absurd (omega arith)

-- ---- bytes

-- the memory of one byte, and a memory without one
abbrev pub one_byte : ℕ → ℕ → Memory
one_byte a b x = if nat_eq x a then Some b else None

abbrev less : Memory → ℕ → Memory
less m a x = if nat_eq x a then None else m x

byte_meets : (m : Memory) (a b x : ℕ) (t : Bool) → nat_eq x a ≡ t → m a ≡ Some b → Meet (m x) (if t then Some b else None) (if t then None else m x)
byte_meets m a b x true e is = inr (refl, ap m (eqb-true x a e) ∙ is)
byte_meets m a b x false e is = inl (refl, refl)

byte_out : (m : Memory) (a b : ℕ) → m a ≡ Some b → Joins m (one_byte a b) (less m a)
byte_out m a b is = record { at = λ x. byte_meets m a b x (nat_eq x a) refl is }

one_only : (a b x v : ℕ) (t : Bool) → nat_eq x a ≡ t → (if t then Some b else None) ≡ Some v → (x ≡ a) × (v ≡ b)
one_only a b x v true e is = (eqb-true x a e, cc)
one_only a b x v false e is = absurd cc

pub one_is_byte : (a b : ℕ) → b < 256 → IsByte a b (one_byte a b)
one_is_byte a b small = record {
  holds = ap (λ (t : Bool). if t then Some b else None) (eq-eqb a a refl);
  only = λ x v e. let o = one_only a b x v (nat_eq x a) refl e in (o.0, omega (arith, o.1));
}

less_other : (m : Memory) (a x : ℕ) → x ≢ a → less m a x ≡ m x
less_other m a x ne = ap (λ (t : Bool). if t then None else m x) (ne_eqb x a ne)

less_gives : (m : Memory) (a x v : ℕ) → less m a x ≡ Some v → (x ≢ a) × (m x ≡ Some v)
less_gives m a x v e = by (nat_eq x a) refl e
  where
    by : (t : Bool) → nat_eq x a ≡ t → (if t then None else m x) ≡ Some v → (x ≢ a) × (m x ≡ Some v)
    by true q e = absurd cc
    by false q e = (eqb-false x a q, e)

nothing_there : (o : Option ℕ) → ((v : ℕ) → o ≡ Some v → ⊥) → o ≡ None
nothing_there None no_value = refl
nothing_there (Some v) no_value = absurd (no_value v refl)

-- the four bytes of a cell, each with its part
pub record CellBytes (a v : ℕ) (h : Memory) : Type 0 where
  pub low : ℕ
  pub second : ℕ
  pub third : ℕ
  pub high : ℕ
  pub sum : v ≡ low + 256 * second + 65536 * third + 16777216 * high
  pub in_range : a ≤ 4294967292
  pub small_low : low < 256
  pub small_second : second < 256
  pub small_third : third < 256
  pub small_high : high < 256
  pub first_part : Memory
  pub first_rest : Memory
  pub second_part : Memory
  pub second_rest : Memory
  pub third_part : Memory
  pub last_part : Memory
  pub first_joins : Joins h first_part first_rest
  pub second_joins : Joins first_rest second_part second_rest
  pub third_joins : Joins second_rest third_part last_part
  pub is_low : IsByte a low first_part
  pub is_second : IsByte (a + 1) second second_part
  pub is_third : IsByte (a + 2) third third_part
  pub is_high : IsByte (a + 3) high last_part

pub cell_bytes : (a v : ℕ) (h : Memory) → IsCell a v h → CellBytes a v h
cell_bytes a v h c =
    let f = four_bytes h a v c.holds in
    let r0 = less h a in
    let r1 = less r0 (a + 1) in
    let r2 = less r1 (a + 2) in
    let r3 = less r2 (a + 3) in
    let e1 : r0 (a + 1) ≡ Some f.second = less_other h a (a + 1) (omega arith) ∙ f.at_second in
    let e2 : r1 (a + 2) ≡ Some f.third = less_other r0 (a + 1) (a + 2) (omega arith) ∙ less_other h a (a + 2) (omega arith) ∙ f.at_third in
    let e3 : r2 (a + 3) ≡ Some f.high = less_other r1 (a + 2) (a + 3) (omega arith) ∙ less_other r0 (a + 1) (a + 3) (omega arith) ∙ less_other h a (a + 3) (omega arith) ∙ f.at_high in
    let none : (x : ℕ) → r3 x ≡ None = λ x. nothing_there (r3 x) (λ u e.
    let g3 = less_gives r2 (a + 3) x u e in
    let g2 = less_gives r1 (a + 2) x u g3.1 in
    let g1 = less_gives r0 (a + 1) x u g2.1 in
    let g0 = less_gives h a x u g1.1 in
    let o = c.only x u g0.1 in
    omega (arith, g3.0, g2.0, g1.0, g0.0, o.0, o.1)) in
    let last : r2 ≡ one_byte (a + 3) f.high = joins_empty (subst (Joins r2 (one_byte (a + 3) f.high)) (λ i x. none x i) (byte_out r2 (a + 3) f.high e3)) in
    record {
      low = f.low;
      second = f.second;
      third = f.third;
      high = f.high;
      sum = f.sum;
      in_range = f.in_range;
      small_low = (c.only _ _ f.at_low).2;
      small_second = (c.only _ _ f.at_second).2;
      small_third = (c.only _ _ f.at_third).2;
      small_high = (c.only _ _ f.at_high).2;
      first_part = one_byte a f.low;
      first_rest = r0;
      second_part = one_byte (a + 1) f.second;
      second_rest = r1;
      third_part = one_byte (a + 2) f.third;
      last_part = r2;
      first_joins = byte_out h a f.low f.at_low;
      second_joins = byte_out r0 (a + 1) f.second e1;
      third_joins = byte_out r1 (a + 2) f.third e2;
      is_low = one_is_byte a f.low (c.only _ _ f.at_low).2;
      is_second = one_is_byte (a + 1) f.second (c.only _ _ f.at_second).2;
      is_third = one_is_byte (a + 2) f.third (c.only _ _ f.at_third).2;
      is_high = subst (IsByte (a + 3) f.high) (sym last) (one_is_byte (a + 3) f.high (c.only _ _ f.at_high).2);
    }

-- four bytes, one right after the other, are a cell
pub bytes_are_cell : (a b0 b1 b2 b3 : ℕ) (h h0 r0 h1 r1 h2 h3 : Memory) → a ≤ 4294967292
    → Joins h h0 r0 → Joins r0 h1 r1 → Joins r1 h2 h3
    → IsByte a b0 h0 → IsByte (a + 1) b1 h1 → IsByte (a + 2) b2 h2 → IsByte (a + 3) b3 h3
    → IsCell a (b0 + 256 * b1 + 65536 * b2 + 16777216 * b3) h
bytes_are_cell a b0 b1 b2 b3 h h0 r0 h1 r1 h2 h3 le j0 j1 j2 i0 i1 i2 i3 = record {
  holds = word_of_four h a _ (record {
    low = b0;
    second = b1;
    third = b2;
    high = b3;
    at_low = (joins_left j0).at _ _ i0.holds;
    at_second = (joins_right j0).at _ _ ((joins_left j1).at _ _ i1.holds);
    at_third = (joins_right j0).at _ _ ((joins_right j1).at _ _ ((joins_left j2).at _ _ i2.holds));
    at_high = (joins_right j0).at _ _ ((joins_right j1).at _ _ ((joins_right j2).at _ _ i3.holds));
    in_range = le;
    sum = refl;
  });
  only = λ x v e. elim (in_a_part j0 x v e) [
    | inl p ↦ (let o = i0.only x v p in (omega (arith, o.0), omega (arith, o.0), o.1))
    | inr p ↦ elim (in_a_part j1 x v p) [
      | inl q ↦ (let o = i1.only x v q in (omega (arith, o.0), omega (arith, o.0), o.1))
      | inr q ↦ elim (in_a_part j2 x v q) [
        | inl s ↦ (let o = i2.only x v s in (omega (arith, o.0), omega (arith, o.0), o.1))
        | inr s ↦ (let o = i3.only x v s in (omega (arith, o.0), omega (arith, o.0), o.1))
      ]
    ]
  ];
}
