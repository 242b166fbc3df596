-- Laws of bytes and words in memory, for the proofs of other crates too.
use Rattle.std.proofs.Common.{◌≡◌, ◌≢◌, ℕ, ◌+◌, ◌*◌, ◌/◌, ◌%◌, ◌<◌, ◌≤◌, ◌⊎◌, Bool, true, false, nat_eq, nat_le, if◌then◌else◌, Option, Some, None, inl, inr, refl, sym, ◌∙◌, ap, arith}
use Rattle.std.proofs.lemmas.Bool.Decides.{nat_tests}
use Rattle.bed_lang.specs.Numbers.{wrap}
use Rattle.bed_machine.specs.Memory.{Memory, IsMemory, word_of, word_at, put_byte, put_word}

pub wrap_lt : (n : ℕ) → wrap n < 4294967296
wrap_lt n = omega arith

-- The four bytes of a word

pub record FourBytes (m : Memory) (a v : ℕ) : Type 0 where
  pub low : ℕ
  pub second : ℕ
  pub third : ℕ
  pub high : ℕ
  pub at_low : m a ≡ Some low
  pub at_second : m (a + 1) ≡ Some second
  pub at_third : m (a + 2) ≡ Some third
  pub at_high : m (a + 3) ≡ Some high
  pub in_range : a ≤ 4294967292
  pub sum : v ≡ low + 256 * second + 65536 * third + 16777216 * high

pub some_same : {A : Type 0} {x y : A} → ◌≡◌ {A = Option A} (Some x) (Some y) → x ≡ y
some_same e = cc

four_of : (m : Memory) (a v : ℕ) → a ≤ 4294967292 → (b c d e : Option ℕ) → m a ≡ b → m (a + 1) ≡ c → m (a + 2) ≡ d → m (a + 3) ≡ e → word_of b c d e ≡ Some v → FourBytes m a v
four_of m a v le (Some b) (Some c) (Some d) (Some e) p q r s is =
    record { low = b; second = c; third = d; high = e; at_low = p; at_second = q; at_third = r; at_high = s; in_range = le; sum = sym (some_same is) }
four_of m a v le None c d e p q r s is = absurd (cc)
four_of m a v le (Some b) None d e p q r s is = absurd (cc)
four_of m a v le (Some b) (Some c) None e p q r s is = absurd (cc)
four_of m a v le (Some b) (Some c) (Some d) None p q r s is = absurd (cc)

four_if : (m : Memory) (a v : ℕ) (t : Bool) → nat_le a 4294967292 ≡ t → (if t then word_of (m a) (m (a + 1)) (m (a + 2)) (m (a + 3)) else None) ≡ Some v → FourBytes m a v
four_if m a v true t e = four_of m a v (grind (arith, nat_tests)) _ _ _ _ refl refl refl refl e
four_if m a v false t e = absurd (cc)

-- a word that is there has its four bytes
pub four_bytes : (m : Memory) (a v : ℕ) → word_at m a ≡ Some v → FourBytes m a v
four_bytes m a v e = four_if m a v _ refl e

-- four bytes that are there are a word
pub word_of_four : (m : Memory) (a v : ℕ) → FourBytes m a v → word_at m a ≡ Some v
word_of_four m a v f =
    let le : nat_le a 4294967292 ≡ true = grind (arith, nat_tests, f.in_range) in
    rw (le, f.at_low, f.at_second, f.at_third, f.at_high) (ap Some (sym f.sum))

-- a word is that of its four bytes
pub word_bytes : (v : ℕ) → v < 4294967296 → v ≡ v % 256 + 256 * (v / 256 % 256) + 65536 * (v / 65536 % 256) + 16777216 * (v / 16777216 % 256)
word_bytes v h = omega arith

-- a word is seen by its four bytes alone
pub word_at-same : (m n : Memory) (a : ℕ) → m a ≡ n a → m (a + 1) ≡ n (a + 1) → m (a + 2) ≡ n (a + 2) → m (a + 3) ≡ n (a + 3) → word_at m a ≡ word_at n a
word_at-same m n a p q r s = rw (p, q, r, s) refl

-- A byte that is put

pub put_byte_same : (m : Memory) (a v : ℕ) → put_byte m a v a ≡ Some (v % 256)
put_byte_same m a v = grind (arith, nat_tests)

pub put_byte_other : (m : Memory) (a v x : ℕ) → x ≢ a → put_byte m a v x ≡ m x
put_byte_other m a v x ne = grind (arith, nat_tests)

-- only the low byte counts
pub put_byte-low : (m : Memory) (a v : ℕ) → put_byte m a (v % 256) ≡ put_byte m a v
put_byte-low m a v = let e : v % 256 % 256 ≡ v % 256 = omega arith in λ i x. if nat_eq x a then Some (e i) else m x

put_gives_if : (t : Bool) (m : Option ℕ) (n b : ℕ) → (if t then Some n else m) ≡ Some b → ((t ≡ true) × (b ≡ n)) ⊎ (m ≡ Some b)
put_gives_if true m n b e = inl (refl, sym (some_same e))
put_gives_if false m n b e = inr e

-- a byte that is there afterwards is the new one, or was there
pub put_byte_gives : (m : Memory) (a v x b : ℕ) → put_byte m a v x ≡ Some b → (x ≡ a) × (b < 256) ⊎ (m x ≡ Some b)
put_byte_gives m a v x b e = elim (put_gives_if (nat_eq x a) (m x) (v % 256) b e) [
  | inl p ↦ inl (grind (arith, nat_tests), omega arith)
  | inr q ↦ inr q
]

pub word_at-put_byte : (m : Memory) (a v b : ℕ) → (a < b) ⊎ (b + 4 ≤ a) → word_at (put_byte m a v) b ≡ word_at m b
word_at-put_byte m a v b far =
    word_at-same (put_byte m a v) m b (put_byte_other m a v b (omega arith)) (put_byte_other m a v (b + 1) (omega arith))
    (put_byte_other m a v (b + 2) (omega arith)) (put_byte_other m a v (b + 3) (omega arith))

-- A word that is put

-- its four bytes, and all others
pub record PutAt (m : Memory) (a v : ℕ) : Type 0 where
  pub low : put_word m a v a ≡ Some (v % 256)
  pub second : put_word m a v (a + 1) ≡ Some (v / 256 % 256)
  pub third : put_word m a v (a + 2) ≡ Some (v / 65536 % 256)
  pub high : put_word m a v (a + 3) ≡ Some (v / 16777216 % 256)
  pub others : (x : ℕ) → (x < a) ⊎ (a + 4 ≤ x) → put_word m a v x ≡ m x

pub put_word_bytes : (m : Memory) (a v : ℕ) → PutAt m a v
put_word_bytes m a v =
    let m1 = put_byte m a v in
    let m2 = put_byte m1 (a + 1) (v / 256) in
    let m3 = put_byte m2 (a + 2) (v / 65536) in
    record {
      low = put_byte_other m3 (a + 3) _ a (omega arith) ∙ put_byte_other m2 (a + 2) _ a (omega arith) ∙ put_byte_other m1 (a + 1) _ a (omega arith) ∙ put_byte_same m a v;
      second = put_byte_other m3 (a + 3) _ (a + 1) (omega arith) ∙ put_byte_other m2 (a + 2) _ (a + 1) (omega arith) ∙ put_byte_same m1 (a + 1) (v / 256);
      third = put_byte_other m3 (a + 3) _ (a + 2) (omega arith) ∙ put_byte_same m2 (a + 2) (v / 65536);
      high = put_byte_same m3 (a + 3) (v / 16777216);
      others = λ x far. put_byte_other m3 (a + 3) _ x (omega arith) ∙ put_byte_other m2 (a + 2) _ x (omega arith) ∙ put_byte_other m1 (a + 1) _ x (omega arith) ∙ put_byte_other m a v x (omega arith);
    }

-- the word that was put is there
pub word_at-put_word : (m : Memory) (a v : ℕ) → a ≤ 4294967292 → v < 4294967296 → word_at (put_word m a v) a ≡ Some v
word_at-put_word m a v le fits =
    let p = put_word_bytes m a v in
    word_of_four (put_word m a v) a v (record { low = _; second = _; third = _; high = _; at_low = p.low; at_second = p.second; at_third = p.third; at_high = p.high; in_range = le; sum = word_bytes v fits })

-- and a word elsewhere is as it was
pub word_at-put_word_other : (m : Memory) (a v b : ℕ) → (b + 4 ≤ a) ⊎ (a + 4 ≤ b) → word_at (put_word m a v) b ≡ word_at m b
word_at-put_word_other m a v b (inl below) =
    let p = put_word_bytes m a v in
    word_at-same (put_word m a v) m b (p.others b (inl (omega arith))) (p.others (b + 1) (inl (omega arith))) (p.others (b + 2) (inl (omega arith))) (p.others (b + 3) (inl (omega arith)))
word_at-put_word_other m a v b (inr above) =
    let p = put_word_bytes m a v in
    word_at-same (put_word m a v) m b (p.others b (inr (omega arith))) (p.others (b + 1) (inr (omega arith))) (p.others (b + 2) (inr (omega arith))) (p.others (b + 3) (inr (omega arith)))

-- a byte that is there afterwards is one of the four, or was there
pub put_word_gives : (m : Memory) (a v x b : ℕ) → put_word m a v x ≡ Some b → (a ≤ x) × (x < a + 4) × (b < 256) ⊎ (m x ≡ Some b)
put_word_gives m a v x b e =
    let m1 = put_byte m a v in
    let m2 = put_byte m1 (a + 1) (v / 256) in
    let m3 = put_byte m2 (a + 2) (v / 65536) in
    elim (put_byte_gives m3 (a + 3) (v / 16777216) x b e) [
      | inl p ↦ inl (omega arith, omega arith, omega arith)
      | inr e3 ↦ elim (put_byte_gives m2 (a + 2) (v / 65536) x b e3) [
        | inl p ↦ inl (omega arith, omega arith, omega arith)
        | inr e2 ↦ elim (put_byte_gives m1 (a + 1) (v / 256) x b e2) [
          | inl p ↦ inl (omega arith, omega arith, omega arith)
          | inr e1 ↦ elim (put_byte_gives m a v x b e1) [
            | inl p ↦ inl (omega arith, omega arith, omega arith)
            | inr e0 ↦ inr e0
          ]
        ]
      ]
    ]

-- Memories of bytes

-- a word in such a memory is below 2^32
pub word_lt : (m : Memory) (a v : ℕ) → IsMemory m → word_at m a ≡ Some v → v < 4294967296
word_lt m a v h e =
    let f = four_bytes m a v e in
    let b0 = h _ _ f.at_low in
    let b1 = h _ _ f.at_second in
    let b2 = h _ _ f.at_third in
    let b3 = h _ _ f.at_high in
    omega (arith, f.sum, b0.1, b1.1, b2.1, b3.1)

pub put_byte_memory : (m : Memory) (a v old : ℕ) → IsMemory m → m a ≡ Some old → IsMemory (put_byte m a v)
put_byte_memory m a v old h is x b e = elim (put_byte_gives m a v x b e) [
  | inl p ↦ (let q = h a old is in omega (arith, p.0, q.0), p.1)
  | inr q ↦ h x b q
]

pub put_word_memory : (m : Memory) (a v old : ℕ) → IsMemory m → word_at m a ≡ Some old → IsMemory (put_word m a v)
put_word_memory m a v old h is x b e = elim (put_word_gives m a v x b e) [
  | inl p ↦ (let f = four_bytes m a old is in omega (arith, p.1, f.in_range), p.2)
  | inr q ↦ h x b q
]
