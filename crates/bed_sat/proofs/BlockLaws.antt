-- Words in a row: frames and blocks.
use Rattle.std.proofs.Common.{◌≡◌, ℕ, zero, suc, ◌+◌, ◌*◌, ◌<◌, ◌≤◌, Option, Some, List, [], ◌∷◌, ◌++◌, length, slice_index, slice_set, inl, inr, refl, sym, subst, arith}
use Rattle.std.proofs.lemmas.Bool.{cases_lt}
use Rattle.bed_lang.specs.Numbers.{wrap}
use Rattle.bed_machine.specs.Memory.{Memory, empty, word_at, put_word}
use Rattle.bed_sat.specs.Parts.{Meet, Joins, Includes}
use Rattle.bed_sat.specs.Cells.{IsCell, AreWordsAt, IsBlock}
use Rattle.bed_sat.proofs.PartLaws.{joins_comm, joins_assoc, joins_empty, to_empty, joins_left}
use Rattle.bed_sat.proofs.CellLaws.{word_includes, joins_put_word, put_cell}
use Rattle.bed_machine.proofs.WordLaws.{four_bytes}

abbrev pub word_place : ℕ → ℕ → ℕ
word_place a i = wrap (a + 4 * i)

step_place : (a i : ℕ) → wrap (wrap (a + 4) + 4 * i) ≡ wrap (a + 4 * suc i)
step_place a i = omega arith

-- word i of a block is a cell, beside the rest; and where it is changed, so is the block
pub record Slot (a : ℕ) (vs : List ℕ) (h : Memory) (i : ℕ) : Type 0 where
  pub part : Memory
  pub rest : Memory
  pub joins : Joins h part rest
  pub cell : IsCell (word_place a i) (slice_index vs i) part
  pub changes : (v : ℕ) (whole part2 : Memory) → Joins whole part2 rest → IsCell (word_place a i) v part2 → AreWordsAt a (slice_set vs i v) whole

low_place : (a v : ℕ) (h : Memory) → IsCell a v h → wrap (a + 4 * 0) ≡ a
low_place a v h c = let f = (four_bytes h a v c.holds).in_range in omega arith

pub slot : (a : ℕ) (vs : List ℕ) (h : Memory) (i : ℕ) → i < length vs → AreWordsAt a vs h → Slot a vs h i
slot a [] h i lt is = absurd (omega arith)
slot a (v ∷ vs) h zero lt is =
    let at : wrap (a + 4 * 0) ≡ a = low_place a v is.0 is.3 in
    record {
      part = is.0;
      rest = is.1;
      joins = is.2;
      cell = subst (λ b. IsCell b v is.0) (sym at) is.3;
      changes = λ u whole part2 j c. (part2, is.1, j, subst (λ b. IsCell b u part2) at c, is.4);
    }
slot a (v ∷ vs) h (suc i) lt is =
    let s = slot (wrap (a + 4)) vs is.1 i (omega arith) is.4 in
    let k = joins_assoc is.2 (joins_comm s.joins) in
    record {
      part = s.part;
      rest = k.0;
      joins = joins_comm k.1;
      cell = subst (λ b. IsCell b (slice_index vs i) s.part) (step_place a i) s.cell;
      changes = λ u whole part2 j c.
          let m = joins_assoc j (joins_comm k.2) in
          (is.0, m.0, joins_comm m.1, is.3, s.changes u m.0 part2 m.2 (subst (λ b. IsCell b u part2) (sym (step_place a i)) c));
    }

-- a store to a word of a block
pub put_slot : {m h r : Memory} (a : ℕ) (vs : List ℕ) (i v : ℕ) → Joins m h r → AreWordsAt a vs h → i < length vs → v < 4294967296 → Joins (put_word m (word_place a i) v) (put_word h (word_place a i) v) r × AreWordsAt a (slice_set vs i v) (put_word h (word_place a i) v)
put_slot {h = h} a vs i v j is lt fits =
    let s = slot a vs h i lt is in
    let old = word_includes (joins_left s.joins) _ _ s.cell.holds in
    (joins_put_word j _ _ v old, s.changes v _ _ (joins_put_word s.joins _ _ v s.cell.holds) (put_cell _ _ v s.cell fits))

-- a load of a word of a block
pub load_slot : {m h : Memory} (a : ℕ) (vs : List ℕ) (i : ℕ) → Includes m h → AreWordsAt a vs h → i < length vs → word_at m (word_place a i) ≡ Some (slice_index vs i)
load_slot {h = h} a vs i inc is lt =
    let s = slot a vs h i lt is in
    word_includes inc _ _ (word_includes (joins_left s.joins) _ _ s.cell.holds)

-- a block of two lists of words is two blocks
pub words_append : (a : ℕ) (vs us : List ℕ) (h : Memory) → a < 4294967296 → AreWordsAt a (vs ++ us) h → (front back : Memory) × Joins h front back × AreWordsAt a vs front × AreWordsAt (word_place a (length vs)) us back
words_append a [] us h fits is =
    let at : a ≡ wrap (a + 4 * 0) = omega arith in
    (empty, h, joins_comm (to_empty h), refl, subst (λ b. AreWordsAt b us h) at is)
words_append a (v ∷ vs) us h fits is =
    let t = words_append (wrap (a + 4)) vs us is.1 (omega arith) is.4 in
    let k = joins_assoc is.2 t.2 in
    (k.0, t.1, k.1, (is.0, t.0, k.2, is.3, t.3), subst (λ b. AreWordsAt b us t.1) (step_place a (length vs)) t.4)

-- and two blocks, one after the other, are one
pub append_words : (a : ℕ) (vs us : List ℕ) (h front back : Memory) → a < 4294967296 → Joins h front back → AreWordsAt a vs front → AreWordsAt (word_place a (length vs)) us back → AreWordsAt a (vs ++ us) h
append_words a [] us h front back fits j is more =
    let at : wrap (a + 4 * 0) ≡ a = omega arith in
    subst (AreWordsAt a us) (sym (joins_empty (subst (Joins h back) is (joins_comm j)))) (subst (λ b. AreWordsAt b us back) at more)
append_words a (v ∷ vs) us h front back fits j is more =
    let k = joins_assoc (joins_comm j) (joins_comm is.2) in
    (is.0, k.0, joins_comm k.1, is.3, append_words (wrap (a + 4)) vs us k.0 is.1 back (omega arith) (joins_comm k.2) is.4 (subst (λ b. AreWordsAt b us back) (sym (step_place a (length vs))) more))

-- no address is in both parts
pub meet_twice : (w l r : Option ℕ) (v u : ℕ) → Meet w l r → l ≡ Some v → r ≡ Some u → ⊥
meet_twice w l r v u m e f = grind arith

-- more words than there are addresses overlap
words_few : (a : ℕ) (vs : List ℕ) (h : Memory) → AreWordsAt a vs h → 1073741824 < length vs → ⊥
words_few a [] h is many = omega arith
words_few a (v ∷ vs) h is many =
    let s = slot (wrap (a + 4)) vs is.1 1073741823 (omega arith) is.4 in
    let first = four_bytes is.0 a v is.3.holds in
    let again = four_bytes s.part _ _ s.cell.holds in
    let le = first.in_range in
    let at : word_place (wrap (a + 4)) 1073741823 ≡ a = omega arith in
    meet_twice _ _ _ first.low again.low (is.2.at a) first.at_low (subst (λ b. is.1 b ≡ Some again.low) at ((joins_left s.joins).at _ _ again.at_low))

pub block_small : (a n : ℕ) (h : Memory) → IsBlock a n h → n ≤ 1073741824
block_small a n h is = elim (cases_lt 1073741824 n) [
  | inl many ↦ absurd (words_few a is.0 h is.2 (omega (arith, is.1)))
  | inr few ↦ few
]
