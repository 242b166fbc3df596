-- Words in memory: loads, stores and cells.
use Rattle.std.proofs.Common.{◌≡◌, ℕ, ◌+◌, ◌/◌, ◌<◌, Bool, true, false, if◌then◌else◌, Option, Some, inl, inr, refl, ◌∙◌, arith}
use Rattle.std.proofs.lemmas.Bool.Decides.{nat_tests}
use Rattle.bed_machine.specs.Memory.{Memory, word_at, put_byte, put_word}
use Rattle.bed_machine.proofs.WordLaws.{four_bytes, word_of_four, put_byte_other, word_at-put_word, put_word_gives}
use Rattle.bed_sat.specs.Parts.{Meet, Joins, Includes}
use Rattle.bed_sat.specs.Cells.{IsCell}

-- a load of a part is a load of the whole
pub word_includes : {m h : Memory} → Includes m h → (a v : ℕ) → word_at h a ≡ Some v → word_at m a ≡ Some v
word_includes {m = m} {h = h} i a v e =
    let f = four_bytes h a v e in
    word_of_four m a v (record { low = f.low; second = f.second; third = f.third; high = f.high; at_low = i.at _ _ f.at_low; at_second = i.at _ _ f.at_second; at_third = i.at _ _ f.at_third; at_high = i.at _ _ f.at_high; in_range = f.in_range; sum = f.sum })

-- stores
meet_put : (m h r : Option ℕ) (t : Bool) (old new : ℕ) → Meet m h r → (t ≡ true → h ≡ Some old) → Meet (if t then Some new else m) (if t then Some new else h) r
meet_put m h r true old new j is = let e = is refl in grind arith
meet_put m h r false old new j is = j

pub joins_put_byte : {m h r : Memory} → Joins m h r → (a old v : ℕ) → h a ≡ Some old → Joins (put_byte m a v) (put_byte h a v) r
joins_put_byte {h = h} j a old v is = record { at = λ x. meet_put _ _ _ _ old _ (j.at x) (λ t. let e : x ≡ a = grind (arith, nat_tests) in rw e is) }

pub joins_put_word : {m h r : Memory} → Joins m h r → (a old v : ℕ) → word_at h a ≡ Some old → Joins (put_word m a v) (put_word h a v) r
joins_put_word {h = h} j a old v is =
    let f = four_bytes h a old is in
    let h1 = put_byte h a v in
    let h2 = put_byte h1 (a + 1) (v / 256) in
    let h3 = put_byte h2 (a + 2) (v / 65536) in
    let e1 : h1 (a + 1) ≡ Some f.second = put_byte_other h a v (a + 1) (omega arith) ∙ f.at_second in
    let e2 : h2 (a + 2) ≡ Some f.third = put_byte_other h1 (a + 1) _ (a + 2) (omega arith) ∙ put_byte_other h a v (a + 2) (omega arith) ∙ f.at_third in
    let e3 : h3 (a + 3) ≡ Some f.high = put_byte_other h2 (a + 2) _ (a + 3) (omega arith) ∙ put_byte_other h1 (a + 1) _ (a + 3) (omega arith) ∙ put_byte_other h a v (a + 3) (omega arith) ∙ f.at_high in
    joins_put_byte (joins_put_byte (joins_put_byte (joins_put_byte j a f.low v f.at_low) (a + 1) f.second _ e1) (a + 2) f.third _ e2) (a + 3) f.high _ e3

pub put_cell : {h : Memory} (a old v : ℕ) → IsCell a old h → v < 4294967296 → IsCell a v (put_word h a v)
put_cell {h = h} a old v c fits = record {
  holds = word_at-put_word h a v (four_bytes h a old c.holds).in_range fits;
  only = λ x b e. elim (put_word_gives h a v x b e) [ inl p ↦ p | inr q ↦ c.only x b q ];
}
