-- Locals in the slots of a frame, and the heap beside it: what instructions read and write of them.
use Rattle.std.proofs.Common.{◌≡◌, ◌≢◌, ℕ, zero, suc, ◌+◌, ◌*◌, ◌%◌, ◌<◌, ◌≤◌, Bool, true, false, Some, Ok, List, [], ◌∷◌, ◌++◌, length, slice_index, slice_set, bytes_eq, Contains, inl, inr, ◌⊎◌, refl, sym, ◌∙◌, ap, ap₂, subst, arith, length-append, if◌then◌else◌}
use Rattle.std.proofs.lemmas.Bool.{cases_Bool}
use Rattle.bed_lang.specs.Numbers.{wrap}
use Rattle.bed_machine.specs.Memory.{Memory, word_at, put_byte, put_word}
use Rattle.bed_machine.proofs.WordLaws.{four_bytes, word_lt, put_byte_memory, put_word_memory}
use Rattle.bed_lang.specs.declared.word.Name.{Name}
use Rattle.bed_lang.specs.declared.module.Operand.{Operand}
use Rattle.bed_lang.specs.declared.module.Operand.TheVariants as operand
use Rattle.bed_lang.specs.Values.{Values, Variable, Named, Old, Answer, Fresh, Hole, set_word}
use Rattle.bed_table.specs.Words.{number_of, slot as slot_of}
use Rattle.bed_sat.specs.Parts.{Joins, Includes}
use Rattle.bed_sat.specs.Cells.{AreWordsAt}
use Rattle.bed_sat.specs.Assertions.{World}
use Rattle.bed_sat.specs.Valid.{operand_value, set_local}
use Rattle.bed_sat.proofs.PartLaws.{joins_comm, joins_left, joins_right, includes_trans}
use Rattle.bed_sat.proofs.CellLaws.{word_includes, joins_put_byte, joins_put_word}
use Rattle.bed_sat.proofs.BlockLaws.{word_place, slot, put_slot, load_slot}
use Rattle.bed_sat.proofs.FrameLaws.{bytes_eq_same, bytes_eq_is, set_same, set_other, cell_small}
use Rattle.bed_il.specs.declared.blocks.Scratch.{Scratch}
use Rattle.bed_il.specs.declared.blocks.Scratch.TheVariants.{First, Second}
use Rattle.bed_il.specs.declared.blocks.Value.{Value}
use Rattle.bed_il.specs.declared.blocks.Value.TheVariants.{Number, Slot, Function}
use Rattle.bed_il.specs.declared.blocks.Inst.TheVariants.{Fetch}
use Rattle.bed_il.specs.BlockMachine.{BlockState, set_scratch, effect}
use Rattle.bed_laws.specs.Activations.{FunctionSite, Activation, IsAmong, AreDistinct, AgreeButAt, words_of, IsMemoryOf, IsStateOf}
use Rattle.bed_laws.specs.StatementBlocks.{value_of, IsKnown}

-- a name is the one with this number, from 0
abbrev IsLocal : List Name → List ℕ → ℕ → Type 0
IsLocal [] x i = ⊥
IsLocal (y ∷ ys) x zero = y.bytes ≡ x
IsLocal (y ∷ ys) x (suc i) = IsLocal ys x i

other_among : (y : Name) (ys : List Name) (x : List ℕ) → (y.bytes ≡ x → ⊥) → IsAmong (y ∷ ys) x → IsAmong ys x
other_among y ys x ne (inl e) = absurd (ne e)
other_among y ys x ne (inr is) = is

false_not : (t : Bool) → t ≡ false → t ≡ true → ⊥
false_not t f e = cc

-- a name among others is the one with the number of its slot
number_local : (ls : List Name) (x : List ℕ) → IsAmong ls x → IsLocal ls x (number_of ls x)
number_local [] x is = absurd is
number_local (y ∷ ls) x is = elim (cases_Bool (bytes_eq y.bytes x)) [
  | inl e ↦ subst (IsLocal (y ∷ ls) x) (sym (ap (λ t. if t then 0 else 1 + number_of ls x) e)) (bytes_eq_is y.bytes x e)
  | inr e ↦
      let ne : y.bytes ≡ x → ⊥ = (λ same. false_not _ e (subst (λ z. bytes_eq y.bytes z ≡ true) same (bytes_eq_same y.bytes))) in
      let more : suc (number_of ls x) ≡ 1 + number_of ls x = omega arith in
      subst (IsLocal (y ∷ ls) x) (more ∙ sym (ap (λ t. if t then 0 else 1 + number_of ls x) e)) (number_local ls x (other_among y ls x ne is))
]

local_among : (ls : List Name) (x : List ℕ) (i : ℕ) → IsLocal ls x i → IsAmong ls x
local_among [] x i is = absurd is
local_among (y ∷ ls) x zero is = inl is
local_among (y ∷ ls) x (suc i) is = inr (local_among ls x i is)

pub words_long : (ν : Values) (ls : List Name) → length (words_of ν ls) ≡ length ls
words_long ν [] = refl
words_long ν (x ∷ ls) = ap suc (words_long ν ls)

local_lt : (ls : List Name) (x : List ℕ) (i : ℕ) → IsLocal ls x i → i < length ls
local_lt [] x i is = absurd is
local_lt (y ∷ ls) x zero is = omega arith
local_lt (y ∷ ls) x (suc i) is = let r = local_lt ls x i is in omega arith

local_word : (ν : Values) (ls : List Name) (x : List ℕ) (i : ℕ) (area : List ℕ) → IsLocal ls x i → slice_index (words_of ν ls ++ area) i ≡ ν.words (Named x)
local_word ν [] x i area is = absurd is
local_word ν (y ∷ ls) x zero area is = ap (λ z. ν.words (Named z)) is
local_word ν (y ∷ ls) x (suc i) area is = local_word ν ls x i area is

words_same : (ν : Values) (ls : List Name) (x : List ℕ) (v : ℕ) → (IsAmong ls x → ⊥) → words_of (set_word ν (Named x) v) ls ≡ words_of ν ls
words_same ν [] x v out = refl
words_same ν (y ∷ ls) x v out = ap₂ (λ a b. a ∷ b) (set_other ν x y.bytes v (λ e. out (inl e))) (words_same ν ls x v (λ is. out (inr is)))

local_set : (ν : Values) (ls : List Name) (x : List ℕ) (i v : ℕ) (area : List ℕ) → AreDistinct ls → IsLocal ls x i
    → words_of (set_word ν (Named x) v) ls ++ area ≡ slice_set (words_of ν ls ++ area) i v
local_set ν [] x i v area d is = absurd is
local_set ν (y ∷ ls) x zero v area d is =
    let out : IsAmong ls x → ⊥ = subst (λ z. IsAmong ls z → ⊥) is d.0 in
    ap₂ (λ a b. a ∷ (b ++ area)) (ap (λ z. (set_word ν (Named x) v).words (Named z)) is ∙ set_same ν x v) (words_same ν ls x v out)
local_set ν (y ∷ ls) x (suc i) v area d is =
    let ne : y.bytes ≢ x = λ e. d.0 (subst (IsAmong ls) (sym e) (local_among ls x i is)) in
    ap₂ (λ a b. a ∷ b) (set_other ν x y.bytes v ne) (local_set ν ls x i v area d.1 is)

-- an operand's word is a word
pub operand_lt : (labels : List ℕ → ℕ) (ν : Values) (o : Operand) → operand_value labels ν o < 4294967296
operand_lt labels ν (operand.Number n) = omega arith
operand_lt labels ν (operand.Local x) = omega arith
operand_lt labels ν (operand.Label f) = omega arith

-- a memory of an activation contains the activation's rest
pub memory_rest : {c : FunctionSite} {a : Activation} {ν : Values} {h m : Memory} → IsMemoryOf c a ν h m → Includes m a.rest
memory_rest m = includes_trans (joins_right m.joins) (joins_right m.parts)

module _ (w : World) (c : FunctionSite) (places : ℕ → ℕ) (a : Activation) where
  -- the number of a local
  abbrev pub number : List ℕ → ℕ
  number x = number_of c.site.locals x

  -- the address of a local's slot
  pub slot_place : (s : BlockState) (x : List ℕ) → s.sp ≡ a.sp → wrap (s.sp + slot_of c.site.locals x) ≡ word_place a.sp (suc (number x))
  slot_place s x e = omega arith

  slot_lt : (ν : Values) (x : List ℕ) (area : List ℕ) → IsAmong c.site.locals x → suc (number x) < length (a.back ∷ (words_of ν c.site.locals ++ area))
  slot_lt ν x area is =
      let r = local_lt c.site.locals x (number x) (number_local c.site.locals x is) in
      let e = words_long ν c.site.locals in
      omega (arith, length-append (words_of ν c.site.locals) area)

  -- a local is read
  pub read_local : (ν : Values) (h : Memory) (s : BlockState) (x : List ℕ) → IsStateOf c a ν h s → IsAmong c.site.locals x
      → (word_at s.memory (wrap (s.sp + slot_of c.site.locals x)) ≡ Some (ν.words (Named x))) × (ν.words (Named x) < 4294967296)
  read_local ν h s x st is =
      let m = st.memory in
      let ws : List ℕ = a.back ∷ (words_of ν c.site.locals ++ m.area) in
      let lt = slot_lt ν x m.area is in
      let val = local_word ν c.site.locals x (number x) m.area (number_local c.site.locals x is) in
      let cell = slot a.sp ws m.frame (suc (number x)) lt m.is_frame in (
        ap (word_at s.memory) (slot_place s x st.sp) ∙ load_slot a.sp ws (suc (number x)) (joins_left m.joins) m.is_frame lt ∙ ap Some val,
        subst (λ v. v < 4294967296) val (cell_small _ _ _ cell.cell),
      )

  -- an operand is fetched
  pub fetch : (r : Scratch) (o : Operand) (ν : Values) (h : Memory) (s : BlockState) → IsStateOf c a ν h s → IsKnown c.site.locals o
      → effect w.labels places (Fetch r (value_of c.site.locals o)) s ≡ Ok (set_scratch r (operand_value w.labels ν o) s)
  fetch r (operand.Number n) ν h s st is = refl
  fetch r (operand.Local x) ν h s st is =
      let e = read_local ν h s x.bytes st is in
      let same : wrap (ν.words (Named x.bytes)) ≡ ν.words (Named x.bytes) = (let lt = e.1 in omega arith) in
      rw (e.0, same) refl
  fetch r (operand.Label f) ν h s st is = refl

  -- a word is kept in a local's slot
  pub keep_local : (ν : Values) (h m : Memory) (x : List ℕ) (v : ℕ) → AreDistinct c.site.locals → IsAmong c.site.locals x → v < 4294967296 → IsMemoryOf c a ν h m
      → IsMemoryOf c a (set_word ν (Named x) v) h (put_word m (word_place a.sp (suc (number x))) v)
  keep_local ν h m x v d is fits st =
      let ws : List ℕ = a.back ∷ (words_of ν c.site.locals ++ st.area) in
      let i = suc (number x) in
      let lt = slot_lt ν x st.area is in
      let p = put_slot a.sp ws i v st.joins st.is_frame lt fits in
      let old = load_slot a.sp ws i (joins_left st.joins) st.is_frame lt in
      record {
        bytes = put_word_memory m (word_place a.sp i) v _ st.bytes old;
        frame = put_word st.frame (word_place a.sp i) v;
        beside = st.beside;
        joins = p.0;
        parts = st.parts;
        area = st.area;
        size = st.size;
        is_frame = subst (λ l. AreWordsAt a.sp (a.back ∷ l) (put_word st.frame (word_place a.sp i) v)) (sym (local_set ν c.site.locals x (number x) v st.area d (number_local c.site.locals x is))) p.1;
        agree = record {
          words = λ y out. let ne : y ≢ Named x = out x is in other ν x v y ne ∙ st.agree.words y out;
          lists = λ y. st.agree.lists y;
        };
      }
    where
      other : (ν : Values) (x : List ℕ) (v : ℕ) (y : Variable) → y ≢ Named x → (set_word ν (Named x) v).words y ≡ ν.words y
      other ν x v (Named y) ne = set_other ν x y v (λ e. ne (ap Named e))
      other ν x v (Old y) ne = refl
      other ν x v Answer ne = refl
      other ν x v (Fresh k) ne = refl
      other ν x v Hole ne = refl

  -- the return address is read
  pub read_back : (ν : Values) (h : Memory) (s : BlockState) → IsStateOf c a ν h s → word_at s.memory s.sp ≡ Some a.back
  read_back ν h s st =
      let m = st.memory in
      let low : word_place a.sp 0 ≡ a.sp = (let f = (four_bytes m.is_frame.0 a.sp a.back m.is_frame.3.holds).in_range in omega arith) in
      ap (word_at s.memory) (st.sp ∙ sym low) ∙ load_slot a.sp (a.back ∷ (words_of ν c.site.locals ++ m.area)) 0 (joins_left m.joins) m.is_frame (omega arith)

  -- a word of the heap is read, and put
  pub read_heap : (ν : Values) (h m : Memory) (x v : ℕ) → IsMemoryOf c a ν h m → word_at h x ≡ Some v → (word_at m x ≡ Some v) × (v < 4294967296)
  read_heap ν h m x v st e =
      let r = word_includes (joins_right st.joins) x v (word_includes (joins_left st.parts) x v e) in
      (r, word_lt m x v st.bytes r)

  pub put_heap : (ν : Values) (h m : Memory) (x old v : ℕ) → IsMemoryOf c a ν h m → word_at h x ≡ Some old → IsMemoryOf c a ν (put_word h x v) (put_word m x v)
  put_heap ν h m x old v st e =
      let in_beside = word_includes (joins_left st.parts) x old e in
      record {
        bytes = put_word_memory m x v old st.bytes (word_includes (joins_right st.joins) x old in_beside);
        frame = st.frame;
        beside = put_word st.beside x v;
        joins = joins_comm (joins_put_word (joins_comm st.joins) x old v in_beside);
        parts = joins_put_word st.parts x old v e;
        area = st.area;
        size = st.size;
        is_frame = st.is_frame;
        agree = st.agree;
      }

  -- so is a byte
  pub read_heap_byte : (ν : Values) (h m : Memory) (x v : ℕ) → IsMemoryOf c a ν h m → h x ≡ Some v → (m x ≡ Some v) × (v < 4294967296)
  read_heap_byte ν h m x v st e =
      let r = (joins_right st.joins).at x v ((joins_left st.parts).at x v e) in
      let small : v < 4294967296 = (let b = st.bytes x v r in omega (arith, b.1)) in
      (r, small)

  pub put_heap_byte : (ν : Values) (h m : Memory) (x old v : ℕ) → IsMemoryOf c a ν h m → h x ≡ Some old → IsMemoryOf c a ν (put_byte h x v) (put_byte m x v)
  put_heap_byte ν h m x old v st e =
      let in_beside = (joins_left st.parts).at x old e in
      record {
        bytes = put_byte_memory m x v old st.bytes ((joins_right st.joins).at x old in_beside);
        frame = st.frame;
        beside = put_byte st.beside x v;
        joins = joins_comm (joins_put_byte (joins_comm st.joins) x old v in_beside);
        parts = joins_put_byte st.parts x old v e;
        area = st.area;
        size = st.size;
        is_frame = st.is_frame;
        agree = st.agree;
      }
