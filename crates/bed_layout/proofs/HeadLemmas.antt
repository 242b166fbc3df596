-- Loop heads, as blocks see them and as the machine does.
use Rattle.std.proofs.Common.{◌≡◌, ℕ, ◌+◌, Bool, true, false, if◌then◌else◌, bytes_eq, List, [], ◌∷◌, ◌++◌, length, refl, sym, ◌∙◌, ap, subst, arith, length-append}
use Rattle.bed_lang.specs.Numbers.{wrap}
use Rattle.bed_machine.specs.Memory.{Memory, empty}
use Rattle.bed_machine.specs.declared.machine.Flags.{Flags}
use Rattle.bed_lang.specs.declared.word.Name.{Name}
use Rattle.bed_lang.specs.declared.logic.Assertion.{Assertion}
use Rattle.bed_lang.specs.Values.{Values, Variable, Named, Old, Answer, Fresh, Hole, set_word}
use Rattle.bed_sat.specs.Parts.{Includes}
use Rattle.bed_sat.specs.Cells.{AreWordsAt}
use Rattle.bed_sat.specs.Assertions.{World, Holds}
use Rattle.bed_sat.specs.Frames.{words_at, set_words, IsAtLoop}
use Rattle.bed_sat.proofs.PartLaws.{includes_trans, joins_left, joins_right, to_empty}
use Rattle.bed_sat.proofs.FrameLaws.{bytes_eq_is, read_words}
use Rattle.bed_il.specs.BlockMachine.{BlockState}
use Rattle.bed_laws.specs.Activations.{FunctionSite, Activation, words_of}
use Rattle.bed_laws.specs.Keeps.{IsAtHead}
use Rattle.bed_laws.proofs.SlotLaws.{words_long}
use Rattle.bed_layout.proofs.InstructionLemmas.{Untouched, state_of}

-- a variable set to its own value
self_word : (ν : Values) (x : List ℕ) (y : Variable) → (set_word ν (Named x) (ν.words (Named x))).words y ≡ ν.words y
self_word ν x (Old z) = refl
self_word ν x Answer = refl
self_word ν x (Fresh k) = refl
self_word ν x Hole = refl
self_word ν x (Named z) = by_test (bytes_eq z x) refl
  where
    by_test : (t : Bool) → bytes_eq z x ≡ t → (if t then ν.words (Named x) else ν.words (Named z)) ≡ ν.words (Named z)
    by_test true e = ap (λ a. ν.words (Named a)) (sym (bytes_eq_is z x e))
    by_test false e = refl

set_self : (ν : Values) (x : List ℕ) → set_word ν (Named x) (ν.words (Named x)) ≡ ν
set_self ν x i = record { words = λ y. self_word ν x y i; lists = ν.lists }

set_selves : (ν : Values) (xs : List Name) → set_words ν xs (words_of ν xs) ≡ ν
set_selves ν [] = refl
set_selves ν (x ∷ xs) = ap (λ κ. set_words κ xs (words_of ν xs)) (set_self ν x.bytes) ∙ set_selves ν xs

-- where an invariant holds for an activation, it is met by the state of the machine
pub head_state : (w : World) (u : Untouched) (c : FunctionSite) (a : Activation) (I : Assertion) (s : BlockState) (eip : ℕ) (fl : Flags) (F0 : Memory)
    → Includes a.rest F0 → IsAtHead w c a I s → IsAtLoop w c.signature c.site.locals I (state_of s u eip fl) F0
head_state w u c a I s eip fl F0 keeps r =
    let m = r.state.memory in
    let vs : List ℕ = words_of r.values c.site.locals in
    let frame : AreWordsAt s.sp (a.back ∷ (vs ++ m.area)) m.frame = subst (λ x. AreWordsAt x (a.back ∷ (vs ++ m.area)) m.frame) (sym r.state.sp) m.is_frame in
    let read : words_at s.memory (wrap (s.sp + 4)) (length c.site.locals) ≡ vs =
    ap (λ n. words_at s.memory (wrap (s.sp + 4)) n) (sym (words_long r.values c.site.locals)) ∙ read_words s.memory frame.1 (wrap (s.sp + 4)) vs m.area (includes_trans (joins_left m.joins) (joins_right frame.2)) frame.4 in
    record {
      values = r.values;
      rest = a.rest;
      keeps = keeps;
      meets = record {
        frame = m.frame;
        heap = r.heap;
        parts = (m.beside, m.joins, (a.rest, m.parts, (empty, to_empty a.rest, refl)));
        is_frame = (a.back ∷ (vs ++ m.area), omega (arith, m.size, length-append vs m.area, words_long r.values c.site.locals), frame);
        holds = subst (λ κ. Holds w κ r.heap I) (sym (ap (λ l. set_words r.values c.site.locals l) read ∙ set_selves r.values c.site.locals)) r.holds;
      };
    }
