-- Signatures: their places don't matter.
use Rattle.std.proofs.Common.{◌≡◌, ℕ, suc, ◌+◌, Bool, true, false, IsTrue, List, [], ◌∷◌, length, refl, ◌∙◌, ap, subst, arith, ◌==◌}
use Rattle.std.specs.Cmp.{unsigned_Decides}
use Rattle.std.specs.Cmp.Lexicographic.{pointwise}
use Rattle.std.proofs.lemmas.Bool.{and_parts}
use Rattle.bed_lang.specs.Numbers.{wrap}
use Rattle.bed_machine.specs.Memory.{Memory}
use Rattle.bed_machine.specs.Machine.{MachineState}
use Rattle.bed_lang.specs.declared.word.Name.{Name}
use Rattle.bed_lang.specs.declared.module.Signature.{Signature}
use Rattle.bed_lang.specs.Same.{same_name, same_bind, same_assertion, same_signature}
use Rattle.bed_lang.specs.Values.{Values, Named, Answer, set_word}
use Rattle.bed_sat.specs.Cells.{IsBlock}
use Rattle.bed_sat.specs.Assertions.{World, Holds}
use Rattle.bed_sat.specs.Frames.{words_at, set_words, frame_size, arguments_at, arguments, EntersAt, LeavesAt, Enters, Returned}
use Rattle.bed_sat.proofs.FrameLaws.{bytes_eq_is}
use Rattle.bed_sat.proofs.SameLaws.{holds_same}

no : {A : Type 0} → ◌≡◌ {A = Bool} false true → A
no e = absurd cc

pub names_long : (xs ys : List Name) → IsTrue (pointwise same_name xs ys) → length xs ≡ length ys
names_long [] [] is = refl
names_long (x ∷ xs) (y ∷ ys) is = ap suc (names_long xs ys (and_parts (same_name x y) _ is).1)
names_long [] (y ∷ ys) is = no is
names_long (x ∷ xs) [] is = no is

pub names_set : (ν : Values) (xs ys : List Name) (vs : List ℕ) → IsTrue (pointwise same_name xs ys) → set_words ν xs vs ≡ set_words ν ys vs
names_set ν [] [] vs is = refl
names_set ν (x ∷ xs) (y ∷ ys) [] is = refl
names_set ν (x ∷ xs) (y ∷ ys) (v ∷ vs) is =
    let h = and_parts (same_name x y) _ is in
    names_set (set_word ν (Named x.bytes) v) xs ys vs h.1 ∙ ap (λ n. set_words (set_word ν (Named n) v) ys vs) (bytes_eq_is x.bytes y.bytes h.0)
names_set ν [] (y ∷ ys) vs is = no is
names_set ν (x ∷ xs) [] vs is = no is

-- the parts of two signatures that are the same
pub record SameParts (S T : Signature) : Type 0 where
  pub params : IsTrue (pointwise same_name S.params T.params)
  pub reserve : S.reserve ≡ T.reserve
  pub pre : IsTrue (same_assertion S.pre T.pre)
  pub post : IsTrue (same_assertion S.post T.post)

pub parts_of : (S T : Signature) → IsTrue (same_signature S T) → SameParts S T
parts_of S T is =
    let a = and_parts (same_name S.name T.name) _ is in
    let b = and_parts (pointwise same_name S.params T.params) _ a.1 in
    let c = and_parts (S.reserve == T.reserve) _ b.1 in
    let d = and_parts (pointwise same_bind S.logical T.logical) _ c.1 in
    let e = and_parts (same_assertion S.pre T.pre) _ d.1 in
    record { params = b.0; reserve = (unsigned_Decides S.reserve T.reserve).0 c.0; pre = e.0; post = e.1 }

module _ (w : World) (S T : Signature) (is : IsTrue (same_signature S T)) where
  abbrev parts : SameParts S T
  parts = parts_of S T is

  long : length S.params ≡ length T.params
  long = names_long S.params T.params parts.params

  pub enters_at_same : (ν : Values) (sp : ℕ) (args : List ℕ) (m F : Memory) → EntersAt w S ν sp args m F → EntersAt w T ν sp args m F
  enters_at_same ν sp args m F en = record {
    frame = en.frame;
    heap = en.heap;
    parts = en.parts;
    back = en.back;
    area = en.area;
    args_count = en.args_count ∙ long;
    area_count = en.area_count ∙ parts.reserve;
    is_frame = en.is_frame;
    pre = subst (λ μ. Holds w μ en.heap T.pre) (names_set ν S.params T.params args parts.params) (holds_same w _ S.pre T.pre en.heap parts.pre en.pre);
  }

  pub leaves_at_same : (ν : Values) (sp : ℕ) (args : List ℕ) (answer : ℕ) (m F : Memory) → LeavesAt w S ν sp args answer m F → LeavesAt w T ν sp args answer m F
  leaves_at_same ν sp args answer m F l = record {
    frame = l.frame;
    heap = l.heap;
    parts = l.parts;
    is_frame = let size : frame_size S ≡ frame_size T = (let r = parts.reserve in let n = long in omega arith) in subst (λ n. IsBlock sp n l.frame) size l.is_frame;
    post = subst (λ μ. Holds w (set_word μ Answer answer) l.heap T.post) (names_set ν S.params T.params args parts.params) (holds_same w _ S.post T.post l.heap parts.post l.post);
  }

  arguments_same : (sp : ℕ) (m : Memory) → arguments_at S sp m ≡ arguments_at T sp m
  arguments_same sp m = ap (words_at m (wrap (sp + 4))) long

  -- a state meets a signature, or returns by it, wherever its parts stand in a text
  pub enters_same : (ν : Values) (s : MachineState) (F : Memory) → Enters w S ν s F → Enters w T ν s F
  enters_same ν s F en =
      subst (λ args. EntersAt w T ν s.regs.ebp args s.memory F) (arguments_same s.regs.ebp s.memory)
      (enters_at_same ν s.regs.ebp (arguments S s) s.memory F en)

  pub returned_same : (ν : Values) (s t : MachineState) (F : Memory) → Returned w S ν s t F → Returned w T ν s t F
  returned_same ν s t F r = record {
    eip = r.eip;
    ebp = r.ebp;
    ebx = r.ebx;
    esp = r.esp;
    edi = r.edi;
    leaves =
        subst (λ args. LeavesAt w T ν s.regs.ebp args t.regs.eax t.memory F) (arguments_same s.regs.ebp s.memory)
        (leaves_at_same ν s.regs.ebp (arguments S s) t.regs.eax t.memory F r.leaves);
  }
