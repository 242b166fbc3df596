-- When a condition is valid: from its start its actions fail nowhere, and its goal holds after them, whatever the code map, the
-- addresses of labels, the values of variables and the memory.
use Rattle.std.specs.Prelude.{◌≡◌, ◌≢◌, ℕ, ◌+◌, ◌-◌, ◌*◌, ◌<◌, ◌≤◌, IsTrue, Option, Some, None, IsSome, List, [], ◌∷◌, map, length, take, Contains, bit_and, bit_or, bit_xor}
use Rattle.bed_lang.specs.Numbers.{wrap}
use Rattle.bed_machine.specs.Memory.{Memory, word_at, put_byte, put_word}
use Rattle.bed_lang.specs.declared.word.Name.{Name}
use Rattle.bed_lang.specs.declared.logic.Assertion.{Assertion}
use Rattle.bed_lang.specs.declared.module.Operand.{Operand}
use Rattle.bed_lang.specs.declared.module.Operand.TheVariants.{Number, Local, Label}
use Rattle.bed_lang.specs.declared.module.Op.{Op}
use Rattle.bed_lang.specs.declared.module.Op.TheVariants.{Add, Sub, Mul, And, Or, Xor}
use Rattle.bed_lang.specs.declared.module.Rel.{Rel}
use Rattle.bed_lang.specs.declared.module.Rel.TheVariants.{Equal, Unequal, Less, AtMost}
use Rattle.bed_lang.specs.declared.module.Test.{Test}
use Rattle.bed_lang.specs.declared.module.Place.{Place}
use Rattle.bed_lang.specs.declared.module.Signature.{Signature}
use Rattle.bed_lang.specs.declared.module.Action.{Action}
use Rattle.bed_lang.specs.declared.module.Action.TheVariants.{Assign, Compute, Load, LoadByte, Store, StoreByte, Assume}
use Rattle.bed_lang.specs.declared.condition.Decls.{Decls}
use Rattle.bed_lang.specs.declared.condition.Goal.{Goal}
use Rattle.bed_lang.specs.declared.condition.Goal.TheVariants.{Meets, Calls, Returns}
use Rattle.bed_lang.specs.declared.condition.Cond.{Cond}
use Rattle.bed_lang.specs.Values.{Values, Named, Old, Answer, set_word}
use Rattle.bed_lang.specs.Lookups.{signature_named, label_signature, function_signature, count_of_params}
use Rattle.bed_sat.specs.Parts.{Joins}
use Rattle.bed_sat.specs.Assertions.{World, Holds}
use Rattle.bed_sat.specs.Frames.{set_words}

-- what a statement's operation gives, modulo 2^32 or bit by bit
abbrev pub op_result : Op → ℕ → ℕ → ℕ
op_result Add a b = wrap (a + b)
op_result Sub a b = wrap (a + (4294967296 - b))
op_result Mul a b = wrap (a * b)
op_result And a b = bit_and a b
op_result Or a b = bit_or a b
op_result Xor a b = bit_xor a b

-- words are compared without sign
abbrev pub AreRelated : Rel → ℕ → ℕ → Type 0
AreRelated Equal a b = a ≡ b
AreRelated Unequal a b = a ≢ b
AreRelated Less a b = a < b
AreRelated AtMost a b = a ≤ b

-- the name of a callee's signature: the one that is written after `via`, or that of the label
abbrev pub callee_name : Decls → Operand → Option Name → Option Name
callee_name d target (Some name) = Some name
callee_name d (Label f) None = label_signature d f.bytes
callee_name d target None = None

-- the words of operands, places and tests, where variables have these values
module _ (labels : List ℕ → ℕ) (ν : Values) where
  abbrev pub operand_value : Operand → ℕ
  operand_value (Number n) = wrap n
  operand_value (Local x) = wrap (ν.words (Named x.bytes))
  operand_value (Label f) = wrap (labels f.bytes)

  abbrev pub place_value : Place → ℕ
  place_value p = wrap (operand_value p.base + p.disp)

  abbrev pub IsTrueTest : Test → Type 0
  IsTrueTest t = AreRelated t.rel (operand_value t.left) (operand_value t.right)

-- the values with the word of a local set
abbrev pub set_local : Values → Name → ℕ → Values
set_local ν x v = set_word ν (Named x.bytes) v

module _ (labels : List ℕ → ℕ) where
  -- An action doesn't fail and P holds after it. It reads and writes the locals and this memory alone: an access fails where its
  -- bytes aren't all there, and a word's where its last byte has no address. Where an assumed test is false, P isn't asked for.
  abbrev pub Does : Action → (Values → Memory → Type 0) → Values → Memory → Type 0
  Does (Assign x a) P ν h = P (set_local ν x (operand_value labels ν a)) h
  Does (Compute x op a b) P ν h = P (set_local ν x (op_result op (operand_value labels ν a) (operand_value labels ν b))) h
  Does (Load x p) P ν h = (v : ℕ) × (word_at h (place_value labels ν p) ≡ Some v) × P (set_local ν x v) h
  Does (LoadByte x p) P ν h = (v : ℕ) × (h (place_value labels ν p) ≡ Some v) × P (set_local ν x v) h
  Does (Store p a) P ν h = IsSome (word_at h (place_value labels ν p)) × P ν (put_word h (place_value labels ν p) (operand_value labels ν a))
  Does (StoreByte p a) P ν h = IsSome (h (place_value labels ν p)) × P ν (put_byte h (place_value labels ν p) (operand_value labels ν a))
  Does (Assume t) P ν h = IsTrueTest labels ν t → P ν h

  -- no action fails before the first assumed test that is false, and P holds after all of them where there is none
  abbrev pub After : List Action → (Values → Memory → Type 0) → Values → Memory → Type 0
  After [] P ν h = P ν h
  After (a ∷ more) P ν h = Does a (After more P) ν h

module _ (w : World) where
  -- A call meets its callee's precondition, and what the callee promises gives `after`:
  --   the callee's signature is declared, has as many parameters as there are arguments, and is the code map's at the target;
  --   for some values of its logical variables memory splits into a part on which the precondition holds, with the arguments, and
  --   a rest;
  --   for every answer, and every part beside that rest on which the postcondition holds for the same values, `after` holds on
  --   both together, with the answer in the assigned local.
  pub record CallHolds (target : Operand) (via : Option Name) (args : List Operand) (into : Name) (after : Assertion) (ν : Values) (h : Memory) : Type 0 where
    pub name : Name
    pub callee : Signature
    pub named : callee_name w.decls target via ≡ Some name
    pub declared : signature_named w.decls name.bytes ≡ Some callee
    pub count : length args ≡ length callee.params
    pub code : w.codes (operand_value w.labels ν target) ≡ Some name.bytes
    pub values : Values
    pub given : Memory
    pub rest : Memory
    pub parts : Joins h given rest
    pub pre : Holds w (set_words values callee.params (map (operand_value w.labels ν) args)) given callee.pre
    pub goes_on : (answer : ℕ) (back whole : Memory) → answer < 4294967296 → Joins whole back rest
        → Holds w (set_word (set_words values callee.params (map (operand_value w.labels ν) args)) Answer answer) back callee.post
        → Holds w (set_local ν into answer) whole after

  -- the goal of a path holds: an assertion, a call, or the postcondition of the function's signature, with the operand as `result`
  -- and the parameters as they were at entry; where the function has no signature, no return does
  abbrev pub GoalHolds : Option Signature → Goal → Values → Memory → Type 0
  GoalHolds S (Meets A) ν h = Holds w ν h A
  GoalHolds S (Calls target via args into after) ν h = CallHolds target via args into after ν h
  GoalHolds (Some S) (Returns a) ν h =
      Holds w (set_word (set_words ν S.params (map (λ x. ν.words (Old x.bytes)) S.params)) Answer (operand_value w.labels ν a)) h S.post
  GoalHolds None (Returns a) ν h = ⊥

  -- the start of a path holds: its assertion, and at the entry each argument, the first of the locals, is as it was at entry
  pub record Starts (S : Option Signature) (c : Cond) (ν : Values) (h : Memory) : Type 0 where
    pub holds : Holds w ν h c.start
    pub entry : IsTrue c.entry → (x : Name) → Contains (take (count_of_params S) c.locals) x
        → wrap (ν.words (Named x.bytes)) ≡ wrap (ν.words (Old x.bytes))

  -- the code map has each label's signature at its address
  abbrev pub LabelsFit : Type 0
  LabelsFit = (f : List ℕ) (name : Name) → label_signature w.decls f ≡ Some name → w.codes (wrap (w.labels f)) ≡ Some name.bytes

-- A condition is valid under these declarations where, for every code map and all addresses that fit the labels, all values and every
-- memory, from its start its actions don't fail and lead to its goal.
pub record IsValid (d : Decls) (c : Cond) : Type 0 where
  pub holds : (codes : ℕ → Option (List ℕ)) (labels : List ℕ → ℕ)
      → let w : World = record { decls = d; codes = codes; labels = labels } in
      LabelsFit w → (ν : Values) (h : Memory) → Starts w (function_signature d c.function) c ν h
      → After w.labels c.actions (GoalHolds w (function_signature d c.function) c.goal) ν h
