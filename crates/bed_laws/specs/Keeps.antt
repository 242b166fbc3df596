-- What blocks keep, by the number of turns: no access faults, the memory beside the activation stays, each loop's invariant holds at its
-- head, each return and each call meets its specification, and where control comes to the label behind the blocks, the state is
-- one that the path describes. No macro is spoken of: these are facts on blocks and paths.
use Rattle.std.specs.Prelude.{◌≡◌, ℕ, zero, suc, ◌<◌, Option, Some, None, List, Contains, map}
use Rattle.bed_machine.specs.Memory.{Memory, IsMemory}
use Rattle.bed_lang.specs.declared.logic.Assertion.{Assertion}
use Rattle.bed_lang.specs.declared.module.Signature.{Signature}
use Rattle.bed_lang.specs.declared.condition.Cond.{Cond}
use Rattle.bed_lang.specs.Values.{Values, Old, Answer, set_word}
use Rattle.bed_sat.specs.Parts.{Includes}
use Rattle.bed_sat.specs.Assertions.{World, Holds}
use Rattle.bed_sat.specs.Frames.{set_words, arguments_at, EntersAt, LeavesAt, signature_of}
use Rattle.bed_sat.specs.Valid.{After, GoalHolds, Starts}
use Rattle.bed_sat.specs.Conditions.{Path}
use Rattle.bed_il.specs.declared.blocks.Block.{Block}
use Rattle.bed_il.specs.BlockMachine.{BlockState, Move, Within, Returns, Calls, Strays, Faults, Missing, il_move, block_at}
use Rattle.bed_laws.specs.Activations.{FunctionSite, Activation, IsStateOf}
use Rattle.bed_laws.specs.Described.{IsSure, AreSure, Describes}

-- the head of a loop: its label, and the invariant
pub record LoopHead : Type 0 where
  pub label : ℕ
  pub invariant : Assertion

module _ (w : World) where
  -- an assertion holds in a state of an activation
  pub record IsAtHead (c : FunctionSite) (a : Activation) (invariant : Assertion) (s : BlockState) : Type 0 where
    pub values : Values
    pub heap : Memory
    pub state : IsStateOf c a values heap s
    pub holds : Holds w values heap invariant

  -- A state returns from an activation: control goes to its return address, and the postcondition holds with the answer, a word, as
  -- `result`, and the parameters as they were at entry.
  pub record IsReturn (c : FunctionSite) (a : Activation) (s : BlockState) : Type 0 where
    pub rp : s.rp ≡ a.back
    pub answer : s.rv < 4294967296
    pub values : Values
    pub heap : Memory
    pub state : IsStateOf c a values heap s
    pub post : Holds w (set_word (set_words values c.signature.params (map (λ x. values.words (Old x.bytes)) c.signature.params)) Answer s.rv) heap c.signature.post

  -- What a callee with signature S that was entered at state s may leave behind at state t: a state of words and bytes that, for all
  -- values and rests for which s met the precondition, meets the postcondition.
  pub record IsAnswer (S : Signature) (s t : BlockState) : Type 0 where
    pub sp : t.sp ≡ s.sp
    pub answer : t.rv < 4294967296
    pub bytes : IsMemory t.memory
    pub leaves : (ν : Values) (F : Memory) → EntersAt w S ν s.sp (arguments_at S s.sp s.memory) s.memory F
        → LeavesAt w S ν s.sp (arguments_at S s.sp s.memory) t.rv t.memory F

  -- A state calls from an activation, to come back at a label: the return address is that label's; the code map names the signature
  -- at the target, and the state meets its precondition, for some values, beside a rest that contains the activation's; and every answer,
  -- at the label, is good.
  pub record IsCall (c : FunctionSite) (a : Activation) (places : ℕ → ℕ) (Good : BlockState → Type 0) (back : Option ℕ) (s : BlockState) : Type 0 where
    pub label : ℕ
    pub is_label : back ≡ Some label
    pub rp : s.rp ≡ places label
    pub bytes : IsMemory s.memory
    pub name : List ℕ
    pub callee : Signature
    pub code : w.codes s.second ≡ Some name
    pub declared : signature_of w name ≡ Some callee
    pub values : Values
    pub rest : Memory
    pub enters : EntersAt w callee values s.sp (arguments_at callee s.sp s.memory) s.memory rest
    pub keeps : Includes rest a.rest
    pub goes_on : (t : BlockState) → t.label ≡ label → t.next ≡ 0 → IsAnswer callee s t → Good t

  module _ (c : FunctionSite) (places : ℕ → ℕ) (B : List Block) (heads : List LoopHead) (a : Activation) (Q : BlockState → Type 0) where
    -- at one state: the rest is there, a loop's invariant holds at its head, and Q where control is beyond the blocks
    pub record IsNow (s : BlockState) : Type 0 where
      pub rest : Includes s.memory a.rest
      pub head : (x : LoopHead) → Contains heads x → s.label ≡ x.label → s.next ≡ 0 → IsAtHead c a x.invariant s
      pub beyond : block_at B s.label ≡ None → Q s

    -- one turn is no fault, and P holds after it
    abbrev pub Turns : (BlockState → Type 0) → Move → BlockState → Type 0
    Turns P (Within t) s = P t
    Turns P Returns s = IsReturn c a s
    Turns P (Calls back) s = IsCall c a places P back s
    Turns P Strays s = ⊥
    Turns P (Faults at) s = ⊥
    Turns P Missing s = Unit {0}

    -- so for n turns
    abbrev pub Safe : ℕ → BlockState → Type 0
    Safe zero s = IsNow s
    Safe (suc n) s = IsNow s × Turns (Safe n) (il_move w.labels places B s) s

  module _ (c : FunctionSite) where
    -- control is at a label, in a state that the path describes; where there is no path, it isn't
    abbrev pub Reaches : ℕ → Option Path → Activation → BlockState → Type 0
    Reaches label None a s = ⊥
    Reaches label (Some p) a s = (s.label ≡ label) × (s.next ≡ 0) × Describes w c a p s

    -- blocks keep their specification from the label `first` to the label `next`, for any number of turns
    abbrev pub Keeps : (ℕ → ℕ) → List Block → List LoopHead → ℕ → ℕ → Path → Option Path → Type 0
    Keeps places B heads first next from to =
        (a : Activation) (s : BlockState) → Reaches first (Some from) a s → (n : ℕ) → Safe c places B heads a (Reaches next to a) n s

    -- a condition holds: from its start its actions don't fail and lead to its goal
    abbrev pub CondHolds : Cond → Type 0
    CondHolds d = (ν : Values) (h : Memory) → Starts w (Some c.signature) d ν h → After w.labels d.actions (GoalHolds w (Some c.signature) d.goal) ν h

    abbrev pub AllHold : List Cond → Type 0
    AllHold conds = (d : Cond) → Contains conds d → CondHolds d

    -- The first law: where the conditions hold, and no action of the path that goes on can fail, no action of the path that comes can
    -- fail, and the blocks keep their specification. A load or store owes no condition: the goal that ends its path makes it sure.
    pub record Law (places : ℕ → ℕ) (B : List Block) (heads : List LoopHead) (first next : ℕ) (conds : List Cond) (from : Path) (to : Option Path) : Type 0 where
      pub sure : AllHold conds → AreSure w c to → IsSure w c from
      pub keeps : AllHold conds → AreSure w c to → Keeps places B heads first next from to
