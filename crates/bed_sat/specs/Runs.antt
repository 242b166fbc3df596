-- Runs of code beside an outside: functions at addresses that aren't in the code, of which only the signatures are known.
use Rattle.std.specs.Prelude.{◌≡◌, ◌≢◌, ℕ, Option, Some, None, IsSome, Ok, List, [], ◌∷◌}
use Rattle.bed_machine.specs.Memory.{Memory}
use Rattle.bed_machine.specs.MachineCode.{MachineCode, IsInCode}
use Rattle.bed_machine.specs.Machine.{MachineState, IsState, IsStep}
use Rattle.bed_lang.specs.declared.module.Signature.{Signature}
use Rattle.bed_lang.specs.Values.{Values}
use Rattle.bed_sat.specs.Assertions.{World}
use Rattle.bed_sat.specs.Frames.{Enters, Returned, signature_of}

-- the name of the signature of the outside function at each address that has one
abbrev pub Outside : Type 0
Outside = ℕ → Option (List ℕ)

-- no data lies in the code
abbrev pub IsApart : MachineCode → MachineState → Type 0
IsApart c s = (a : ℕ) → IsInCode c a → s.memory a ≡ None

module _ (w : World) where
  -- t is an honest answer of the outside to a call at s: whatever values and rest s enters the callee's signature with, t is a
  -- return from there with the same
  abbrev pub IsHonest : Outside → MachineState → MachineState → Type 0
  IsHonest X s t =
      (name : List ℕ) (S : Signature) → X s.eip ≡ Some name → signature_of w name ≡ Some S
      → (ν : Values) (F : Memory) → Enters w S ν s F → Returned w S ν s t F

  -- One turn from s to t, by a starter whose return address is r0: one instruction of the code, or one answer of the outside.
  -- After a state at r0 there is none, and none after a fault or anywhere else.
  pub data Turn (c : MachineCode) (X : Outside) (r0 : ℕ) (s t : MachineState) : Type 0 where
    Steps : s.eip ≢ r0 → IsStep c s (Ok t) → Turn c X r0 s t
    Answers : s.eip ≢ r0 → IsSome (X s.eip) → IsHonest X s t → IsState t → IsApart c t → Turn c X r0 s t

  -- the states of a run, after the first one, by its turns
  abbrev pub IsRun : MachineCode → Outside → ℕ → MachineState → List MachineState → Type 0
  IsRun c X r0 s [] = Unit {0}
  IsRun c X r0 s (t ∷ ts) = Turn c X r0 s t × IsRun c X r0 t ts
