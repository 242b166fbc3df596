-- When code is sound for the functions, loops and imports of the modules that it was made from.
use Rattle.std.specs.Prelude.{◌≡◌, ℕ, ◌⊎◌, Bool, IsTrue, IsSome, Some, None, Ok, List, [], ◌∷◌, Contains, All, nat_eq, if◌then◌else◌}
use Rattle.bed_machine.specs.Memory.{Memory}
use Rattle.bed_machine.specs.MachineCode.{MachineCode, IsInCode}
use Rattle.bed_machine.specs.Machine.{MachineState, IsState, IsStep}
use Rattle.bed_lang.specs.declared.word.Name.{Name}
use Rattle.bed_lang.specs.declared.logic.Assertion.{Assertion}
use Rattle.bed_lang.specs.declared.module.Signature.{Signature}
use Rattle.bed_lang.specs.declared.condition.Decls.{Decls}
use Rattle.bed_lang.specs.Values.{Values}
use Rattle.bed_sat.specs.Parts.{Includes}
use Rattle.bed_sat.specs.Assertions.{World}
use Rattle.bed_sat.specs.Frames.{Enters, Returned, Meets, IsAtLoop, signature_of}
use Rattle.bed_sat.specs.Runs.{Outside, IsApart, IsRun}

-- a function of the modules: the address of its first instruction, and its signature
pub record FunctionAt : Type 0 where
  pub address : ℕ
  pub signature : Signature
  pub exported : Bool

-- a loop of the modules: the address of its head, the signature of its function, the function's locals in the order of their
-- slots (the arguments first), and its invariant
pub record LoopAt : Type 0 where
  pub address : ℕ
  pub signature : Signature
  pub locals : List Name
  pub invariant : Assertion

-- an import of the modules that the outside has: its address, and the name of its signature
pub record ImportAt : Type 0 where
  pub address : ℕ
  pub signature : List ℕ

-- Code, and what stands where by the modules that it was made from. Nothing of this but the code is read from an image.
pub record Linked : Type 0 where
  pub code : MachineCode
  pub functions : List FunctionAt
  pub loops : List LoopAt
  pub imports : List ImportAt
  pub decls : Decls
  pub labels : List ℕ → ℕ

-- the code map: the signature's name at the address of each function, and at each address of the outside
abbrev pub codes_of : List FunctionAt → Outside → Outside
codes_of [] X a = X a
codes_of (f ∷ fs) X a = if nat_eq a f.address then Some f.signature.name.bytes else codes_of fs X a

-- what the modules' assertions are read against
abbrev pub world_of : Linked → Outside → World
world_of p X = record { decls = p.decls; codes = codes_of p.functions X; labels = p.labels }

-- an outside for the code: it has the imports, each of its functions has a declared signature, and none stands in the code
pub record IsOutsideOf (p : Linked) (X : Outside) : Type 0 where
  pub imports : (i : ImportAt) → Contains p.imports i → X i.address ≡ Some i.signature
  pub declared : (a : ℕ) (name : List ℕ) → X a ≡ Some name → IsSome (signature_of (world_of p X) name)
  pub apart : (a : ℕ) → IsInCode p.code a → X a ≡ None

-- a start: a state at a function that meets its signature under these values beside F, with a return address that is neither in
-- the code nor in the outside
pub record IsStart (p : Linked) (X : Outside) (f : FunctionAt) (ν : Values) (s : MachineState) (F : Memory) : Type 0 where
  pub listed : Contains p.functions f
  pub state : IsState s
  pub eip : s.eip ≡ f.address
  pub enters : Enters (world_of p X) f.signature ν s F
  pub apart : IsApart p.code s
  pub return_out : IsInCode p.code s.regs.esi → ⊥
  pub return_new : X s.regs.esi ≡ None

-- What is promised of a state s in a run from this start:
--   goes_on: control is in the code and the step there is no fault, or it is at a function of the outside, or at the starter's
--     return address;
--   keeps: the memory contains F, byte for byte;
--   at_function: at a function its signature is met, for some values and some rest that contains F;
--   at_loop: at a loop head the invariant is met, in the same sense;
--   at_outside: at a function of the outside its signature is met, in the same sense, and its return address is in the code;
--   at_return: at the starter's return address the postcondition is met, for the start's own values and F.
pub record IsFine (p : Linked) (X : Outside) (f : FunctionAt) (ν : Values) (start : MachineState) (F : Memory) (s : MachineState) : Type 0 where
  pub goes_on : (IsInCode p.code s.eip × (t : MachineState) × IsStep p.code s (Ok t)) ⊎ IsSome (X s.eip) ⊎ (s.eip ≡ start.regs.esi)
  pub keeps : Includes s.memory F
  pub at_function : (g : FunctionAt) → Contains p.functions g → s.eip ≡ g.address → Meets (world_of p X) g.signature s F
  pub at_loop : (l : LoopAt) → Contains p.loops l → s.eip ≡ l.address
      → IsAtLoop (world_of p X) l.signature l.locals l.invariant s F
  pub at_outside : (name : List ℕ) (S : Signature) → X s.eip ≡ Some name → signature_of (world_of p X) name ≡ Some S
      → Meets (world_of p X) S s F × IsInCode p.code s.regs.esi
  pub at_return : s.eip ≡ start.regs.esi → Returned (world_of p X) f.signature ν start s F

-- the code is sound from these functions: for every outside, every start at one of them and every number of turns, each state of
-- the run is fine
pub record IsSoundFrom (p : Linked) (IsStarted : FunctionAt → Type 0) : Type 0 where
  pub fine : (X : Outside) → IsOutsideOf p X
      → (f : FunctionAt) (ν : Values) (s : MachineState) (F : Memory) → IsStarted f → IsStart p X f ν s F
      → (states : List MachineState) → IsRun (world_of p X) p.code X s.regs.esi s states
      → All (IsFine p X f ν s F) (s ∷ states)

-- the code is sound: from its exported functions
abbrev pub IsSound : Linked → Type 0
IsSound p = IsSoundFrom p (λ f. IsTrue f.exported)

-- the code is sound from all its functions
abbrev pub IsSoundFromAll : Linked → Type 0
IsSoundFromAll p = IsSoundFrom p (λ f. Unit {0})
