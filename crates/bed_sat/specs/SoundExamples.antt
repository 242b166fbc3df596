-- Code of a few bytes that is sound, or that isn't by one clause of soundness alone; and what stands where in the code of small
-- modules. Above each example stands a slip in a definition under which it would be false.
use Rattle.std.specs.Prelude.{◌≡◌, ℕ, Bool, true, false, Some, None, List, [], ◌∷◌, codes, nat_eq, if◌then◌else◌}
use Rattle.bed_machine.specs.Memory.{Memory, empty, put_word}
use Rattle.bed_machine.specs.Machine.{MachineState}
use Rattle.bed_lang.specs.declared.word.Word.{Number}
use Rattle.bed_lang.specs.declared.logic.Pure.TheVariants as pure
use Rattle.bed_lang.specs.declared.logic.Atom.TheVariants as atom
use Rattle.bed_lang.specs.declared.logic.Term.TheVariants as term
use Rattle.bed_lang.specs.declared.logic.Assertion.{Assertion}
use Rattle.bed_lang.specs.declared.module.Operand.TheVariants.{Local}
use Rattle.bed_lang.specs.declared.module.Signature.{Signature}
use Rattle.bed_lang.specs.declared.module.Import.{Import}
use Rattle.bed_lang.specs.declared.module.Function.{Function}
use Rattle.bed_lang.specs.declared.module.Module.{Module}
use Rattle.bed_lang.specs.declared.statement.StmtKind.{Return}
use Rattle.bed_lang.specs.Prelude.{name, word}
use Rattle.bed_sat.specs.Assertions.{World, blank}
use Rattle.bed_sat.specs.Frames.{Meets, IsAtLoop}
use Rattle.bed_sat.specs.Runs.{Outside, Turn, IsRun}
use Rattle.bed_sat.specs.Sound.{FunctionAt, LoopAt, Linked, world_of, IsOutsideOf, IsStart, IsFine, IsSound}
use Rattle.bed_sat.specs.Linking.{linked}
use Rattle.bed_sat.specs.Examples.{bytes_at, asserts, start_state}
use Rattle.bed_sat.specs.ConditionExamples.{name_at, just_emp, counting_signature, counting_invariant, counting_module, imported_signature, calling_module}

-- [n = v], where n is the argument, and [1 = 2]
abbrev pub n_is : ℕ → Assertion
n_is v = asserts (term.Pure (pure.Equal (word (codes "n")) (Number v)) ∷ [])

abbrev pub never : Assertion
never = asserts (term.Pure (pure.Equal (Number 1) (Number 2)) ∷ [])

-- signature S(n) pre .. post emp
abbrev pub taking : Assertion → Signature
taking pre = record {
  name = name (codes "S");
  params = name (codes "n") ∷ [];
  reserve = 0;
  logical = [];
  pre = pre;
  post = asserts (term.Emp ∷ []);
}

-- signature G() pre .. post emp
abbrev pub imported : Assertion → Signature
imported pre = record {
  name = name (codes "G");
  params = [];
  reserve = 0;
  logical = [];
  pre = pre;
  post = asserts (term.Emp ∷ []);
}

-- the exported function at 0x400000, with pre [n = 5]
abbrev pub taking_five : FunctionAt
taking_five = record { address = 0x400000; signature = taking (n_is 5); exported = true }

-- a loop of it at an address
abbrev pub loop_of_five : ℕ → Assertion → LoopAt
loop_of_five address invariant =
    record { address = address; signature = taking (n_is 5); locals = name (codes "n") ∷ []; invariant = invariant }

-- code at 0x400000 of this function and of others, with loops, and with the import g of G(), whose precondition is given, at 0x500000
abbrev pub program : List ℕ → List FunctionAt → List LoopAt → Assertion → Linked
program bytes others loops given = record {
  code = record { base = 0x400000; bytes = bytes };
  functions = taking_five ∷ others;
  loops = loops;
  imports = record { address = 0x500000; signature = codes "G" } ∷ [];
  decls = record { signatures = taking (n_is 5) ∷ imported given ∷ []; predicates = []; labels = [] };
  labels = λ f. 0;
}

-- the outside that has just g
abbrev pub just_g : Outside
just_g a = if nat_eq a 0x500000 then Some (codes "G") else None

-- A start of it: the frame at 0x80000000 is a word for the return address and the argument 5, and the starter's bytes stand right
-- behind it. The return address is 0x1000.
abbrev pub starters : List ℕ → Memory
starters bytes = bytes_at 0x80000008 bytes

abbrev pub five_state : List ℕ → MachineState
five_state bytes = record start_state { memory = bytes_at 0x80000000 (0 ∷ 0 ∷ 0 ∷ 0 ∷ 5 ∷ 0 ∷ 0 ∷ 0 ∷ bytes) }

-- the word 0 of the starter's
abbrev pub zero_word : List ℕ
zero_word = 0 ∷ 0 ∷ 0 ∷ 0 ∷ []

-- jmp, to itself
abbrev pub jump_to_itself : List ℕ
jump_to_itself = 0xE9 ∷ 0xFB ∷ 0xFF ∷ 0xFF ∷ 0xFF ∷ []

-- ---- a loop

-- a jump to itself, with a loop there
abbrev pub spinning : Assertion → Linked
spinning invariant = program jump_to_itself [] (loop_of_five 0x400000 invariant ∷ []) just_emp

-- Slip: `IsAtLoop` reads the locals from other words than those from EBP + 4 on. It is sound, and has a start.
abbrev pub SpinningExample : Type 0
SpinningExample =
    IsSound (spinning (n_is 5)) × IsOutsideOf (spinning (n_is 5)) just_g
    × IsStart (spinning (n_is 5)) just_g taking_five blank (five_state zero_word) (starters zero_word)

-- Slip: `IsFine` without `at_loop`. The argument is 5, and the invariant says 6.
abbrev pub WrongInvariantExample : Type 0
WrongInvariantExample = IsSound (spinning (n_is 6)) → ⊥

-- 0x80000008 |-> 0
abbrev pub starters_cell : Assertion
starters_cell = asserts (term.Atom (atom.Cell (Number 0x80000008) (Number 0)) ∷ [])

-- Slip: `Meets` or `IsAtLoop` without `keeps`. A cell of the starter's meets no precondition and no invariant.
abbrev pub StartersCellExample : Type 0
StartersCellExample =
    (w : World) → (Meets w (taking starters_cell) (five_state zero_word) (starters zero_word) → ⊥)
    × (IsAtLoop w (taking (n_is 5)) (name (codes "n") ∷ []) starters_cell (five_state zero_word) (starters zero_word) → ⊥)

-- ---- code that isn't sound

-- jmp edx; and the state after it, from a start where EDX is 0
abbrev pub stray : Linked
stray = program (0xFF ∷ 0xE2 ∷ []) [] [] just_emp

abbrev pub strayed : MachineState
strayed = record (five_state []) { eip = 0 }

-- Slip: `IsFine` without `goes_on`. Control has left the code, and all else is fine.
abbrev pub StrayExample : Type 0
StrayExample =
    IsRun (world_of stray just_g) stray.code just_g 0x1000 (five_state []) (strayed ∷ [])
    × (IsFine stray just_g taking_five blank (five_state []) empty strayed → ⊥)

-- a byte that begins no instruction
abbrev pub undefined : Linked
undefined = program (0 ∷ []) [] [] just_emp

-- Slip: `goes_on` without the step. Control is in the code, and the step there is a fault.
abbrev pub UndefinedExample : Type 0
UndefinedExample = IsSound undefined → ⊥

-- mov [ebp+8], esi, and a jump to itself
abbrev pub overwriting : Linked
overwriting = program (0x89 ∷ 0xB5 ∷ 8 ∷ 0 ∷ 0 ∷ 0 ∷ jump_to_itself) [] [] just_emp

-- the state after the store, from a start with a word of the starter's there
abbrev pub overwritten : MachineState
overwritten = record (five_state zero_word) { eip = 0x400006; memory = put_word (five_state zero_word).memory 0x80000008 0x1000 }

-- Slip: `IsFine` without `keeps`. A word of the starter's is lost, and all else is fine.
abbrev pub OverwritingExample : Type 0
OverwritingExample =
    IsRun (world_of overwriting just_g) overwriting.code just_g 0x1000 (five_state zero_word) (overwritten ∷ [])
    × (IsFine overwriting just_g taking_five blank (five_state zero_word) (starters zero_word) overwritten → ⊥)

-- a jump to a second function, whose precondition is [1 = 2], and its jump to itself
abbrev pub second_function : FunctionAt
second_function = record { address = 0x400005; signature = imported never; exported = false }

abbrev pub jumping : Linked
jumping = program (0xE9 ∷ 0 ∷ 0 ∷ 0 ∷ 0 ∷ jump_to_itself) (second_function ∷ []) [] just_emp

-- Slip: `IsFine` without `at_function`. All else is fine.
abbrev pub JumpingExample : Type 0
JumpingExample = IsSound jumping → ⊥

-- ---- calls of the outside

-- mov esi, 0x40000A; a jump to g; and at 0x40000A a jump to itself, with a loop there whose invariant is [n = 5]
abbrev pub calling : Assertion → Linked
calling given =
    program (0xBE ∷ 0x0A ∷ 0 ∷ 0x40 ∷ 0 ∷ 0xE9 ∷ 0xF6 ∷ 0xFF ∷ 0x0F ∷ 0 ∷ jump_to_itself) [] (loop_of_five 0x40000A (n_is 5) ∷ []) given

-- the state at the call, and those with other memories that go on at 0x40000A
abbrev pub at_call : MachineState
at_call = record (five_state []) { regs = record start_state.regs { esi = 0x40000A }; eip = 0x500000 }

abbrev pub back_with : Memory → MachineState
back_with memory = record at_call { eip = 0x40000A; memory = memory }

-- Slip: `Returned` drops what the caller has. It is sound, as the argument is still 5 after the call, which has an answer.
abbrev pub CallingExample : Type 0
CallingExample =
    IsSound (calling just_emp) × IsOutsideOf (calling just_emp) just_g
    × Turn (world_of (calling just_emp) just_g) (calling just_emp).code just_g 0x1000 at_call (back_with at_call.memory)

-- Slip: `Answers` without `IsHonest`. The argument, which is the caller's, would be 6.
abbrev pub DishonestExample : Type 0
DishonestExample =
    Turn (world_of (calling just_emp) just_g) (calling just_emp).code just_g 0x1000 at_call
    (back_with (bytes_at 0x80000000 (0 ∷ 0 ∷ 0 ∷ 0 ∷ 6 ∷ 0 ∷ 0 ∷ 0 ∷ [])))
    → ⊥

-- Slip: `IsFine` without `at_outside`. The precondition [1 = 2] of g isn't met at the call, and all else is fine.
abbrev pub UnmetCallExample : Type 0
UnmetCallExample = IsFine (calling never) just_g taking_five blank (five_state []) empty at_call → ⊥

-- a jump to g with the starter's return address, which isn't in the code
abbrev pub tail_calling : Linked
tail_calling = program (0xE9 ∷ 0xFB ∷ 0xFF ∷ 0x0F ∷ 0 ∷ []) [] [] just_emp

-- Slip: `at_outside` without the return address in the code. All else is fine.
abbrev pub TailCallExample : Type 0
TailCallExample = IsSound tail_calling → ⊥

-- ---- what stands where

-- Slip: a function or a loop at another address, or a loop with other locals or another invariant.
abbrev pub CountingLinkExample : Type 0
CountingLinkExample =
    ((linked (counting_module ∷ []) 0x400000 []).functions ≡ record { address = 0x400000; signature = counting_signature; exported = true } ∷ [])
    × ((linked (counting_module ∷ []) 0x400000 []).loops
    ≡ record {
      address = 0x400011;
      signature = counting_signature;
      locals = name_at (codes "n") 22 ∷ name_at (codes "i") 96 ∷ [];
      invariant = counting_invariant;
    } ∷ [])

-- Slip: an import at another address than the one that is given, or without its signature.
abbrev pub ImportingLinkExample : Type 0
ImportingLinkExample =
    ((linked (calling_module ∷ []) 0x400000 ((name (codes "g"), 0x500000) ∷ [])).imports ≡ record { address = 0x500000; signature = codes "G" } ∷ [])
    × ((linked (calling_module ∷ []) 0x400000 ((name (codes "g"), 0x500000) ∷ [])).labels (codes "g") ≡ 0x500000)

-- module a; signature G(x) pre emp post [result = x]; function h: G { return x; } export function g: G { return x; }
abbrev pub returning_function : List ℕ → Bool → Function
returning_function called exported = record {
  name = name called;
  exported = exported;
  signature = name (codes "G");
  locals = [];
  body = record { at = 10; kind = Return (Local (name (codes "x"))) } ∷ [];
  end = 0;
}

abbrev pub first_module : Module
first_module = record {
  name = name (codes "a");
  signatures = imported_signature ∷ [];
  predicates = [];
  imports = [];
  functions = returning_function (codes "h") false ∷ returning_function (codes "g") true ∷ [];
}

-- the module that counts, with import g: G; and import say: G;
abbrev pub import_of : List ℕ → Import
import_of called = record { name = name called; signature = name (codes "G") }

abbrev pub second_module : Module
second_module = record counting_module {
  signatures = counting_signature ∷ imported_signature ∷ [];
  imports = import_of (codes "g") ∷ import_of (codes "say") ∷ [];
}

-- both at 0x400000, where say stands at 0x500000
abbrev pub two_linked : Linked
two_linked = linked (first_module ∷ second_module ∷ []) 0x400000 ((name (codes "say"), 0x500000) ∷ [])

-- Slip: a function that isn't right behind the one before it, one of another module left out, an import that a module exports
-- listed as the outside's, or a label at another address. Each function of `first_module` has 22 bytes.
abbrev pub TwoModulesLinkExample : Type 0
TwoModulesLinkExample =
    (two_linked.functions
    ≡ record { address = 0x400000; signature = imported_signature; exported = false }
    ∷ record { address = 0x400016; signature = imported_signature; exported = true }
    ∷ record { address = 0x40002C; signature = counting_signature; exported = true } ∷ [])
    × (two_linked.loops
    ≡ record {
      address = 0x40003D;
      signature = counting_signature;
      locals = name_at (codes "n") 22 ∷ name_at (codes "i") 96 ∷ [];
      invariant = counting_invariant;
    } ∷ [])
    × (two_linked.imports ≡ record { address = 0x500000; signature = codes "G" } ∷ [])
    × (two_linked.labels (codes "h") ≡ 0x400000)
    × (two_linked.labels (codes "g") ≡ 0x400016)
    × (two_linked.labels (codes "count") ≡ 0x40002C)
    × (two_linked.labels (codes "say") ≡ 0x500000)
