-- Steps of a program.
use Rattle.std.proofs.Common.{◌≡◌, ℕ, ◌+◌, ◌↔◌, Result, Ok, Err, List, refl, sym, subst}
use Rattle.bed_lang.specs.Numbers.{wrap}
use Rattle.bed_machine.specs.Instructions.{BeginsWith}
use Rattle.bed_machine.specs.Decoder.{Decoded}
use Rattle.bed_machine.specs.MachineCode.{MachineCode, IsInCode, bytes_from}
use Rattle.bed_machine.specs.Machine.{MachineState, effect, IsStep, NoInstruction, Makes}
use Rattle.bed_machine.specs.declared.instructions.Ins.{Ins}
use Rattle.bed_machine.specs.declared.instructions.Bad.{Bad}
use Rattle.bed_machine.specs.declared.machine.Fault.{Fault}
use Rattle.bed_machine.specs.declared.machine.Fault.TheVariants.{Undefined}

pub step_undefined : (p : MachineCode) (s : MachineState) (bytes : List ℕ) (e : Bad) → IsInCode p s.eip → bytes ≡ bytes_from p s.eip
    → ((i : Ins) (size : ℕ) → (◌≡◌ {A = Decoded} (Err e) (Ok (i, size))) ↔ BeginsWith bytes i size) → IsStep p s (Err (Undefined s.eip))
step_undefined p s bytes e inside same exact =
    NoInstruction inside (λ i size b. let impossible = (exact i size).1 (subst (λ l. BeginsWith l i size) (sym same) b) in absurd (cc)) refl

pub step_makes : (p : MachineCode) (s : MachineState) (bytes : List ℕ) (i : Ins) (size : ℕ) (r : Result MachineState Fault) → IsInCode p s.eip → bytes ≡ bytes_from p s.eip
    → ((j : Ins) (n : ℕ) → (◌≡◌ {A = Decoded} (Ok (i, size)) (Ok (j, n))) ↔ BeginsWith bytes j n) → r ≡ effect i (wrap (s.eip + size)) s → IsStep p s r
step_makes p s bytes i size r inside same exact e = Makes inside i size (subst (λ l. BeginsWith l i size) same ((exact i size).0 refl)) e
