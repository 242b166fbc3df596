-- A run of the machine in which a call of the outside is a call of a host. The outside has a host's number at each
-- of its addresses, and the run goes on turn by turn to its end.
use Rattle.std.specs.Prelude.{◌≡◌, ◌≢◌, ℕ, ◌+◌, ◌*◌, ◌<◌, ◌≤◌, List, [], ◌∷◌, ◌++◌, length, Option, Some, None, IsSome, Ok, Err, nat_eq, slice_get, slice_set, if◌then◌else◌}
use Rattle.bed_lang.specs.Numbers.{wrap}
use Rattle.bed_machine.specs.Memory.{Memory, word_at}
use Rattle.bed_machine.specs.MachineCode.{MachineCode, IsInCode}
use Rattle.bed_machine.specs.Machine.{MachineState, IsStep, set_register}
use Rattle.bed_machine.specs.declared.registers.Reg.TheVariants.{Eax}
use Rattle.bed_machine.specs.declared.machine.Flags.TheVariants.{Unknown}
use Rattle.bed_machine.specs.declared.machine.Fault.{Fault}
use Rattle.bed_machine.specs.declared.machine.Fault.TheVariants.{Unmapped}
use Rattle.bed_io.specs.Host.{HostState, next_answer, called}
use Rattle.bed_run.specs.declared.ended.Ended.{Ended}
use Rattle.bed_run.specs.declared.ended.Ended.TheVariants.{Returned, Steps, Stuck, Astray}

-- what a run is given beside its state: the code, the number of the host at each outside address, the address to
-- which it returns, and how many instructions it may make
pub record Setting : Type 0 where
  pub code : MachineCode
  pub outside : List (ℕ × ℕ)
  pub back : ℕ
  pub steps : ℕ

-- where a run stands: the machine, the hosts, and the addresses of the instructions that were made, in their order
pub record Situation : Type 0 where
  pub machine : MachineState
  pub hosts : List HostState
  pub made : List ℕ

-- the number of the host at an address; of two pairs with one address the first counts
abbrev pub host_at : List (ℕ × ℕ) → ℕ → Option ℕ
host_at [] a = None
host_at (pair ∷ pairs) a = if nat_eq pair.0 a then Some pair.1 else host_at pairs a

-- the address of a host's argument, by its number from 1: that of this word at EBP
abbrev pub argument_address : ℕ → ℕ → ℕ
argument_address ebp number = wrap (ebp + 4 * number)

abbrev pub argument : Memory → ℕ → ℕ → Option ℕ
argument memory ebp number = word_at memory (argument_address ebp number)

-- all arguments are there, and are these
pub record AreArguments (memory : Memory) (ebp arity : ℕ) (args : List ℕ) : Type 0 where
  pub count : length args ≡ arity
  pub words : (k : ℕ) → k < arity → argument memory ebp (k + 1) ≡ slice_get args k

-- the first argument that isn't there has this address
pub record IsMissing (memory : Memory) (ebp arity at : ℕ) : Type 0 where
  pub before : ℕ
  pub within : before < arity
  pub there : (k : ℕ) → k < before → IsSome (argument memory ebp (k + 1))
  pub missing : argument memory ebp (before + 1) ≡ None
  pub address : at ≡ argument_address ebp (before + 1)

-- the machine after a host's answer: EAX has it, control is where ESI says, and of the flags nothing is known
abbrev pub answered : MachineState → ℕ → MachineState
answered s answer = record s { regs = set_register s.regs Eax answer; eip = s.regs.esi; flags = Unknown }

-- control is at the address of a host, and the run hasn't returned
pub record IsAtHost (g : Setting) (s : Situation) (number : ℕ) (host : HostState) : Type 0 where
  pub away : s.machine.eip ≢ g.back
  pub outside : host_at g.outside s.machine.eip ≡ Some number
  pub is : slice_get s.hosts number ≡ Some host

-- control isn't at the address of a host, and the run hasn't returned
pub record IsAtNone (g : Setting) (s : Situation) : Type 0 where
  pub away : s.machine.eip ≢ g.back
  pub inside : host_at g.outside s.machine.eip ≡ None

-- the situation after a host's call
abbrev pub after_call : Situation → ℕ → HostState → List ℕ → Situation
after_call s number host args = record {
  machine = answered s.machine (next_answer host);
  hosts = slice_set s.hosts number (called host args);
  made = s.made;
}

-- the situation after an instruction
abbrev pub after_step : Situation → MachineState → Situation
after_step s machine = record { machine = machine; hosts = s.hosts; made = s.made ++ s.machine.eip ∷ [] }

-- one turn: a host's call, which isn't counted, or one more instruction
pub data Turn (g : Setting) (s : Situation) : Situation → Type 0 where
  Calls : (number : ℕ) (host : HostState) (args : List ℕ) → IsAtHost g s number host → AreArguments s.machine.memory s.machine.regs.ebp host.arity args
      → Turn g s (after_call s number host args)
  Makes : (machine : MachineState) → IsAtNone g s → length s.made < g.steps → IsStep g.code s.machine (Ok machine)
      → Turn g s (after_step s machine)

-- the end, where there is no further turn
pub data IsEnd (g : Setting) (s : Situation) : Ended → Type 0 where
  Returns : s.machine.eip ≡ g.back → IsEnd g s (Returned s.machine.regs.eax (length s.made))
  Misses : (number : ℕ) (host : HostState) (at : ℕ) → IsAtHost g s number host → IsMissing s.machine.memory s.machine.regs.ebp host.arity at
      → IsEnd g s (Stuck (Unmapped at) s.machine.eip)
  Leaves : IsAtNone g s → (IsInCode g.code s.machine.eip → ⊥) → IsEnd g s (Astray s.machine.eip)
  Stops : IsAtNone g s → IsInCode g.code s.machine.eip → g.steps ≤ length s.made → IsEnd g s (Steps s.machine.eip)
  Faults : (fault : Fault) → IsAtNone g s → IsInCode g.code s.machine.eip → length s.made < g.steps → IsStep g.code s.machine (Err fault)
      → IsEnd g s (Stuck fault s.machine.eip)

-- any number of turns
pub data Turns (g : Setting) (s : Situation) : Situation → Type 0 where
  Stays : Turns g s s
  Goes : (t u : Situation) → Turns g s t → Turn g t u → Turns g s u

-- each host hands control back into the code
abbrev pub ComesBack : Setting → Situation → Type 0
ComesBack g s = (t : Situation) → Turns g s t → t.machine.eip ≢ g.back → IsSome (host_at g.outside t.machine.eip) → IsInCode g.code t.machine.regs.esi
