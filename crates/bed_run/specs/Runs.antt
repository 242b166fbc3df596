-- What `run` leaves: the situation after turns from the start, and what the trace holds of them.
use Rattle.std.specs.Prelude.{◌≡◌, ℕ, ◌≤◌, List, [], ◌++◌, length}
use Rattle.circular_buffer.specs.Buffer.{keep_last}
use Rattle.bed_machine.specs.MachineCode.{MachineCode}
use Rattle.bed_machine.specs.Memory.{Memory}
use Rattle.bed_machine.specs.Machine.{MachineState, seen}
use Rattle.bed_machine.specs.declared.machine.State.{State}
use Rattle.bed_io.specs.Host.{HostState}
use Rattle.bed_run.specs.declared.ended.Ended.{Ended}
use Rattle.bed_run.specs.Hosted.{Setting, Situation, Turns, IsEnd}

-- the machine of a state, where `bytes` says which memory its store is
abbrev pub machine_of : {D : Type 0} → (D → Memory) → State D → MachineState
machine_of bytes s = seen bytes s

-- what a run is given, written out
abbrev pub setting : MachineCode → List (ℕ × ℕ) → ℕ → ℕ → Setting
setting code outside back steps = record { code = code; outside = outside; back = back; steps = steps }

-- nothing was made yet
abbrev pub start : MachineState → List HostState → Situation
start machine hosts = record { machine = machine; hosts = hosts; made = [] }

-- turns lead from the start to this machine and these hosts; a trace, which is a capacity and no more addresses, then
-- has the last of its old addresses followed by those that were made
pub record HasRun (g : Setting) (from : Situation) (machine : MachineState) (hosts : List HostState) (old new : ℕ × List ℕ) : Type 0 where
  pub made : List ℕ
  pub turns : Turns g from (record { machine = machine; hosts = hosts; made = made })
  pub traced : length old.1 ≤ old.0 → new ≡ (old.0, keep_last old.0 (old.1 ++ made))

-- the same, and there the run ends
pub record HasEnded (g : Setting) (from : Situation) (machine : MachineState) (hosts : List HostState) (old new : ℕ × List ℕ) (end : Ended) : Type 0 where
  pub run : HasRun g from machine hosts old new
  pub ends : IsEnd g (record { machine = machine; hosts = hosts; made = run.made }) end
