-- What a host's call leaves, and what reading its arguments gives.
use Rattle.std.specs.Prelude.{◌≡◌, ℕ, List, Option, Some, None, slice_set}
use Rattle.bed_machine.specs.Memory.{Memory}
use Rattle.bed_machine.specs.Machine.{MachineState}
use Rattle.bed_io.specs.Host.{HostState, next_answer, called}
use Rattle.bed_run.specs.declared.arguments.Arguments.{Arguments}
use Rattle.bed_run.specs.declared.arguments.Arguments.TheVariants.{Words, Missing}
use Rattle.bed_run.specs.Hosted.{AreArguments, IsMissing, answered}

-- all arguments, or the address of the first that isn't there
abbrev pub IsRead : Memory → ℕ → ℕ → Arguments → Type 0
IsRead memory ebp arity (Words args) = AreArguments memory ebp arity args.items
IsRead memory ebp arity (Missing at) = IsMissing memory ebp arity at

-- a call by a machine among hosts, of the host of this number
pub record IsAnswered (machine : MachineState) (hosts : List HostState) (number : ℕ) (host : HostState) (now : MachineState) (after : List HostState) : Type 0 where
  pub args : List ℕ
  pub are : AreArguments machine.memory machine.regs.ebp host.arity args
  pub machine_is : now ≡ answered machine (next_answer host)
  pub hosts_are : after ≡ slice_set hosts number (called host args)

-- no call, since an argument isn't there
pub record IsRefused (machine : MachineState) (hosts : List HostState) (host : HostState) (at : ℕ) (now : MachineState) (after : List HostState) : Type 0 where
  pub missing : IsMissing machine.memory machine.regs.ebp host.arity at
  pub machine_stays : now ≡ machine
  pub hosts_stay : after ≡ hosts

-- one or the other, by the address that is answered
abbrev pub IsCall : MachineState → List HostState → ℕ → HostState → MachineState → List HostState → Option ℕ → Type 0
IsCall machine hosts number host now after None = IsAnswered machine hosts number host now after
IsCall machine hosts number host now after (Some at) = IsRefused machine hosts host at now after
