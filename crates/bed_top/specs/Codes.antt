-- The exit status of each answer.
use Rattle.std.specs.Prelude.{ℕ}
use Rattle.bed_top.specs.declared.status.Status.{Status}
use Rattle.bed_top.specs.declared.status.Status.TheVariants.{Done, No, Usage, Syntax, Names, Limit, ReadFault, WriteFault, Memory, NotBuilt}

abbrev pub code_of : Status → ℕ
code_of Done = 0
code_of (No condition rejected) = 1
code_of (Usage word) = 2
code_of (Syntax file line column kind) = 3
code_of (Names file line column kind) = 4
code_of (Limit which) = 6
code_of ReadFault = 7
code_of (WriteFault sink) = 8
code_of Memory = 9
code_of (NotBuilt what) = 15
