use Rattle.std.proofs.Common.{take, map}
use Rattle.bed_names.specs.Tables.{IsIndex}
use Rattle.bed_link.proofs.unresolved.names.Given as goal

abbrev pub invariant-loop-number : goal.invariant-loop-number
invariant-loop-number g l = IsIndex l.table (take l.number (map g.T.Named.name_of l.items))
