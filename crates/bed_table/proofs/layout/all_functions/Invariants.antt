use Rattle.std.proofs.Common.{◌≡◌, ◌++◌, drop, map}
use Rattle.bed_table.specs.Layout.{all_defined}
use Rattle.bed_table.specs.Seen.{defined_of}
use Rattle.bed_table.proofs.layout.all_functions.Given as goal

abbrev pub invariant-loop-module : goal.invariant-loop-module
invariant-loop-module l = map defined_of l.out.items ++ all_defined (drop l.module-index l.modules) ≡ all_defined l.modules
