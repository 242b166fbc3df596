use Rattle.std.proofs.Common.{◌≡◌, ◌++◌, drop, map}
use Rattle.bed_sat.specs.Written.{joined, written_statement, written}
use Rattle.bed_macro_list.proofs.writing.+writing.Given as goal

abbrev pub invariant-body-loop-s : goal.invariant-body-loop-s
invariant-body-loop-s l = l.out ++ joined (map written_statement (drop l.s-index l.statements)) ≡ written l.statements
