use Rattle.std.proofs.Common.{◌≡◌, drop}
use Rattle.bed_sat.specs.Comparisons.{named_value}
use Rattle.bed_sat.proofs.comparison.value_of.Given as goal

-- the answer is that of the values that are left
abbrev pub invariant-loop-other : goal.invariant-loop-other
invariant-loop-other l = named_value l.values l.name.bytes ≡ named_value (drop l.other-index l.other-items) l.name.bytes
