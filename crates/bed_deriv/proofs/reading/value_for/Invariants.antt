use Rattle.std.proofs.Common.{◌≡◌, length}
use Rattle.std.specs.Option.{option_copied}
use Rattle.bed_deriv.specs.Opening.{first_some, value_for}
use Rattle.bed_deriv.proofs.reading.value_for.Given as goal

abbrev pub invariant-loop-rest : goal.invariant-loop-rest
invariant-loop-rest l = first_some (value_for l.sort l.rest l.x.bytes) (option_copied l.found) ≡ value_for l.sort l.fn.values l.x.bytes

abbrev pub decreases-loop-rest : goal.decreases-loop-rest
decreases-loop-rest l = length l.rest
