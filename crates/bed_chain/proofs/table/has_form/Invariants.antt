use Rattle.std.proofs.Common.{◌≡◌, length}
use Rattle.bed_plain.specs.Chained.{has_form}
use Rattle.bed_chain.proofs.table.has_form.Given as goal

abbrev pub invariant-loop-rest : goal.invariant-loop-rest
invariant-loop-rest l = has_form l.form l.rest ≡ has_form l.form l.forms

abbrev pub decreases-loop-rest : goal.decreases-loop-rest
decreases-loop-rest l = length l.rest
