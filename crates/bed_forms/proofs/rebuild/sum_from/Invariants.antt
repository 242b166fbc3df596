use Rattle.std.proofs.Common.{◌≡◌, drop}
use Rattle.bed_forms.specs.Rebuilt.{sum_from}
use Rattle.bed_forms.proofs.rebuild.sum_from.Given as goal

abbrev pub invariant-loop-part : goal.invariant-loop-part
invariant-loop-part l = sum_from l.total (drop l.part-index l.parts) ≡ sum_from l.fn.first l.parts
