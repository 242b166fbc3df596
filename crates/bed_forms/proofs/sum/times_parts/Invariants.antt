use Rattle.std.proofs.Common.{◌≡◌, ◌++◌, drop}
use Rattle.bed_lang.specs.Forms.{times_parts}
use Rattle.bed_forms.proofs.sum.times_parts.Given as goal

abbrev pub invariant-loop-part : goal.invariant-loop-part
invariant-loop-part l = l.out ++ times_parts l.n (drop l.part-index l.parts) ≡ times_parts l.n l.parts
