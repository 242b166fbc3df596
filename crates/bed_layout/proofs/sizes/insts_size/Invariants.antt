use Rattle.std.proofs.Common.{◌≡◌, ◌+◌, drop}
use Rattle.bed_lang.specs.Numbers.{wrap}
use Rattle.bed_il.specs.Places.{insts_size}
use Rattle.bed_layout.proofs.sizes.insts_size.Given as goal

abbrev pub invariant-loop-inst : goal.invariant-loop-inst
invariant-loop-inst l = wrap (l.size + insts_size (drop l.inst-index l.insts)) ≡ wrap (insts_size l.insts)
