use Rattle.std.proofs.Common.{◌≡◌, ◌++◌, drop, filter}
use Rattle.bed_link.proofs.unresolved.exported_functions.Given as goal

abbrev pub invariant-loop-part : goal.invariant-loop-part
invariant-loop-part l = l.out.items ++ filter (λ p. p.item.now.exported) (drop l.part-index l.functions)
    ≡ filter (λ p. p.item.now.exported) l.functions
