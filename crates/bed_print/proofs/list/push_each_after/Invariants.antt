use Rattle.std.proofs.Common.{◌≡◌, ◌++◌, drop}
use Rattle.bed_print.specs.Kinds.{each_after}
use Rattle.bed_print.proofs.list.push_each_after.Given as goal

abbrev pub invariant-loop-item : goal.invariant-loop-item
invariant-loop-item g l =
    l.out ++ each_after l.class g.T.Printed.kinds (drop l.item-index l.items) ≡ l.fn.out ++ each_after l.class g.T.Printed.kinds l.items
