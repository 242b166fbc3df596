use Rattle.std.proofs.Common.{◌≡◌, ◌++◌, drop}
use Rattle.bed_print.specs.Kinds.{all_of}
use Rattle.bed_print.proofs.list.push_all.Given as goal

abbrev pub invariant-loop-item : goal.invariant-loop-item
invariant-loop-item g l = l.out ++ all_of g.T.Printed.kinds (drop l.item-index l.items) ≡ l.fn.out ++ all_of g.T.Printed.kinds l.items
