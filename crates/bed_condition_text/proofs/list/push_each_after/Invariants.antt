use Rattle.std.proofs.Common.{◌≡◌, ◌++◌, drop}
use Rattle.bed_condition_text.specs.Texts.{each_after}
use Rattle.bed_condition_text.proofs.list.push_each_after.Given as goal

abbrev pub invariant-loop-item : goal.invariant-loop-item
invariant-loop-item g l =
    l.out.items ++ each_after l.mark g.T.Written.text (drop l.item-index l.items) ≡ l.fn.out.items ++ each_after l.mark g.T.Written.text l.items
