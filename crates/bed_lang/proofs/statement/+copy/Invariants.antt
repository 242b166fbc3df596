use Rattle.std.proofs.Common.{◌≡◌, take}
use Rattle.bed_lang.proofs.statement.+copy.Given as goal

abbrev pub invariant-copy_body-loop-item : goal.invariant-copy_body-loop-item
invariant-copy_body-loop-item l = l.out ≡ take l.item-index l.body
