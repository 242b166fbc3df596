use Rattle.std.proofs.Common.{◌≡◌, ◌++◌, drop, map}
use Rattle.bed_link.specs.Seen.{loop_at}
use Rattle.bed_link.proofs.linked.push_loops.Given as goal

abbrev pub invariant-loop-head : goal.invariant-loop-head
invariant-loop-head l = l.out ++ map (loop_at l.number) (drop l.head-index l.heads) ≡ l.initial.out ++ map (loop_at l.number) l.heads
