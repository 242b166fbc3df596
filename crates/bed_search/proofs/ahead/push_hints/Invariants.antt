use Rattle.std.proofs.Common.{◌≡◌, ◌++◌, drop}
use Rattle.bed_search.specs.Ahead.{hints_at}
use Rattle.bed_search.proofs.ahead.push_hints.Given as goal

abbrev pub invariant-loop-placed : goal.invariant-loop-placed
invariant-loop-placed l = l.out ++ hints_at (drop l.placed-index l.hints) l.n ≡ l.fn.out ++ hints_at l.hints l.n
