use Rattle.std.proofs.Common.{◌≡◌, ◌++◌, drop}
use Rattle.bed_solve.proofs.solution.args_copied.Given as goal

abbrev pub invariant-loop-arg : goal.invariant-loop-arg
invariant-loop-arg l = l.out ++ drop l.arg-index l.args ≡ l.args
