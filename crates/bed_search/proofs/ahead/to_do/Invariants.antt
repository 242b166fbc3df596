use Rattle.std.proofs.Common.{◌≡◌, ◌++◌, drop}
use Rattle.bed_search.specs.Ahead.{along}
use Rattle.bed_search.proofs.ahead.to_do.Given as goal

abbrev pub invariant-loop-n : goal.invariant-loop-n
invariant-loop-n l = l.out ++ along l.c.hints l.n (drop l.n l.c.actions) l.c.goal ≡ along l.c.hints 0 l.c.actions l.c.goal
