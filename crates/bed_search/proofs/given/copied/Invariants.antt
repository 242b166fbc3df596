use Rattle.std.proofs.Common.{◌≡◌, ◌++◌, drop}
use Rattle.bed_search.proofs.given.copied.Given as goal

abbrev pub invariant-loop-give : goal.invariant-loop-give
invariant-loop-give l = l.out ++ drop l.give-index l.gives ≡ l.gives
