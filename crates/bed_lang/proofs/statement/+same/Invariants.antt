use Rattle.std.proofs.Common.{◌≡◌, drop, map}
use Rattle.bed_lang.specs.Same.{accepts_all, same_stmt}
use Rattle.bed_lang.proofs.statement.+same.Given as goal

abbrev pub invariant-same_body-loop-x : goal.invariant-same_body-loop-x
invariant-same_body-loop-x l = accepts_all (map same_stmt (drop l.x-index l.a)) l.rest ≡ accepts_all (map same_stmt l.a) l.fn.b
