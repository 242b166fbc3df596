use Rattle.std.proofs.Common.{◌≡◌, ◌++◌, length}
use Rattle.bed_grammar.specs.Parsing.{outcome_map}
use Rattle.bed_read.specs.Written.{Functions}
use Rattle.bed_read.specs.Tables.{read}
use Rattle.bed_read.proofs.item.functions.Given as goal

abbrev pub invariant-loop-alloc : goal.invariant-loop-alloc
invariant-loop-alloc l = outcome_map (λ xs. l.out ++ xs) (read Functions l.rest) ≡ read Functions l.fn.tokens

abbrev pub decreases-loop-alloc : goal.decreases-loop-alloc
decreases-loop-alloc l = length l.rest
