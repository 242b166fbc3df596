use Rattle.std.proofs.Common.{◌≡◌, ◌++◌, ◌∷◌, length}
use Rattle.bed_grammar.specs.Parsing.{outcome_map}
use Rattle.bed_read.specs.Written.{MoreOperands}
use Rattle.bed_read.specs.Tables.{read}
use Rattle.bed_read.proofs.operand.more_operands.Given as goal

abbrev pub invariant-loop-alloc : goal.invariant-loop-alloc
invariant-loop-alloc l = outcome_map (λ xs. l.out ++ xs) (read MoreOperands l.rest) ≡ outcome_map (λ xs. l.fn.first ∷ xs) (read MoreOperands l.fn.tokens)

abbrev pub decreases-loop-alloc : goal.decreases-loop-alloc
decreases-loop-alloc l = length l.rest
