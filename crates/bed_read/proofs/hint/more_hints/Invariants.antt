use Rattle.std.proofs.Common.{◌≡◌, ◌++◌, ◌∷◌, length}
use Rattle.bed_grammar.specs.Parsing.{outcome_map}
use Rattle.bed_read.specs.Written.{Hints}
use Rattle.bed_read.specs.Tables.{read}
use Rattle.bed_read.proofs.hint.more_hints.Given as goal

abbrev pub invariant-loop-alloc : goal.invariant-loop-alloc
invariant-loop-alloc l = outcome_map (λ xs. l.out ++ xs) (read Hints l.rest) ≡ outcome_map (λ xs. l.fn.first ∷ xs) (read Hints l.fn.tokens)

abbrev pub decreases-loop-alloc : goal.decreases-loop-alloc
decreases-loop-alloc l = length l.rest
