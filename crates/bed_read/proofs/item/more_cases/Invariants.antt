use Rattle.std.proofs.Common.{◌≡◌, ◌++◌, ◌∷◌}
use Rattle.bed_grammar.specs.Parsing.{outcome_map}
use Rattle.bed_read.specs.Written.{Cases}
use Rattle.bed_read.specs.Tables.{read}
use Rattle.bed_read.proofs.item.more_cases.Given as goal

abbrev pub invariant-loop-alloc : goal.invariant-loop-alloc
invariant-loop-alloc l = outcome_map (λ xs. l.out ++ xs) (read (Cases l.left) l.rest) ≡ outcome_map (λ xs. l.fn.first ∷ xs) (read (Cases l.fn.most) l.fn.tokens)

abbrev pub decreases-loop-alloc : goal.decreases-loop-alloc
decreases-loop-alloc l = l.left
