use Rattle.std.proofs.Common.{◌≡◌, ◌++◌, ◌∷◌}
use Rattle.bed_grammar.specs.Parsing.{outcome_map}
use Rattle.bed_read.specs.Written.{Names}
use Rattle.bed_read.specs.Tables.{read}
use Rattle.bed_read.proofs.declaration.more_names.Given as goal

abbrev pub invariant-loop-alloc : goal.invariant-loop-alloc
invariant-loop-alloc l = outcome_map (λ xs. l.out ++ xs) (read (Names l.limit l.left) l.rest) ≡ outcome_map (λ xs. l.fn.first ∷ xs) (read (Names l.limit l.fn.most) l.fn.tokens)

abbrev pub decreases-loop-alloc : goal.decreases-loop-alloc
decreases-loop-alloc l = l.left
