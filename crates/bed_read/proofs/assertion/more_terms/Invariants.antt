use Rattle.std.proofs.Common.{◌≡◌, ◌++◌, ◌∷◌}
use Rattle.bed_grammar.specs.Parsing.{outcome_map}
use Rattle.bed_read.specs.Written.{Terms}
use Rattle.bed_read.specs.Tables.{read}
use Rattle.bed_read.proofs.assertion.more_terms.Given as goal

abbrev pub invariant-loop-alloc : goal.invariant-loop-alloc
invariant-loop-alloc l = outcome_map (λ xs. l.out ++ xs) (read (Terms l.left) l.rest) ≡ outcome_map (λ xs. l.fn.first ∷ xs) (read (Terms l.fn.most) l.fn.tokens)

abbrev pub decreases-loop-alloc : goal.decreases-loop-alloc
decreases-loop-alloc l = l.left
