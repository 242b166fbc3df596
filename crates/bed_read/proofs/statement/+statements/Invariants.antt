use Rattle.std.proofs.Common.{◌≡◌, ◌++◌, ◌+◌, ◌*◌, length}
use Rattle.bed_grammar.specs.Parsing.{outcome_map}
use Rattle.bed_read.specs.Written.{Statements}
use Rattle.bed_read.specs.Tables.{read}
use Rattle.bed_read.proofs.statement.+statements.Given as goal

abbrev pub decreases-statements : goal.decreases-statements
decreases-statements l = l.depth * 8 + 6

abbrev pub decreases-statement : goal.decreases-statement
decreases-statement l = l.depth * 8 + 5

abbrev pub decreases-if_statement : goal.decreases-if_statement
decreases-if_statement l = l.depth * 8 + 4

abbrev pub decreases-while_statement : goal.decreases-while_statement
decreases-while_statement l = l.depth * 8 + 4

abbrev pub decreases-find_statement : goal.decreases-find_statement
decreases-find_statement l = l.depth * 8 + 4

abbrev pub decreases-walk_statement : goal.decreases-walk_statement
decreases-walk_statement l = l.depth * 8 + 4

abbrev pub decreases-else_body : goal.decreases-else_body
decreases-else_body l = l.depth * 8 + 1

abbrev pub decreases-body : goal.decreases-body
decreases-body l = l.depth * 8

abbrev pub decreases-else_and_join : goal.decreases-else_and_join
decreases-else_and_join l = l.depth * 8 + 2

abbrev pub decreases-invariant_and_body : goal.decreases-invariant_and_body
decreases-invariant_and_body l = l.depth * 8 + 1

abbrev pub decreases-over_and_body : goal.decreases-over_and_body
decreases-over_and_body l = l.depth * 8 + 1

abbrev pub decreases-key_and_body : goal.decreases-key_and_body
decreases-key_and_body l = l.depth * 8 + 2

abbrev pub invariant-statements-loop-alloc : goal.invariant-statements-loop-alloc
invariant-statements-loop-alloc l = outcome_map (λ xs. l.out ++ xs) (read (Statements l.depth) l.rest) ≡ read (Statements l.depth) l.fn.tokens

abbrev pub decreases-statements-loop-alloc : goal.decreases-statements-loop-alloc
decreases-statements-loop-alloc l = length l.rest
