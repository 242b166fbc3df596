use Rattle.std.proofs.Common.{◌≡◌, drop}
use Rattle.bed_grammar.specs.Exact.{peek}
use Rattle.bed_grammar.specs.Tables.{class_at, has}
use Rattle.bed_grammar.proofs.tokens.looks_at_any.Given as goal

abbrev pub invariant-loop-class : goal.invariant-loop-class
invariant-loop-class g l = has l.classes (class_at g.T.Token.class_of (peek l.tokens)) ≡ has (drop l.class-index l.classes) (class_at g.T.Token.class_of (peek l.tokens))
