use Rattle.std.proofs.Common.{◌≡◌, drop}
use Rattle.bed_grammar.specs.Exact.{peek}
use Rattle.bed_grammar.specs.Tables.{class_at, has}
use Rattle.bed_read.specs.Classes.{class}
use Rattle.bed_read.proofs.token.looks_at_any.Given as goal

abbrev pub invariant-loop-wanted : goal.invariant-loop-wanted
invariant-loop-wanted l = has l.classes (class_at class (peek l.tokens)) ≡ has (drop l.wanted-index l.classes) (class_at class (peek l.tokens))
