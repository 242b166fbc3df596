use Rattle.std.proofs.Common.{◌≡◌, ◌++◌, ◌∷◌, [], drop, map}
use Rattle.bed_read.specs.Classes.{LEFT_BRACE}
use Rattle.bed_print.specs.Kinds.{fixed, joined, stmt_kinds}
use Rattle.bed_print.proofs.statement.+statements.Given as goal

abbrev pub invariant-push_body-loop-stmt : goal.invariant-push_body-loop-stmt
invariant-push_body-loop-stmt l =
    l.out ++ joined (map stmt_kinds (drop l.stmt-index l.body)) ≡ (l.fn.out ++ fixed LEFT_BRACE ∷ []) ++ joined (map stmt_kinds l.body)
