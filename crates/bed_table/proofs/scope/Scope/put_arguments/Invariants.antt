use Rattle.std.proofs.Common.{◌≡◌, ◌+◌, ◌*◌, ◌++◌, drop}
use Rattle.bed_lang.specs.Numbers.{wrap}
use Rattle.bed_table.specs.Words.{call_area}
use Rattle.bed_table.specs.CodeTable.{arguments_bytes}
use Rattle.bed_table.specs.Seen.{names_in, labels_in}
use Rattle.bed_table.proofs.scope.Scope.put_arguments.Given as goal

abbrev pub invariant-loop-a : goal.invariant-loop-a
invariant-loop-a l =
    (l.slot ≡ wrap (call_area (names_in l.self) + (4 + 4 * l.a-index)))
    × (l.out.items ++ arguments_bytes (names_in l.self) (labels_in l.self) l.a-index (drop l.a-index l.arguments)
    ≡ l.initial.out.items ++ arguments_bytes (names_in l.self) (labels_in l.self) 0 l.arguments)
