-- The facts of an invariant beside those on the list: with a key, that no node before this one has it.
use Rattle.std.specs.Prelude.{Option, Some, None, List, []}
use Rattle.bed_lang.specs.declared.word.Name.{Name}
use Rattle.bed_lang.specs.declared.module.Operand.{Operand}
use Rattle.bed_lang.specs.declared.logic.Term.{Term}
use Rattle.bed_table.specs.ListLoops.{not_yet}

abbrev pub facts_if : Option Operand → Name → List Term
facts_if None u = []
facts_if (Some a) u = not_yet a u
