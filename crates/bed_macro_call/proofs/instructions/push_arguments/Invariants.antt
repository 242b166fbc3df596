use Rattle.std.proofs.Common.{◌≡◌, ◌+◌, ◌*◌, ◌++◌, drop}
use Rattle.bed_lang.specs.Numbers.{wrap}
use Rattle.bed_table.specs.Words.{call_area}
use Rattle.bed_laws.specs.StatementBlocks.{argument_insts}
use Rattle.bed_macro.specs.Sites.{locals_in}
use Rattle.bed_macro_call.proofs.instructions.push_arguments.Given as goal

abbrev pub invariant-loop-argument : goal.invariant-loop-argument
invariant-loop-argument l =
    (l.slot ≡ wrap (call_area (locals_in l.site) + (4 + 4 * l.argument-index)))
    × (l.out ++ argument_insts (locals_in l.site) l.argument-index (drop l.argument-index l.arguments)
    ≡ l.initial.out ++ argument_insts (locals_in l.site) 0 l.arguments)
