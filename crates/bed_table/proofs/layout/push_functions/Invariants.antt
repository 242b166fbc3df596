use Rattle.std.proofs.Common.{◌≡◌, ◌++◌, drop, map}
use Rattle.bed_table.specs.Layout.{define}
use Rattle.bed_table.specs.Seen.{defined_of}
use Rattle.bed_table.proofs.layout.push_functions.Given as goal

abbrev pub invariant-loop-function : goal.invariant-loop-function
invariant-loop-function l = map defined_of l.out.items ++ map (define l.source.signatures) (drop l.function-index l.function-items)
    ≡ map defined_of l.initial.out.items ++ map (define l.source.signatures) l.source.functions
