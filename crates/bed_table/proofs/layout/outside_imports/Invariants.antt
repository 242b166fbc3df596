use Rattle.std.proofs.Common.{◌≡◌, [], drop, map}
use Rattle.bed_table.specs.Layout.{outside_names, imported}
use Rattle.bed_table.specs.Seen.{defined_of}
use Rattle.bed_table.proofs.layout.outside_imports.Given as goal

abbrev pub invariant-loop-module : goal.invariant-loop-module
invariant-loop-module l = outside_names (map defined_of l.functions) (map (λ n. n.now) l.seen.items) (imported (drop l.module-index l.modules))
    ≡ outside_names (map defined_of l.functions) [] (imported l.modules)
