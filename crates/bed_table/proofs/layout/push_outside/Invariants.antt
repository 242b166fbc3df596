use Rattle.std.proofs.Common.{◌≡◌, drop, map}
use Rattle.bed_table.specs.Layout.{outside_names}
use Rattle.bed_table.specs.Seen.{defined_of}
use Rattle.bed_table.proofs.layout.push_outside.Given as goal

abbrev pub invariant-loop-import : goal.invariant-loop-import
invariant-loop-import l = outside_names (map defined_of l.functions) (map (λ n. n.now) l.seen.items) (map (λ i. i.name) (drop l.import-index l.imports))
    ≡ outside_names (map defined_of l.functions) (map (λ n. n.now) l.initial.seen.items) (map (λ i. i.name) l.imports)
