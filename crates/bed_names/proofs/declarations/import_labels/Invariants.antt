use Rattle.std.proofs.Common.{◌≡◌, take, map}
use Rattle.bed_names.proofs.declarations.import_labels.Given as goal

abbrev pub invariant-loop-i : goal.invariant-loop-i
invariant-loop-i l = l.labels ≡ map (λ i. (i.name, i.signature)) (take l.i-index l.imports)
