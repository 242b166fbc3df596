use Rattle.std.proofs.Common.{◌≡◌, take, map}
use Rattle.bed_names.proofs.declarations.function_labels.Given as goal

abbrev pub invariant-loop-f : goal.invariant-loop-f
invariant-loop-f l = l.labels ≡ map (λ f. (f.name, f.signature)) (take l.f-index l.functions)
