use Rattle.std.proofs.Common.{◌≡◌, ◌++◌, drop}
use Rattle.bed_names.specs.Resolved.{resolved_args}
use Rattle.bed_names.proofs.resolving.terms.arguments.Given as goal

abbrev pub invariant-loop-a : goal.invariant-loop-a
invariant-loop-a l = l.out ++ resolved_args l.scope l.params (drop l.a-index l.args) ≡ resolved_args l.scope l.fn.params l.args
