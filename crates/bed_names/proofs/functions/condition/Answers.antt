use Rattle.std.proofs.Common.{◌∙◌, ap}
use Rattle.bed_names.specs.Faults.{noted}
use Rattle.bed_names.specs.Terms.{assertion_faults}
use Rattle.bed_names.proofs.functions.condition.Goals as goal

pub returns : goal.returns
returns c = c.assertion.ensures ∙ ap (λ v. noted c.args.found (assertion_faults v c.args.a.now)) c.outer_of.ensures
