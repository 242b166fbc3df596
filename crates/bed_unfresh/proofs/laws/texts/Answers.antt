use Rattle.bed_unfresh.proofs.TextLaws.{texts_are_unfresh}
use Rattle.bed_unfresh.proofs.ResolvedLaws.{resolved_are_unfresh}
use Rattle.bed_unfresh.proofs.OwedLaws.{declarations_are_unfresh, conditions_are_unfresh}
use Rattle.bed_unfresh.proofs.laws.texts.Goals as goal

pub returns-clause-texts : goal.returns-clause-texts
returns-clause-texts c = texts_are_unfresh

pub returns-clause-resolved : goal.returns-clause-resolved
returns-clause-resolved c = resolved_are_unfresh

pub returns-clause-declarations : goal.returns-clause-declarations
returns-clause-declarations c = declarations_are_unfresh

pub returns-clause-conditions : goal.returns-clause-conditions
returns-clause-conditions c = conditions_are_unfresh c.conditions.ensures.same_paths
