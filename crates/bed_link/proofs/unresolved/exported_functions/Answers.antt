use Rattle.bed_link.proofs.FaultLemmas.{filtered_end}
use Rattle.bed_link.proofs.unresolved.exported_functions.Goals as goal

pub returns : goal.returns
returns c = filtered_end _ c.args.functions.now _ _ _ c.loop-part-test.false c.loop-part.invariant
