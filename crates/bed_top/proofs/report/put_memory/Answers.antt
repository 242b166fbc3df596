use Rattle.std.proofs.Common.{refl}
use Rattle.bed_top.proofs.ReportLemmas.{memory_unsaid, sink_goes}
use Rattle.bed_top.proofs.report.put_memory.Goals as goal

pub returns-in-Err-clause-put : goal.returns-in-Err-clause-put
returns-in-Err-clause-put g c = memory_unsaid _ _ _ c.put.result _ refl c.in-Err.is c.put.ensures

pub returns-in-Err-clause-goes_on : goal.returns-in-Err-clause-goes_on
returns-in-Err-clause-goes_on g c = sink_goes _ _ _ c.put.result c.put.ensures

pub returns-in-Ok-clause-goes_on : goal.returns-in-Ok-clause-goes_on
returns-in-Ok-clause-goes_on g c = sink_goes _ _ _ c.put.result c.put.ensures
