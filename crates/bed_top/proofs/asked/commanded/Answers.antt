use Rattle.bed_top.proofs.LeafLemmas.{commanded_pass, commanded_stop}
use Rattle.bed_top.proofs.asked.commanded.Goals as goal

pub returns-in-Ok-clause-gives : goal.returns-in-Ok-clause-gives
returns-in-Ok-clause-gives c = λ texts. commanded_pass _ texts c.in-Ok.command c.in-Ok.ensures.ok.0 c.in-Ok.ensures.ok.1

pub returns-in-Err-clause-gives : goal.returns-in-Err-clause-gives
returns-in-Err-clause-gives c = λ texts. commanded_stop _ texts c.in-Err.error c.in-Err.ensures.usage c.in-Err.ensures.limit _ c.refuse.ensures
