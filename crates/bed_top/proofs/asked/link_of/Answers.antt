use Rattle.std.proofs.Common.{sym}
use Rattle.bed_top.proofs.LeafLemmas.{asked_pass, asked_stop}
use Rattle.bed_top.proofs.asked.link_of.Goals as goal

pub returns-in-Some-clause-gives : goal.returns-in-Some-clause-gives
returns-in-Some-clause-gives c = λ texts. asked_stop _ texts c.args.command c.in-Some.what.now (sym c.in-Some.ensures) _ c.refuse_unbuilt.ensures

pub returns-in-None-clause-gives : goal.returns-in-None-clause-gives
returns-in-None-clause-gives c = λ texts. asked_pass _ texts c.args.command c.job_of.result c.job_of.ensures (sym c.in-None.ensures)
