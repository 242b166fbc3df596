use Rattle.bed_top.proofs.LeafLemmas.{link_asks}
use Rattle.bed_top.proofs.StageLemmas.{stopped, went}
use Rattle.bed_top.proofs.asked.asked.Goals as goal

pub returns-in_err-command-clause-gives : goal.returns-in_err-command-clause-gives
returns-in_err-command-clause-gives c = λ texts. stopped c.from_residual.ensures.1 (c.in_err-command.ensures.gives texts)

pub returns-clause-gives : goal.returns-clause-gives
returns-clause-gives c = λ texts. went (c.in_ok-command.ensures.gives texts) (c.link_of.ensures.gives texts)

pub returns-clause-asks : goal.returns-clause-asks
returns-clause-asks c = link_asks _ _ c.link_of.result c.in_ok-command.ensures.command.0 c.in_ok-command.ensures.command.1 c.link_of.ensures.link
