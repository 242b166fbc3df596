use Rattle.bed_chain.specs.Freed.{IsFreed}
use Rattle.bed_chain.proofs.AnswerLemmas.{if_ok}
use Rattle.bed_chain.proofs.graph.freed.Goals as goal

pub returns-in-Some : goal.returns-in-Some
returns-in-Some c = let f = c.in-Some.ensures.found in if_ok c.turned.result (λ r e. IsFreed.turned c.in-Some.at f.0 f.1 e) c.turned.ensures
