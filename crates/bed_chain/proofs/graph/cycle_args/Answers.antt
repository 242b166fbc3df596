use Rattle.std.proofs.Common.{◌∙◌, ap}
use Rattle.bed_chain.specs.Freed.{chain_args}
use Rattle.bed_chain.proofs.AnswerLemmas.{if_ok}
use Rattle.bed_chain.proofs.graph.cycle_args.Goals as goal

pub returns : goal.returns
returns c = if_ok c.chain_args.result (λ r e. (c.in_ok-places.places.items, c.in_ok-places.ensures, e ∙ ap (chain_args c.args.labels.now) c.deref.ensures.value)) c.chain_args.ensures
