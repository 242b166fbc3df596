use Rattle.bed_chain.specs.Graph.{all_links}
use Rattle.bed_chain.proofs.FreeLemmas.{edges_within}
use Rattle.bed_chain.proofs.AnswerLemmas.{links_are_good}
use Rattle.bed_chain.proofs.graph.over.Goals as goal

pub decided-requires-clause-edges : goal.decided-requires-clause-edges
decided-requires-clause-edges c =
    let ws = c.args.table.now.words in
    edges_within c.args.s.now ws c.args.table.now.forms c.in_ok-links.links.edges c.len.result (all_links c.args.s.now ws) (links_are_good c.args.s.now ws c.requires.facts) c.requires.table c.in_ok-links.ensures.edges c.len.ensures
