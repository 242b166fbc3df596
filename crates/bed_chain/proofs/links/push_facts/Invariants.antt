use Rattle.std.proofs.Common.{◌≡◌, ◌++◌, length}
use Rattle.bed_chain.specs.Graph.{edges_of, labels_of, facts_links}
use Rattle.bed_chain.proofs.links.push_facts.Given as goal

abbrev pub invariant-loop-rest : goal.invariant-loop-rest
invariant-loop-rest l = record {
  edges : l.links.edges ++ edges_of l.forms (facts_links l.number l.rest) ≡ l.fn.links.edges ++ edges_of l.forms (facts_links 1 l.facts);
  labels : l.links.labels ++ labels_of (facts_links l.number l.rest) ≡ l.fn.links.labels ++ labels_of (facts_links 1 l.facts);
}

abbrev pub decreases-loop-rest : goal.decreases-loop-rest
decreases-loop-rest l = length l.rest
