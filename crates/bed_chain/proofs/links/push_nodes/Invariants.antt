use Rattle.std.proofs.Common.{◌≡◌, ◌++◌, ◌-◌, ◌≤◌, drop, length}
use Rattle.bed_chain.specs.Graph.{edges_of, labels_of, nodes_links}
use Rattle.bed_chain.proofs.links.push_nodes.Given as goal

abbrev pub invariant-loop-at : goal.invariant-loop-at
invariant-loop-at l = record {
  within : l.at ≤ length l.table.words;
  edges : l.links.edges ++ edges_of l.table.forms (nodes_links l.next (drop l.at l.table.words)) ≡ l.fn.links.edges ++ edges_of l.table.forms (nodes_links l.next l.table.words);
  labels : l.links.labels ++ labels_of (nodes_links l.next (drop l.at l.table.words)) ≡ l.fn.links.labels ++ labels_of (nodes_links l.next l.table.words);
}

abbrev pub decreases-loop-at : goal.decreases-loop-at
decreases-loop-at l = length l.table.words - l.at
