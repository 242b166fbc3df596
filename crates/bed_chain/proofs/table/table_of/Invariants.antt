use Rattle.std.proofs.Common.{◌≡◌, ◌≤◌, drop, length}
use Rattle.bed_chain.specs.Graph.{all_words, nodes_of}
use Rattle.bed_chain.specs.Tables.{IsTable}
use Rattle.bed_chain.proofs.table.table_of.Given as goal

abbrev pub invariant-loop-left : goal.invariant-loop-left
invariant-loop-left l = (l.left ≤ length l.facts) × IsTable l.table × (l.table.words ≡ nodes_of (all_words (drop l.left l.facts)))

abbrev pub decreases-loop-left : goal.decreases-loop-left
decreases-loop-left l = l.left
