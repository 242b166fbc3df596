use Rattle.std.proofs.Common.{◌≡◌, ◌+◌, length}
use Rattle.bed_chain.specs.Graph.{place_from, place_of}
use Rattle.bed_chain.proofs.table.place_of.Given as goal

abbrev pub invariant-loop-rest : goal.invariant-loop-rest
invariant-loop-rest l = (place_from l.place l.form l.rest ≡ place_of l.form l.forms) × (l.place + length l.rest ≡ length l.forms)

abbrev pub decreases-loop-rest : goal.decreases-loop-rest
decreases-loop-rest l = length l.rest
