use Rattle.std.proofs.Common.{refl}
use Rattle.bed_chain.specs.Freed.{IsDecided}
use Rattle.bed_chain.proofs.FreeLemmas.{chain_of, cycle_of, point_of, args_of, freed_of}
use Rattle.bed_chain.proofs.graph.decided.Goals as goal

pub returns-in-Chain : goal.returns-in-Chain
returns-in-Chain c =
    IsDecided.by_chain c.in-Chain.places (chain_of _ c.args.links.now.edges c.args.goal.now c.in_ok-places.field-0 c.in-Chain.places c.as_slice.ensures c.in-Chain.is c.in_ok-places.ensures.chain)
    (args_of c.as_slice-labels.result.now c.args.links.now.labels c.as_slice-in-Chain.result.now c.in-Chain.places c.in_ok-chain_args-in-Chain.field-0 c.as_slice-labels.ensures c.as_slice-in-Chain.ensures c.in_ok-chain_args-in-Chain.ensures)

pub returns-in-Cycle : goal.returns-in-Cycle
returns-in-Cycle c =
    let r = c.in_ok-cycle_args-in-Cycle.ensures in
    IsDecided.by_cycle c.in-Cycle.places r.0 (cycle_of _ c.args.links.now.edges c.in_ok-places.field-0 c.in-Cycle.places c.as_slice.ensures c.in-Cycle.is c.in_ok-places.ensures.cycle) (freed_of c.as_slice-labels.result.now c.args.links.now.labels c.as_slice-in-Cycle.result.now c.in-Cycle.places r.0 c.as_slice-labels.ensures c.as_slice-in-Cycle.ensures r.1) (args_of c.as_slice-labels.result.now c.args.links.now.labels r.0 r.0 c.in_ok-cycle_args-in-Cycle.field-0 c.as_slice-labels.ensures refl r.2)

pub returns : goal.returns
returns c =
    IsDecided.by_point c.in-Point.field-0 (point_of c.args.nodes _ c.args.links.now.edges c.args.goal.now c.in_ok-places.field-0 c.in-Point.field-0 c.as_slice.ensures c.in-Point.is c.in_ok-places.ensures.point) refl
