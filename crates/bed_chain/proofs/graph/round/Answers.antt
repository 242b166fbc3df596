use Rattle.std.proofs.Common.{refl}
use Rattle.bed_chain.specs.Freed.{IsRound}
use Rattle.bed_chain.proofs.FreeLemmas.{round_cycle, chain_of, cycle_of, point_of, args_of, freed_of}
use Rattle.bed_chain.proofs.graph.round.Goals as goal

pub returns-in-Chain : goal.returns-in-Chain
returns-in-Chain c =
    let r = c.in_ok-cycle_args-in-Chain.ensures in
    let chain = chain_of _ c.args.links.now.edges c.args.goal.now c.in_ok-places.field-0 c.in-Chain.places c.as_slice.ensures c.in-Chain.is c.in_ok-places.ensures.chain in
    IsRound.by_cycle c.in-Chain.places r.0 (round_cycle c.args.links.now.edges c.args.goal.now c.in-Chain.places c.requires.closed c.requires.negative chain) (freed_of c.as_slice-labels.result.now c.args.links.now.labels c.as_slice-in-Chain.result.now c.in-Chain.places r.0 c.as_slice-labels.ensures c.as_slice-in-Chain.ensures r.1) (args_of c.as_slice-labels.result.now c.args.links.now.labels r.0 r.0 c.in_ok-cycle_args-in-Chain.field-0 c.as_slice-labels.ensures refl r.2)

pub returns-in-Cycle : goal.returns-in-Cycle
returns-in-Cycle c =
    let r = c.in_ok-cycle_args-in-Cycle.ensures in
    IsRound.by_cycle c.in-Cycle.places r.0 (cycle_of _ c.args.links.now.edges c.in_ok-places.field-0 c.in-Cycle.places c.as_slice.ensures c.in-Cycle.is c.in_ok-places.ensures.cycle) (freed_of c.as_slice-labels.result.now c.args.links.now.labels c.as_slice-in-Cycle.result.now c.in-Cycle.places r.0 c.as_slice-labels.ensures c.as_slice-in-Cycle.ensures r.1) (args_of c.as_slice-labels.result.now c.args.links.now.labels r.0 r.0 c.in_ok-cycle_args-in-Cycle.field-0 c.as_slice-labels.ensures refl r.2)

pub returns : goal.returns
returns c =
    IsRound.by_point c.in-Point.field-0 (point_of c.args.nodes _ c.args.links.now.edges c.args.goal.now c.in_ok-places.field-0 c.in-Point.field-0 c.as_slice.ensures c.in-Point.is c.in_ok-places.ensures.point) refl
