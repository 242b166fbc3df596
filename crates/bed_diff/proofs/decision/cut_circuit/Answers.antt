use Rattle.std.proofs.Common.{refl}
use Rattle.std.proofs.lemmas.List.{take_rest}
use Rattle.bed_diff.proofs.ClosingLemmas.{cycle_without, chain_without}
use Rattle.bed_diff.proofs.decision.cut_circuit.Goals as goal

pub returns-in-None-clause-cycle : goal.returns-in-None-clause-cycle
returns-in-None-clause-cycle c =
    rw c.from_vec.ensures
    (cycle_without c.args.edges.now _ c.args.walk.items c.requires (rw c.deref.ensures.value at c.in-None.ensures.none))

pub returns-in_ok-extend_from_slice-in-Some-clause-chain : goal.returns-in_ok-extend_from_slice-in-Some-clause-chain
returns-in_ok-extend_from_slice-in-Some-clause-chain c =
    let found = c.in-Some.ensures.found in
    let d = c.deref.ensures.value in
    rw (
      c.from_vec-in-Some.ensures,
      c.in_ok-extend_from_slice-in-Some.ensures.items,
      c.in_ok-chain-in-Some.ensures.items,
      c.deref-in-Some.ensures.value,
      c.deref-in-Some-2.ensures.value,
      take_rest,
    )
    (chain_without c.args.edges.now c.args.goal.now _ c.args.walk.items c.in-Some.at refl refl refl
    (rw d at found.0) (rw d at found.1) c.requires)
