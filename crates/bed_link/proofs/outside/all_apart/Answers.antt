use Rattle.std.proofs.Common.{map}
use Rattle.std.proofs.lemmas.Result.{err_from_is_err_and}
use Rattle.bed_link.specs.Linkable.{address_fault}
use Rattle.bed_link.specs.Seen.{outside_of}
use Rattle.bed_link.proofs.FaultLemmas.{mapped_step, mapped_refused}
use Rattle.bed_link.proofs.outside.all_apart.Goals as goal

pub loop-import-preserved : goal.loop-import-preserved
loop-import-preserved c =
    mapped_step outside_of (address_fault c.args.base c.args.length (map outside_of c.args.imports.now)) c.args.imports.now c.loop-import.import-index
    c.import-item.result _ c.loop-import-test.true c.import-item.is c.in_ok-is_apart.ensures.accepted c.loop-import.invariant

pub returns-in_err-is_apart-clause-refused : goal.returns-in_err-is_apart-clause-refused
returns-in_err-is_apart-clause-refused c =
    let p = err_from_is_err_and c.from_residual.result c.from_residual.ensures.1 in
    rw (p.1, p.2) (λ no.
    mapped_refused outside_of (address_fault c.args.base c.args.length (map outside_of c.args.imports.now)) c.args.imports.now c.loop-import.import-index
    c.import-item.result _ _ c.loop-import-test.true c.import-item.is (c.in_err-is_apart.ensures.refused no) c.loop-import.invariant)
