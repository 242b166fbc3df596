use Rattle.bed_names.specs.Modules.{signature_faults}
use Rattle.bed_names.proofs.NotedLemmas.{all_step}
use Rattle.bed_names.proofs.items.signatures.Goals as goal

pub loop-s-preserved : goal.loop-s-preserved
loop-s-preserved c =
    all_step (signature_faults c.args.declared.now) c.loop-s.found c.signature-found.result _ c.args.items.now c.loop-s.s-index
    c.s-item.result c.loop-s-test.true c.s-item.is c.signature-found.ensures c.loop-s.invariant
