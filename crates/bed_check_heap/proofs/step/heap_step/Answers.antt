use Rattle.bed_check_heap.proofs.AnswerLaws.{accepted_leads}
use Rattle.bed_check_heap.proofs.step.heap_step.Goals as goal

pub returns-clause-sound : goal.returns-clause-sound
returns-clause-sound c = accepted_leads c.args.decls.now c.args.s.now c.args.d.now c.checked_node.result c.checked_node.ensures
