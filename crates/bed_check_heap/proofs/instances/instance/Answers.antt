use Rattle.bed_check_heap.proofs.AnswerLaws.{accepted_meets}
use Rattle.bed_check_heap.proofs.instances.instance.Goals as goal

pub returns-clause-sound : goal.returns-clause-sound
returns-clause-sound c =
    accepted_meets c.args.decls.now c.args.s.now c.args.goal.now c.args.values.now c.args.d.now c.matched.result c.matched.ensures
