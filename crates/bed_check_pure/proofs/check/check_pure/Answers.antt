use Rattle.bed_check_pure.proofs.AcceptedLaws.{accepted_follows}
use Rattle.bed_check_pure.proofs.check.check_pure.Goals as goal

pub returns-clause-sound : goal.returns-clause-sound
returns-clause-sound c = accepted_follows c.args.decls.now c.args.s.now c.args.goal.now c.args.d.now c.check_tree.result c.check_tree.ensures
