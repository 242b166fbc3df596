use Rattle.bed_check_cond.proofs.AcceptedLaws.{accepted_valid}
use Rattle.bed_check_cond.proofs.condition.check.Goals as goal

pub returns-clause-sound : goal.returns-clause-sound
returns-clause-sound c =
    accepted_valid c.args.decls.now c.args.c.now c.args.d.now c.checked_tree.result c.requires.declarations c.requires.condition c.requires.sizes c.checked_tree.ensures
