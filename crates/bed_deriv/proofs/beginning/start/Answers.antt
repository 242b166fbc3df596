use Rattle.bed_deriv.proofs.StartLaws.{started-known_ok}
use Rattle.bed_deriv.proofs.beginning.start.Goals as goal

pub returns-clause-known : goal.returns-clause-known
returns-clause-known c = started-known_ok c.args.c.now c.args.decls.now c.opened_state.result c.requires.condition c.opened_state.ensures
