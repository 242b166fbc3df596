use Rattle.std.proofs.Common.{map, ap}
use Rattle.bed_top.specs.Gives.{written_of, end_of}
use Rattle.bed_top.proofs.CallLemmas.{act_failed}
use Rattle.bed_top.proofs.call.act.Goals as goal

pub returns-in-Err-clause-acts : goal.returns-in-Err-clause-acts
returns-in-Err-clause-acts g c =
    act_failed (end_of c.args.plan) _ _ _ c.write_all.result c.in-Err.fault _ (ap (map written_of) c.deref.ensures.value) c.in-Err.is c.write_all.ensures c.give_up.ensures
