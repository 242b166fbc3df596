use Rattle.std.proofs.Common.{arith}
use Rattle.bed_top.proofs.CallLemmas.{plan_end}
use Rattle.bed_top.proofs.ReturnLemmas.{is_short}
use Rattle.bed_top.proofs.judge.plan_link.Goals as goal

pub link_write-requires : goal.link_write-requires
link_write-requires c = let short = is_short c.args.linked c.requires.built c.requires.kept c.requires.few in omega (arith, short)

pub returns : goal.returns
returns c =
    let short = is_short c.args.linked c.requires.built c.requires.kept c.requires.few in
    plan_end c.args.job.now c.args.linked c.len-functions.result c.code_length-bytes.result c.in_ok-write.write c.plan_of.result c.len-functions.ensures
    (let is = c.code_length-bytes.ensures in omega (arith, short, is)) c.in_ok-write.ensures c.plan_of.ensures
