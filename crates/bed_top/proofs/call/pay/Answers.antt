use Rattle.std.proofs.Common.{map, subst, sym}
use Rattle.bed_top.specs.Lines.{text_of}
use Rattle.bed_top.specs.Puts.{Put, Pays}
use Rattle.bed_top.specs.Outcomes.{owed_of}
use Rattle.bed_top.proofs.call.pay.Goals as goal

pub returns-in-Ended-clause-pays : goal.returns-in-Ended-clause-pays
returns-in-Ended-clause-pays g c =
    subst (λ o. Pays (owed_of o) (g.K.Sink.seen c.args.out.now) (g.K.Sink.seen c.report.new.out) c.report.result) (sym c.in-Ended.is) (subst (λ ls. Put (map text_of ls) c.in-Ended.status (g.K.Sink.seen c.args.out.now) (g.K.Sink.seen c.report.new.out) c.report.result) c.deref.ensures.value c.report.ensures.put)
