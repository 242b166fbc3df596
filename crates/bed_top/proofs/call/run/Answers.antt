use Rattle.std.proofs.Common.{[]}
use Rattle.bed_top.specs.Gives.{texts_of}
use Rattle.bed_top.specs.Outcomes.{owed_of}
use Rattle.bed_top.proofs.CallLemmas.{nothing_worked, nothing_goes, nothing_calm, link_calm}
use Rattle.bed_top.proofs.call.run.Goals as goal

pub returns-in-Ok : goal.returns-in-Ok
returns-in-Ok g c = record {
  texts = texts_of c.work-outcome.new.texts.items;
  owed = owed_of c.work-outcome.result;
  worked = c.work-outcome.ensures.worked _ c.in-Ok.ensures.asks;
  pays = c.pay.ensures.pays;
  goes_on = c.work-outcome.ensures.goes_on;
  sink_goes_on = c.pay.ensures.goes_on;
  calm = link_calm _ c.in-Ok.job _ _ c.in-Ok.ensures.asks (g.met.F.Files.calm_tells c.args.files.now) c.work-outcome.ensures.calm;
}

pub returns-in-Err : goal.returns-in-Err
returns-in-Err g c = record {
  texts = [];
  owed = owed_of c.refused.result;
  worked = nothing_worked _ (λ j. j) c.in-Err.stop _ _ c.in-Err.ensures.gives c.refused.ensures;
  pays = c.pay-in-Err.ensures.pays;
  goes_on = nothing_goes _;
  sink_goes_on = c.pay-in-Err.ensures.goes_on;
  calm = nothing_calm _ _;
}
