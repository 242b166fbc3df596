use Rattle.bed_sat.proofs.SameLaws.{holds_extends}
use Rattle.bed_sat.proofs.ExtensionLaws.{few_are_enough, conditions_stay_valid, modules_are_extended}
use Rattle.bed_sat.proofs.StartLaws.{starts_are_known, valid_among_all}
use Rattle.bed_sat.proofs.laws.declarations.Goals as goal

pub returns : goal.returns
returns c = record {
  more = λ few more codes labels x. holds_extends few more x codes labels;
  few = few_are_enough;
  conditions = conditions_stay_valid;
  modules = modules_are_extended;
  starts = starts_are_known;
  among_all = valid_among_all;
}
