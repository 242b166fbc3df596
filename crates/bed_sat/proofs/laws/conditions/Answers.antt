use Rattle.bed_sat.proofs.WrittenLaws.{list_loops_are_written}
use Rattle.bed_sat.proofs.WrittenCode.{code_is_same}
use Rattle.bed_sat.proofs.WrittenParts.{paths_are_same}
use Rattle.bed_sat.proofs.PathLaws.{paths_end, negations_decide, returns_owe_one, operands_are_terms}
use Rattle.bed_sat.proofs.LivePaths.{paths_go_on}
use Rattle.bed_sat.proofs.laws.conditions.Goals as goal

pub returns-clause-written : goal.returns-clause-written
returns-clause-written c = list_loops_are_written

pub returns-clause-paths : goal.returns-clause-paths
returns-clause-paths c = paths_end

pub returns-clause-returns : goal.returns-clause-returns
returns-clause-returns c = returns_owe_one

pub returns-clause-operands : goal.returns-clause-operands
returns-clause-operands c = operands_are_terms

pub returns-clause-code : goal.returns-clause-code
returns-clause-code c = code_is_same

pub returns-clause-negations : goal.returns-clause-negations
returns-clause-negations c = negations_decide

pub returns-clause-live_paths : goal.returns-clause-live_paths
returns-clause-live_paths c = paths_go_on

pub returns-clause-same_paths : goal.returns-clause-same_paths
returns-clause-same_paths c = paths_are_same
