use Rattle.bed_sat.proofs.ConditionExamples.{counting_example, joining_example}
use Rattle.bed_sat.proofs.ListLoopExamples.{finding_example, walking_example}
use Rattle.bed_sat.proofs.LivePaths.{live_bodies_example}
use Rattle.bed_sat.proofs.examples.conditions.Goals as goal

pub returns-clause-counting : goal.returns-clause-counting
returns-clause-counting c = counting_example

pub returns-clause-joining : goal.returns-clause-joining
returns-clause-joining c = joining_example

pub returns-clause-finding : goal.returns-clause-finding
returns-clause-finding c = finding_example

pub returns-clause-live : goal.returns-clause-live
returns-clause-live c = live_bodies_example

pub returns-clause-walking : goal.returns-clause-walking
returns-clause-walking c = walking_example
