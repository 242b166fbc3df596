use Rattle.bed_sat.proofs.LinkExamples.{counting_link_example, importing_link_example, two_modules_link_example}
use Rattle.bed_sat.proofs.examples.links.Goals as goal

pub returns-clause-counting : goal.returns-clause-counting
returns-clause-counting c = counting_link_example

pub returns-clause-importing : goal.returns-clause-importing
returns-clause-importing c = importing_link_example

pub returns-clause-two_modules : goal.returns-clause-two_modules
returns-clause-two_modules c = two_modules_link_example
