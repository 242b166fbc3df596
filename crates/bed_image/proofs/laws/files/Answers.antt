use Rattle.bed_image.proofs.FileLaws.{one_image, no_fault, one_fault, an_answer}
use Rattle.bed_image.proofs.laws.files.Goals as goal

pub returns-clause-one_image : goal.returns-clause-one_image
returns-clause-one_image c = one_image c.args._bytes.now

pub returns-clause-no_fault : goal.returns-clause-no_fault
returns-clause-no_fault c = no_fault c.args._bytes.now

pub returns-clause-one_fault : goal.returns-clause-one_fault
returns-clause-one_fault c = one_fault c.args._bytes.now

pub returns-clause-an_answer : goal.returns-clause-an_answer
returns-clause-an_answer c = an_answer c.args._bytes.now
