-- The answer is the decoder's, which is exact.
use Rattle.bed_machine.proofs.Exactness.{answer-exact, answer-size, answer-within}
use Rattle.bed_machine.proofs.decoder.decode.Goals as goal

pub returns-clause-found : goal.returns-clause-found
returns-clause-found c = (answer-exact _ _ c.type_inv.bytes c.instruction.ensures).found

pub returns-clause-truncated : goal.returns-clause-truncated
returns-clause-truncated c = (answer-exact _ _ c.type_inv.bytes c.instruction.ensures).truncated

pub returns-clause-undefined : goal.returns-clause-undefined
returns-clause-undefined c = (answer-exact _ _ c.type_inv.bytes c.instruction.ensures).undefined

pub returns-clause-size : goal.returns-clause-size
returns-clause-size c = answer-size c.args.bytes.now _ (answer-exact _ _ c.type_inv.bytes c.instruction.ensures)

pub returns-clause-within : goal.returns-clause-within
returns-clause-within c = answer-within c.args.bytes.now _ (answer-exact _ _ c.type_inv.bytes c.instruction.ensures)
