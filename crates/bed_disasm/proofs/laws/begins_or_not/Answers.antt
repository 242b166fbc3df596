use Rattle.bed_disasm.proofs.ListingLaws.{begins_or_not}
use Rattle.bed_disasm.proofs.laws.begins_or_not.Goals as goal

pub returns : goal.returns
returns c = begins_or_not c.args._bytes.now
