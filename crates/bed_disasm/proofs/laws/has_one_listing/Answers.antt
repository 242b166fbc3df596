use Rattle.bed_disasm.proofs.ListingLaws.{one_listing, a_listing}
use Rattle.bed_disasm.proofs.laws.has_one_listing.Goals as goal

pub returns-clause-only : goal.returns-clause-only
returns-clause-only c = one_listing c.args._i.now

pub returns-clause-there : goal.returns-clause-there
returns-clause-there c = a_listing c.args._i.now
