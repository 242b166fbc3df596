use Rattle.std.proofs.Common.{◌/◌}
use Rattle.bed_pages.specs.declared.pages.Pages.{Pages}
use Rattle.bed_pages.proofs.PageLemmas.{replaced, set_is, is_mapped, on_true}
use Rattle.bed_pages.proofs.pages.PagesStore.set.Goals as goal

pub returns-in-Some-clause-mapped : goal.returns-in-Some-clause-mapped
returns-in-Some-clause-mapped c = is_mapped c.args.self.now c.in-Some.page.now c.args.at c.set.result (c.ranges.at.fits) c.in-Some.ensures.value c.set.ensures.mapped

pub returns-in-Some-clause-set : goal.returns-in-Some-clause-set
returns-in-Some-clause-set c =
    let after : Pages = record { alloc = c.args.self.now.alloc; pages = c.get_mut.follows.lender c.set.new.self } in
    on_true c.set.result (λ put. set_is c.args.self.now after c.in-Some.page.now c.set.new.self c.args.at c.args.byte
    (replaced c.args.self.now after (c.args.at / 4096) c.in-Some.page.now c.set.new.self c.in-Some.ensures.value (c.get_mut.follows.holds c.set.new.self))
    c.ranges.at.fits c.in-Some.page.now.whole put)
    c.set.ensures.put
