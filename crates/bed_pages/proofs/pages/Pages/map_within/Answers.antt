use Rattle.std.proofs.Common.{◌+◌, ◌*◌, ap, ◌∙◌}
use Rattle.bed_pages.specs.Zeros.{with_zeros}
use Rattle.bed_pages.specs.declared.pages.Pages.{Pages}
use Rattle.bed_pages.proofs.PageLemmas.{replaced, zero_is}
use Rattle.bed_pages.proofs.pages.Pages.map_within.Goals as goal

pub returns-in-Some-clause-mapped : goal.returns-in-Some-clause-mapped
returns-in-Some-clause-mapped c =
    let before : Pages = c.add_page.new.self in
    let after : Pages = record { alloc = c.add_page.new.self.alloc; pages = c.get_mut.follows.lender c.zero.new.self } in
    zero_is before after c.args.number c.args.offset c.args.size c.in-Some.page.now c.zero.new.self
    (replaced before after c.args.number c.in-Some.page.now c.zero.new.self c.in-Some.ensures.value (c.get_mut.follows.holds c.zero.new.self))
    c.requires.within c.requires.addressed c.zero.ensures
    ∙ ap (λ m. with_zeros m (4096 * c.args.number + c.args.offset) c.args.size) c.in_ok-add_page.ensures.kept
