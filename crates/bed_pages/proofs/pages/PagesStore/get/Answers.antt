use Rattle.std.proofs.Common.{◌≡◌, ◌<◌, ◌%◌, Some, slice_index_or, sym, ap, ◌∙◌, arith}
use Rattle.bed_pages.proofs.PageLemmas.{get_is}
use Rattle.bed_pages.proofs.pages.PagesStore.get.Goals as goal

pub returns : goal.returns
returns c =
    get_is c.args.self.now c.in_ok-page.page.now c.args.at (Some c.in_ok-byte.byte) c.ranges.at.fits c.in_ok-page.ensures.value c.in_ok-page.page.now.whole
    (sym c.in_ok-byte.was ∙ (c.index.ensures ∙ ap (λ d. slice_index_or c.in_ok-page.page.now.cells.items (c.args.at % 4096) d) c.in_ok-byte.was))
    (λ v e. let small : c.in_ok-byte.byte < 256 = omega arith in let same : c.in_ok-byte.byte ≡ v = cc in omega arith)
