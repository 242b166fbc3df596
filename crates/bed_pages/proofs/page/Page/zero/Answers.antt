use Rattle.std.proofs.Common.{◌≡◌, None, slice_index_or, ap, ◌∙◌, arith}
use Rattle.bed_pages.specs.Zeros.{zeroed_between}
use Rattle.bed_pages.proofs.page.Page.zero.Goals as goal

pub returns : goal.returns
returns c = λ i.
    let done : c.loop-i.i ≡ c.args.to = omega (arith, c.loop-i.auto.i-end) in
    c.loop-i.invariant.cells i ∙ ap (λ n. zeroed_between c.args.from n i (slice_index_or c.args.self.now.cells.items i None)) done
