use Rattle.std.proofs.Common.{◌+◌, ◌*◌, ◌/◌, ◌%◌, ℕ, ap, ◌∙◌, arith}
use Rattle.bed_pages.specs.Zeros.{with_zeros}
use Rattle.bed_pages.proofs.PageLemmas.{zeros_more}
use Rattle.bed_pages.proofs.pages.Pages.map.Goals as goal

pub loop-done-preserved : goal.loop-done-preserved
loop-done-preserved c =
    let next : ℕ = c.args.at + c.loop-done.done in
    record {
      within = omega (arith, c.min-size.ensures);
      mapped = c.in_ok-map_within.ensures.mapped ∙ (ap (λ m. with_zeros m (4096 * (next / 4096) + next % 4096) c.min-size.result) c.loop-done.invariant.mapped
          ∙ zeros_more _ c.args.at (4096 * (next / 4096) + next % 4096) c.loop-done.done c.min-size.result (omega arith));
    }
