use Rattle.std.proofs.Common.{◌∙◌, ◌++◌, ap₂}
use Rattle.bed_sat.specs.Written.{list_loop}
use Rattle.bed_macro_list.proofs.WritingLemmas.{on_ok}
use Rattle.bed_macro_list.proofs.writing.push_find.Goals as goal

pub returns : goal.returns
returns c =
    on_ok c.push_list_loop.result _ _
    (λ last. last ∙ ap₂ (λ i b. c.args.out.now ++ list_loop c.args.at c.args.node.now c.args.value.now c.args.list.now i b) c.in_ok-invariant.ensures c.in_ok-visit.ensures)
    c.push_list_loop.ensures
