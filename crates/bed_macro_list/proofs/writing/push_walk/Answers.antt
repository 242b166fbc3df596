use Rattle.std.proofs.Common.{◌∙◌, ◌++◌, ap}
use Rattle.bed_sat.specs.Written.{list_loop}
use Rattle.bed_macro_list.proofs.WritingLemmas.{on_ok}
use Rattle.bed_macro_list.proofs.writing.push_walk.Goals as goal

pub returns : goal.returns
returns c =
    on_ok c.push_list_loop.result _ _
    (λ last. last ∙ ap (λ i. c.args.out.now ++ list_loop c.args.at c.args.node.now c.args.value.now c.args.list.now i c.args.body) c.in_ok-invariant.ensures)
    c.push_list_loop.ensures
