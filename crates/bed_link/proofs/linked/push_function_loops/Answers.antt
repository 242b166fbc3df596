use Rattle.std.proofs.Common.{◌∙◌}
use Rattle.bed_link.proofs.HeadLemmas.{heads_fit}
use Rattle.bed_link.proofs.linked.push_function_loops.Goals as goal

pub push_loops-requires : goal.push_loops-requires
push_loops-requires c =
    heads_fit c.args.function.now c.args.at c.as_slice.result.now c.new-heads.result.items c.requires c.new-heads.ensures.items
    (c.as_slice.ensures.value ∙ c.in_ok-push_function_heads.ensures)
