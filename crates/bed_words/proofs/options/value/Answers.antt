use Rattle.std.proofs.Common.{sym, ◌∙◌}
use Rattle.std.specs.Prelude.{string_bytes}
use Rattle.bed_words.proofs.LoopLemmas.{value_of-short}
use Rattle.bed_words.proofs.options.value.Goals as goal

pub returns : goal.returns
returns c =
    sym (c.loop-rest.invariant ∙ value_of-short string_bytes c.args.name.now c.loop-rest.rest.now c.in_default.len_below)
