use Rattle.std.proofs.Common.{map, string_bytes, sym, ◌∙◌}
use Rattle.bed_words.proofs.OptionLemmas.{is_given-never}
use Rattle.bed_words.proofs.LoopLemmas.{times-short}
use Rattle.bed_words.proofs.options.given.Goals as goal

pub returns : goal.returns
returns c =
    sym (c.loop-rest.invariant
    ∙ is_given-never c.args.name.now (map string_bytes c.loop-rest.rest.now) (times-short string_bytes c.args.name.now c.loop-rest.rest.now c.in_default.len_below))
