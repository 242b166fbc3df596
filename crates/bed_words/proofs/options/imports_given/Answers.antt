use Rattle.std.proofs.Common.{◌++◌, sym, ap, ◌∙◌, append-nil, codes}
use Rattle.std.specs.Prelude.{string_bytes}
use Rattle.std.specs.List.{filter_map}
use Rattle.bed_words.specs.Values.{import_of}
use Rattle.bed_words.proofs.LoopLemmas.{values_of-short}
use Rattle.bed_words.proofs.options.imports_given.Goals as goal

pub returns : goal.returns
returns c =
    sym (append-nil c.loop-rest.imports)
    ∙ ap (λ vs. c.loop-rest.imports ++ filter_map import_of vs) (sym (values_of-short string_bytes (codes "--import") c.loop-rest.rest.now c.in_default.len_below))
    ∙ c.loop-rest.invariant
