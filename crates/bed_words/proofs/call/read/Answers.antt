use Rattle.std.specs.Prelude.{string_bytes}
use Rattle.bed_words.proofs.CallLemmas.{rest-small}
use Rattle.bed_words.proofs.call.read.Goals as goal

pub later-requires : goal.later-requires
later-requires c =
    rest-small string_bytes c.in-Some.verb c.args.words.now c.in-Err.error c.in-Err.ensures c.in-len1-up.len_at_least c.requires
