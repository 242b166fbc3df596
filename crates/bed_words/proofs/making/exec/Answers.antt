use Rattle.std.proofs.Common.{map, string_bytes}
use Rattle.bed_words.proofs.LoopLemmas.{exec-long}
use Rattle.bed_words.proofs.making.exec.Goals as goal

pub returns-in-len3-up : goal.returns-in-len3-up
returns-in-len3-up c = exec-long string_bytes (map string_bytes c.args.options.now) c.args.plain.now c.in-len3-up.len_at_least
