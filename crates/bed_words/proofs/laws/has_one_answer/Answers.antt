use Rattle.std.specs.Prelude.{map, string_bytes}
use Rattle.bed_words.proofs.CommandLaws.{one_answer}
use Rattle.bed_words.proofs.laws.has_one_answer.Goals as goal

pub returns : goal.returns
returns c = one_answer (map string_bytes c.args._words.now)
