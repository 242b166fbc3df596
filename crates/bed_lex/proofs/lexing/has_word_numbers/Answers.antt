use Rattle.bed_lex.proofs.NumberTokens.{numbers_fit}
use Rattle.bed_lex.proofs.lexing.has_word_numbers.Goals as goal

pub returns : goal.returns
returns c = numbers_fit 0 c.args._text.now
