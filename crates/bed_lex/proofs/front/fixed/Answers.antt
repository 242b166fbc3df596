use Rattle.std.proofs.Common.{◌∙◌}
use Rattle.bed_lex.proofs.MarkLemmas.{fixed_in_words}
use Rattle.bed_lex.proofs.front.fixed.Goals as goal

pub returns-clause-exact : goal.returns-clause-exact
returns-clause-exact c = c.position_of.ensures.exact ∙ fixed_in_words c.args.word.now
