use Rattle.bed_grammar.specs.Grammar.{Derives, ref}
use Rattle.bed_grammar.proofs.Refusals.{one_first_error}
use Rattle.bed_grammar.proofs.ll1.one_refusal.Goals as goal

pub returns : goal.returns
returns g c = λ n s rest other w z u v. one_first_error g.G.Ll1.grammar.IsLexeme (Derives g.G.Ll1.grammar (ref n)) s rest other w z u v
