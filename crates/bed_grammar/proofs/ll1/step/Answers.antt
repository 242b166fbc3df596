use Rattle.bed_grammar.proofs.Parsing as proved
use Rattle.bed_grammar.proofs.ll1.step.Goals as goal

pub returns : goal.returns
returns g c = proved.parse_step g.G.Ll1.grammar g.G.Ll1.tables g.G.Ll1.is_ll1
