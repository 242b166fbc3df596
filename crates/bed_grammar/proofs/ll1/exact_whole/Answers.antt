use Rattle.bed_grammar.proofs.Exactness as proved
use Rattle.bed_grammar.proofs.ll1.exact_whole.Goals as goal

pub returns : goal.returns
returns g c = proved.whole_exact g.G.Ll1.grammar g.G.Ll1.tables g.G.Ll1.is_ll1
