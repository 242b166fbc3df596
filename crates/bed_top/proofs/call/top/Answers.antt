use Rattle.bed_top.proofs.ClauseLemmas.{headline, exact, complete}
use Rattle.bed_top.proofs.RowLemmas.{faults, leaves, words_answer}
use Rattle.bed_top.proofs.call.top.Goals as goal

pub returns-clause-headline : goal.returns-clause-headline
returns-clause-headline g c = headline _ _ _ _ _ c.run.result c.run.ensures

pub returns-clause-exact : goal.returns-clause-exact
returns-clause-exact g c = exact _ _ _ _ _ c.run.result c.run.ensures

pub returns-clause-complete : goal.returns-clause-complete
returns-clause-complete g c = complete _ _ _ _ _ c.run.result c.run.ensures

pub returns-clause-words : goal.returns-clause-words
returns-clause-words g c = words_answer _ _ _ _ _ c.run.result c.run.ensures

pub returns-clause-faults : goal.returns-clause-faults
returns-clause-faults g c = faults _ _ _ _ _ c.run.result c.run.ensures

pub returns-clause-leaves : goal.returns-clause-leaves
returns-clause-leaves g c = leaves _ _ _ _ _ c.run.result c.run.ensures

pub returns-clause-calm : goal.returns-clause-calm
returns-clause-calm g c = c.run.ensures.calm
