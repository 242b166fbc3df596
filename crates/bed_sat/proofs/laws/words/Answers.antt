use Rattle.bed_sat.proofs.PartLaws.{joins_left}
use Rattle.bed_sat.proofs.CellLaws.{word_includes, joins_put_word, put_cell}
use Rattle.bed_sat.proofs.laws.words.Goals as goal

pub returns-clause-read : goal.returns-clause-read
returns-clause-read c = λ w p o a v j e. word_includes (joins_left j) a v e

pub returns-clause-stored : goal.returns-clause-stored
returns-clause-stored c = λ w p o a old v fits j cell. (joins_put_word j a old v cell.holds, put_cell a old v cell fits)
