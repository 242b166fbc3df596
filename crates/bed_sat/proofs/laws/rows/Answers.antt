use Rattle.bed_sat.proofs.PartLaws.{joins_left}
use Rattle.bed_sat.proofs.BlockLaws.{load_slot, put_slot, words_append, append_words, block_small}
use Rattle.bed_sat.proofs.laws.rows.Goals as goal

pub returns-clause-read : goal.returns-clause-read
returns-clause-read c = λ w p o a vs i lt j are. load_slot a vs i (joins_left j) are lt

pub returns-clause-stored : goal.returns-clause-stored
returns-clause-stored c = λ w p o a vs i v lt fits j are. put_slot a vs i v j are lt fits

pub returns-clause-split : goal.returns-clause-split
returns-clause-split c = words_append

pub returns-clause-join : goal.returns-clause-join
returns-clause-join c = append_words

pub returns-clause-small : goal.returns-clause-small
returns-clause-small c = block_small
