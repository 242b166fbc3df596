-- The ways in which terms stand in place of variables, as code has them: the instance that each is.
use Rattle.bed_lang.specs.Instances.{Instance, word_with, seq_with}
use Rattle.bed_deriv.specs.declared.reading.Reading.{Reading}
use Rattle.bed_deriv.specs.declared.reading.Reading.TheVariants.{Names, Answer, Alone, Word, Seq}
use Rattle.bed_deriv.specs.Opening.{replacing, with_answer, alone, word_set, seq_set}

abbrev pub instance_of : Reading → Instance
instance_of (Names vs) = replacing vs.now
instance_of (Answer w vs) = with_answer w.now (replacing vs.now)
instance_of (Alone vs) = alone vs.now
instance_of (Word v by) = word_set v.now by.now
instance_of (Seq v by) = seq_set v.now by.now
