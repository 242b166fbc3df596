use Rattle.bed_check_pure.proofs.TableLaws.{hyp_is_sound, norm_is_sound, order_is_sound, cut_is_sound, carry_is_sound, split_is_sound, absurd_is_sound, distinct_is_sound, bound_is_sound}
use Rattle.bed_check_pure.proofs.laws.facts.Goals as goal

pub returns-clause-hyp : goal.returns-clause-hyp
returns-clause-hyp c = hyp_is_sound

pub returns-clause-norm : goal.returns-clause-norm
returns-clause-norm c = norm_is_sound

pub returns-clause-order : goal.returns-clause-order
returns-clause-order c = order_is_sound

pub returns-clause-cut : goal.returns-clause-cut
returns-clause-cut c = cut_is_sound

pub returns-clause-carry : goal.returns-clause-carry
returns-clause-carry c = carry_is_sound

pub returns-clause-split : goal.returns-clause-split
returns-clause-split c = split_is_sound

pub returns-clause-absurd : goal.returns-clause-absurd
returns-clause-absurd c = absurd_is_sound

pub returns-clause-distinct : goal.returns-clause-distinct
returns-clause-distinct c = distinct_is_sound

pub returns-clause-bound : goal.returns-clause-bound
returns-clause-bound c = bound_is_sound
