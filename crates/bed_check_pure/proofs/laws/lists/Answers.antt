use Rattle.bed_check_pure.proofs.TableLaws.{uncons_is_sound, void_is_sound, member_is_sound, lacks_is_sound, part_is_sound, one_is_sound}
use Rattle.bed_check_pure.proofs.laws.lists.Goals as goal

pub returns-clause-uncons : goal.returns-clause-uncons
returns-clause-uncons c = uncons_is_sound

pub returns-clause-void : goal.returns-clause-void
returns-clause-void c = void_is_sound

pub returns-clause-member : goal.returns-clause-member
returns-clause-member c = member_is_sound

pub returns-clause-lacks : goal.returns-clause-lacks
returns-clause-lacks c = lacks_is_sound

pub returns-clause-part : goal.returns-clause-part
returns-clause-part c = part_is_sound

pub returns-clause-one : goal.returns-clause-one
returns-clause-one c = one_is_sound
