use Rattle.bed_check_heap.proofs.TableLaws.{divide_is_kept, merge_is_kept, shape_is_kept}
use Rattle.bed_check_heap.proofs.laws.parts.Goals as goal

pub returns-clause-divide : goal.returns-clause-divide
returns-clause-divide c = divide_is_kept

pub returns-clause-merge : goal.returns-clause-merge
returns-clause-merge c = merge_is_kept

pub returns-clause-shape : goal.returns-clause-shape
returns-clause-shape c = shape_is_kept
