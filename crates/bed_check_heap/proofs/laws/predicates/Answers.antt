use Rattle.bed_check_heap.proofs.UnfoldLaws.{unfold_is_kept}
use Rattle.bed_check_heap.proofs.FoldLaws.{fold_is_kept}
use Rattle.bed_check_heap.proofs.AppendLaws.{append_is_kept}
use Rattle.bed_check_heap.proofs.laws.predicates.Goals as goal

pub returns-clause-unfold : goal.returns-clause-unfold
returns-clause-unfold c = unfold_is_kept

pub returns-clause-fold : goal.returns-clause-fold
returns-clause-fold c = fold_is_kept

pub returns-clause-append : goal.returns-clause-append
returns-clause-append c = append_is_kept
