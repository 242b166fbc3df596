use Rattle.std.proofs.Common.{◌≡◌, ◌++◌, drop}
use Rattle.bed_condition_text.specs.Lines.{do_lines}
use Rattle.bed_condition_text.proofs.action.push_do_lines.Given as goal

abbrev pub invariant-loop-action : goal.invariant-loop-action
invariant-loop-action l = l.out.items ++ do_lines (drop l.action-index l.actions) ≡ l.fn.out.items ++ do_lines l.actions
