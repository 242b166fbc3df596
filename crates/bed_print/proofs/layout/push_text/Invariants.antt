use Rattle.std.proofs.Common.{◌≡◌, ◌≤◌, ◌++◌, drop}
use Rattle.bed_print.specs.Layout.{text_from, text_of}
use Rattle.bed_print.proofs.layout.push_text.Given as goal

abbrev pub invariant-loop-kind : goal.invariant-loop-kind
invariant-loop-kind l = record {
  shallow : l.depth ≤ 64;
  so_far : l.text.items ++ text_from l.depth l.last (drop l.kind-index l.kinds) ≡ l.fn.text.items ++ text_of l.kinds;
}
