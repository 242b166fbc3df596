use Rattle.std.proofs.Common.{◌≡◌}
use Rattle.bed_run.specs.Hosted.{argument_address}
use Rattle.bed_run.proofs.ArgumentLemmas.{AreFirst}
use Rattle.bed_run.proofs.arguments.read_arguments.Given as goal

abbrev pub invariant-loop-number : goal.invariant-loop-number
invariant-loop-number g l = record {
  address : l.at ≡ argument_address l.ebp l._number;
  first : AreFirst (g.D.Store.bytes l.mem) l.ebp l._number l.args.items;
}
