use Rattle.std.proofs.Common.{◌≡◌, ◌++◌, drop, map}
use Rattle.bed_forms.specs.Rewritten.{arg_by}
use Rattle.bed_forms.proofs.rewrite.rewrite_args.Given as goal

abbrev pub invariant-loop-arg : goal.invariant-loop-arg
invariant-loop-arg g l =
    l.out ++ map (arg_by (g.R.Rewrite.words l.way) (g.R.Rewrite.seqs l.way)) (drop l.arg-index l.args)
    ≡ map (arg_by (g.R.Rewrite.words l.way) (g.R.Rewrite.seqs l.way)) l.args
