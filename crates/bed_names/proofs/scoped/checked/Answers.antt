use Rattle.std.proofs.Common.{sym, ap, subst}
use Rattle.bed_names.specs.Tables.{FramesFit}
use Rattle.bed_names.proofs.ScopedLemmas.{frames_fit}
use Rattle.bed_names.proofs.scoped.checked.Goals as goal

pub new-requires : goal.new-requires
new-requires c =
    let m = c.args.m.now in
    subst FramesFit (sym (ap (λ d. d.signatures) c.requires.are)) (frames_fit m.signatures c.requires.limits.signatures)
