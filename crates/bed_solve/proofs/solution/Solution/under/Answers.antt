use Rattle.std.proofs.Common.{◌≡◌}
use Rattle.bed_solve.proofs.SolvingLemmas.{tree_ok}
use Rattle.bed_solve.proofs.solution.Solution.under.Goals as goal

pub returns : goal.returns
returns c =
    let same : c.as_slice.result.now ≡ c.args.self.now.nodes = cc in
    tree_ok c.args.self.now c.as_slice.result.now c.args.tree c.under.result same c.under.ensures
