use Rattle.std.proofs.Common.{◌≡◌}
use Rattle.bed_solve.proofs.SolvingLemmas.{goal_ok}
use Rattle.bed_solve.proofs.solution.Solution.goal.Goals as goal

pub returns : goal.returns
returns c =
    let same : c.as_slice.result.now ≡ c.args.self.now.readings = cc in
    goal_ok c.args.self.now c.as_slice.result.now c.args.goal.now c.read_all.result same c.read_all.ensures
