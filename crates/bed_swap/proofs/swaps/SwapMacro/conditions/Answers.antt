use Rattle.std.proofs.Common.{◌∙◌, ◌++◌, Some, sym, ap}
use Rattle.std.proofs.lemmas.List.{append-nil}
use Rattle.bed_sat.specs.Conditions.{then_action}
use Rattle.bed_macro.specs.Sites.{site_in}
use Rattle.bed_macro.specs.Paths.{path_of}
use Rattle.bed_swap.specs.Swaps.{moves}
use Rattle.bed_swap.specs.SwapLaws.{swap_owes, swap_goes}
use Rattle.bed_swap.proofs.swaps.SwapMacro.conditions.Goals as goal

pub returns-clause-owes : goal.returns-clause-owes
returns-clause-owes c =
    let s = c.args.self.now in
    sym (append-nil c.args._out.now) ∙ ap (λ l. c.args._out.now ++ l) (sym (swap_owes s.x s.y s.t (site_in c.args._site.now) (path_of c.args.from.now)))

pub returns-clause-goes_on : goal.returns-clause-goes_on
returns-clause-goes_on c =
    let s = c.args.self.now in
    ap Some (c.in_ok-behind.ensures ∙ ap (then_action (moves s.y s.t)) (c.in_ok-path-2.ensures ∙ ap (then_action (moves s.x s.y)) c.in_ok-path.ensures))
    ∙ sym (swap_goes s.x s.y s.t (site_in c.args._site.now) (path_of c.args.from.now))
