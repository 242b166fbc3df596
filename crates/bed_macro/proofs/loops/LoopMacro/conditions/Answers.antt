use Rattle.std.proofs.Common.{◌∙◌, ◌++◌, length, ap}
use Rattle.bed_macro.specs.Sites.{site_in}
use Rattle.bed_macro.specs.Paths.{path_of}
use Rattle.bed_macro.proofs.ControlLemmas.{given_ok, if_ok, then_done, loop_few, loop_owed, loop_path}
use Rattle.bed_macro.proofs.loops.LoopMacro.conditions.Goals as goal

pub around-requires-clause-few : goal.around-requires-clause-few
around-requires-clause-few g c =
    let s = c.args.self.now in
    loop_few 0 s.test s.place s.invariant (g.B.Macro.stands s.body) (length c.args.from.now.actions) c.requires.few

pub returns-clause-owes : goal.returns-clause-owes
returns-clause-owes g c =
    let s = c.args.self.now in
    given_ok c.beyond.result _
    (then_done c.args.out.now c.meet_at.new.out c.around.new.out _ _ c.in_ok-meet_at.ensures.ok c.in_ok-around.ensures.ok
    ∙ ap (λ l. c.args.out.now ++ l) (loop_owed 0 s.test s.place s.invariant (g.B.Macro.stands s.body) (site_in c.args.site.now) (path_of c.args.from.now)))

pub returns-clause-goes_on : goal.returns-clause-goes_on
returns-clause-goes_on g c =
    let s = c.args.self.now in
    if_ok c.beyond.result _ _
    (λ r e. e ∙ loop_path 0 s.test s.place s.invariant (g.B.Macro.stands s.body) (site_in c.args.site.now) (path_of c.args.from.now)) c.beyond.ensures
