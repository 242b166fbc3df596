use Rattle.std.proofs.Common.{◌∙◌, ◌++◌, length, ap, ap₂}
use Rattle.bed_macro.specs.Sites.{site_in}
use Rattle.bed_macro.specs.Paths.{path_of}
use Rattle.bed_macro.specs.Joins.{joined}
use Rattle.bed_macro.proofs.ControlLemmas.{given_ok, if_ok, then_done, choice_few, choice_owed, choice_path}
use Rattle.bed_macro.proofs.choices.ChoiceMacro.conditions.Goals as goal

pub on_true-requires-clause-few : goal.on_true-requires-clause-few
on_true-requires-clause-few g c =
    let s = c.args.self.now in
    (choice_few 0 s.test (g.A.Macro.stands s.yes) (g.B.Macro.stands s.no) s.join (length c.args.from.now.actions) c.requires.few).0

pub on_false-requires-clause-few : goal.on_false-requires-clause-few
on_false-requires-clause-few g c =
    let s = c.args.self.now in
    (choice_few 0 s.test (g.A.Macro.stands s.yes) (g.B.Macro.stands s.no) s.join (length c.args.from.now.actions) c.requires.few).1

pub returns-clause-owes : goal.returns-clause-owes
returns-clause-owes g c =
    let s = c.args.self.now in
    given_ok c.joined.result _
    (then_done c.args.out.now c.on_true.new.out c.on_false.new.out _ _ c.in_ok-yes.ensures.owes c.in_ok-no.ensures.owes
    ∙ ap (λ l. c.args.out.now ++ l) (choice_owed 0 s.test (g.A.Macro.stands s.yes) (g.B.Macro.stands s.no) s.join (site_in c.args.site.now) (path_of c.args.from.now)))

pub returns-clause-goes_on : goal.returns-clause-goes_on
returns-clause-goes_on g c =
    let s = c.args.self.now in
    if_ok c.joined.result _ _
    (λ r e. e ∙ ap₂ (joined s.join) c.in_ok-yes.ensures.goes_on c.in_ok-no.ensures.goes_on
    ∙ choice_path 0 s.test (g.A.Macro.stands s.yes) (g.B.Macro.stands s.no) s.join (site_in c.args.site.now) (path_of c.args.from.now)) c.joined.ensures
