use Rattle.std.proofs.Common.{◌∙◌, ◌++◌, Some, None, option_map, length, sym, ap}
use Rattle.std.proofs.lemmas.List.{append-nil}
use Rattle.bed_sat.specs.Conditions.{body_part}
use Rattle.bed_macro.specs.Sites.{site_in}
use Rattle.bed_macro.specs.Paths.{path_of}
use Rattle.bed_macro.proofs.ControlLemmas.{on_ok, if_ok, then_done, then_owed, then_path, first_few, then_few}
use Rattle.bed_macro.proofs.sequences.ThenMacro.conditions.Goals as goal

pub conditions-requires-clause-few : goal.conditions-requires-clause-few
conditions-requires-clause-few g c =
    let s = c.args.self.now in
    first_few (g.A.Macro.stands s.first) (g.B.Macro.stands s.second) (length c.args.from.now.actions) c.requires.few

pub conditions-requires-in-Some-clause-few : goal.conditions-requires-in-Some-clause-few
conditions-requires-in-Some-clause-few g c =
    let s = c.args.self.now in
    then_few (site_in c.args.site.now) (g.A.Macro.stands s.first) (g.B.Macro.stands s.second) (path_of c.args.from.now) (path_of c.in-Some.path)
    (sym c.in_ok-conditions.ensures.goes_on ∙ ap (option_map path_of) c.in-Some.is) c.requires.few

pub returns-in-None-clause-owes : goal.returns-in-None-clause-owes
returns-in-None-clause-owes g c =
    let s = c.args.self.now in
    let site = site_in c.args.site.now in
    let p = path_of c.args.from.now in
    c.in_ok-conditions.ensures.owes
    ∙ ap (λ l. c.args.out.now ++ l) (sym (append-nil ((body_part site (g.A.Macro.stands s.first)).owes p))
    ∙ then_owed site (g.A.Macro.stands s.first) (g.B.Macro.stands s.second) p None (ap (option_map path_of) (sym c.in-None.is) ∙ c.in_ok-conditions.ensures.goes_on))

pub returns-in-None-clause-goes_on : goal.returns-in-None-clause-goes_on
returns-in-None-clause-goes_on g c =
    let s = c.args.self.now in
    then_path (site_in c.args.site.now) (g.A.Macro.stands s.first) (g.B.Macro.stands s.second) (path_of c.args.from.now) None
    (ap (option_map path_of) (sym c.in-None.is) ∙ c.in_ok-conditions.ensures.goes_on)

pub returns-in-Some-clause-owes : goal.returns-in-Some-clause-owes
returns-in-Some-clause-owes g c =
    let s = c.args.self.now in
    on_ok c.conditions-in-Some.result _ _
    (λ last. then_done c.args.out.now c.conditions.new.out c.conditions-in-Some.new.out _ _ c.in_ok-conditions.ensures.owes last
    ∙ ap (λ l. c.args.out.now ++ l) (then_owed (site_in c.args.site.now) (g.A.Macro.stands s.first) (g.B.Macro.stands s.second) (path_of c.args.from.now) (Some (path_of c.in-Some.path))
    (ap (option_map path_of) (sym c.in-Some.is) ∙ c.in_ok-conditions.ensures.goes_on)))
    c.conditions-in-Some.ensures.owes

pub returns-in-Some-clause-goes_on : goal.returns-in-Some-clause-goes_on
returns-in-Some-clause-goes_on g c =
    let s = c.args.self.now in
    if_ok c.conditions-in-Some.result _ _
    (λ r e. e ∙ then_path (site_in c.args.site.now) (g.A.Macro.stands s.first) (g.B.Macro.stands s.second) (path_of c.args.from.now) (Some (path_of c.in-Some.path))
    (ap (option_map path_of) (sym c.in-Some.is) ∙ c.in_ok-conditions.ensures.goes_on))
    c.conditions-in-Some.ensures.goes_on
