use Rattle.std.proofs.Common.{◌∙◌, ap}
use Rattle.bed_sat.specs.Conditions.{then_action}
use Rattle.bed_macro.specs.Sites.{site_in}
use Rattle.bed_macro.specs.Paths.{path_of}
use Rattle.bed_macro_data.specs.Kinds.{statement, load_kind, load_action}
use Rattle.bed_macro_data.specs.StatementLaws.{load_part}
use Rattle.bed_macro_data.proofs.StraightLemmas.{nothing_owed, goes_by}
use Rattle.bed_macro_data.proofs.loads.LoadFromMacro.conditions.Goals as goal

pub returns-clause-owes : goal.returns-clause-owes
returns-clause-owes c =
    let s = c.args.self.now in
    let site = site_in c.args._site.now in
    nothing_owed site (statement 0 (load_kind s.byte s.into s.from)) (then_action (load_action s.byte s.into s.from)) (load_part site 0 s.byte s.into s.from) (path_of c.args.from.now) c.args._out.now

pub returns-clause-goes_on : goal.returns-clause-goes_on
returns-clause-goes_on c =
    let s = c.args.self.now in
    let site = site_in c.args._site.now in
    let p = path_of c.args.from.now in
    goes_by site (statement 0 (load_kind s.byte s.into s.from)) (then_action (load_action s.byte s.into s.from)) (load_part site 0 s.byte s.into s.from) p (path_of c.in_ok-with.field-0) (c.in_ok-with.ensures ∙ ap (λ a. then_action a p) (c.action.ensures ∙ ap (λ r. load_action s.byte r.0 r.1) c.in_ok-into.ensures))
