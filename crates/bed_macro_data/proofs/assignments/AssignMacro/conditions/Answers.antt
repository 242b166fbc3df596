use Rattle.std.proofs.Common.{◌∙◌, ap}
use Rattle.bed_lang.specs.declared.module.Action.TheVariants as action
use Rattle.bed_sat.specs.Conditions.{then_action}
use Rattle.bed_sat.proofs.ConditionLaws.{part-Assign}
use Rattle.bed_macro.specs.Sites.{site_in}
use Rattle.bed_macro.specs.Paths.{path_of}
use Rattle.bed_macro_data.specs.Kinds.{statement}
use Rattle.bed_macro_data.proofs.StraightLemmas.{nothing_owed, goes_by}
use Rattle.bed_lang.specs.declared.statement.StmtKind.{Assign}
use Rattle.bed_macro_data.proofs.assignments.AssignMacro.conditions.Goals as goal

pub returns-clause-owes : goal.returns-clause-owes
returns-clause-owes c =
    let s = c.args.self.now in
    let site = site_in c.args._site.now in
    nothing_owed site (statement 0 (Assign s.into s.a)) (then_action (action.Assign s.into s.a)) (part-Assign site 0 s.into s.a) (path_of c.args.from.now) c.args._out.now

pub returns-clause-goes_on : goal.returns-clause-goes_on
returns-clause-goes_on c =
    let s = c.args.self.now in
    let site = site_in c.args._site.now in
    let p = path_of c.args.from.now in
    goes_by site (statement 0 (Assign s.into s.a)) (then_action (action.Assign s.into s.a)) (part-Assign site 0 s.into s.a) p (path_of c.in_ok-with.field-0) (c.in_ok-with.ensures ∙ ap (λ r. then_action (action.Assign r.0 r.1) p) c.in_ok-into.ensures)
