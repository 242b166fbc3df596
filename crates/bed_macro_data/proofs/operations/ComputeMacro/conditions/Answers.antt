use Rattle.std.proofs.Common.{◌∙◌, ap}
use Rattle.bed_lang.specs.declared.module.Action.TheVariants as action
use Rattle.bed_sat.specs.Conditions.{then_action}
use Rattle.bed_sat.proofs.ConditionLaws.{part-Compute}
use Rattle.bed_macro.specs.Sites.{site_in}
use Rattle.bed_macro.specs.Paths.{path_of}
use Rattle.bed_macro_data.specs.Kinds.{statement}
use Rattle.bed_macro_data.proofs.StraightLemmas.{nothing_owed, goes_by}
use Rattle.bed_lang.specs.declared.statement.StmtKind.{Compute}
use Rattle.bed_macro_data.proofs.operations.ComputeMacro.conditions.Goals as goal

pub returns-clause-owes : goal.returns-clause-owes
returns-clause-owes c =
    let s = c.args.self.now in
    let site = site_in c.args._site.now in
    nothing_owed site (statement 0 (Compute s.into s.op s.a s.b)) (then_action (action.Compute s.into s.op s.a s.b)) (part-Compute site 0 s.into s.op s.a s.b) (path_of c.args.from.now) c.args._out.now

pub returns-clause-goes_on : goal.returns-clause-goes_on
returns-clause-goes_on c =
    let s = c.args.self.now in
    let site = site_in c.args._site.now in
    let p = path_of c.args.from.now in
    goes_by site (statement 0 (Compute s.into s.op s.a s.b)) (then_action (action.Compute s.into s.op s.a s.b)) (part-Compute site 0 s.into s.op s.a s.b) p (path_of c.in_ok-with.field-0) (c.in_ok-with.ensures ∙ ap (λ x. then_action (action.Compute x s.op c.in_ok-into.a c.in_ok-into.b) p) c.in_ok-into.ensures.first ∙ ap (λ x. then_action (action.Compute s.into s.op x c.in_ok-into.b) p) c.in_ok-into.ensures.second ∙ ap (λ x. then_action (action.Compute s.into s.op s.a x) p) c.in_ok-into.ensures.third)
