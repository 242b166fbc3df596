use Rattle.std.proofs.Common.{◌∙◌, ◌++◌, ◌∷◌, [], Some, sym, ap, ap₂}
use Rattle.bed_sat.specs.Conditions.{condition}
use Rattle.bed_macro.specs.Sites.{site_in}
use Rattle.bed_macro.specs.Paths.{path_of}
use Rattle.bed_macro_call.specs.CallStatements.{call_owes, call_goes}
use Rattle.bed_macro_call.proofs.calls.CallMacro.conditions.Goals as goal

pub returns-clause-owes : goal.returns-clause-owes
returns-clause-owes c =
    let s = c.args.self.now in
    let site = site_in c.args.site.now in
    let p = path_of c.args.from.now in
    c.in_ok-push_condition.ensures.ok
    ∙ ap₂ (λ a q. c.args.out.now ++ condition site s.at a q ∷ []) c.in_ok-goal.ensures c.in_ok-path.ensures
    ∙ ap (λ l. c.args.out.now ++ l) (sym (call_owes s.at 0 s.into s.target s.via s.args s.hints s.after site p))

pub returns-clause-goes_on : goal.returns-clause-goes_on
returns-clause-goes_on c =
    let s = c.args.self.now in
    ap Some c.in_ok-starting.ensures
    ∙ sym (call_goes s.at 0 s.into s.target s.via s.args s.hints s.after (site_in c.args.site.now) (path_of c.args.from.now))
