use Rattle.std.proofs.Common.{◌∙◌, ◌++◌, ◌∷◌, [], sym, ap}
use Rattle.bed_lang.specs.declared.condition.Goal.TheVariants.{Returns}
use Rattle.bed_sat.specs.Conditions.{condition}
use Rattle.bed_macro.specs.Sites.{site_in}
use Rattle.bed_macro.specs.Paths.{path_of}
use Rattle.bed_macro_data.specs.StatementLaws.{return_owes, return_goes}
use Rattle.bed_macro_data.proofs.returns.ReturnMacro.conditions.Goals as goal

pub returns-clause-owes : goal.returns-clause-owes
returns-clause-owes c =
    let s = c.args.self.now in
    let site = site_in c.args.site.now in
    let p = path_of c.args.from.now in
    c.in_ok-push_condition.ensures.ok ∙ ap (λ a. c.args.out.now ++ condition site s.at (Returns a) p ∷ []) c.in_ok-copy.ensures
    ∙ ap (λ l. c.args.out.now ++ l) (sym (return_owes s.at s.a site p))

pub returns-clause-goes_on : goal.returns-clause-goes_on
returns-clause-goes_on c = sym (return_goes c.args.self.now.at c.args.self.now.a (site_in c.args.site.now) (path_of c.args.from.now))
