use Rattle.std.proofs.Common.{◌∙◌, ap}
use Rattle.bed_sat.specs.Conditions.{then_action}
use Rattle.bed_macro.specs.Sites.{site_in}
use Rattle.bed_macro.specs.Paths.{path_of}
use Rattle.bed_macro_data.specs.Kinds.{statement, store_kind, store_action}
use Rattle.bed_macro_data.specs.StatementLaws.{store_part}
use Rattle.bed_macro_data.proofs.StraightLemmas.{nothing_owed, goes_by}
use Rattle.bed_macro_data.proofs.stores.StoreToMacro.conditions.Goals as goal

pub returns-clause-owes : goal.returns-clause-owes
returns-clause-owes c =
    let s = c.args.self.now in
    let site = site_in c.args._site.now in
    nothing_owed site (statement 0 (store_kind s.byte s.to s.a)) (then_action (store_action s.byte s.to s.a)) (store_part site 0 s.byte s.to s.a) (path_of c.args.from.now) c.args._out.now

pub returns-clause-goes_on : goal.returns-clause-goes_on
returns-clause-goes_on c =
    let s = c.args.self.now in
    let site = site_in c.args._site.now in
    let p = path_of c.args.from.now in
    goes_by site (statement 0 (store_kind s.byte s.to s.a)) (then_action (store_action s.byte s.to s.a)) (store_part site 0 s.byte s.to s.a) p (path_of c.in_ok-with.field-0) (c.in_ok-with.ensures ∙ ap (λ a. then_action a p) (c.action.ensures ∙ ap (λ r. store_action s.byte r.0 r.1) c.in_ok-place.ensures))
