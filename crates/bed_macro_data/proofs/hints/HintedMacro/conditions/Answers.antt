use Rattle.bed_sat.specs.Conditions.{then_hint}
use Rattle.bed_sat.proofs.ConditionLaws.{part-Hint}
use Rattle.bed_macro.specs.Sites.{site_in}
use Rattle.bed_macro.specs.Paths.{path_of}
use Rattle.bed_macro_data.specs.Kinds.{statement}
use Rattle.bed_macro_data.proofs.StraightLemmas.{nothing_owed, goes_by}
use Rattle.bed_lang.specs.declared.statement.StmtKind.{Hint}
use Rattle.bed_macro_data.proofs.hints.HintedMacro.conditions.Goals as goal

pub returns-clause-owes : goal.returns-clause-owes
returns-clause-owes c =
    let s = c.args.self.now in
    let site = site_in c.args._site.now in
    nothing_owed site (statement 0 (Hint s.hint)) (then_hint s.hint) (part-Hint site 0 s.hint) (path_of c.args.from.now) c.args._out.now

pub returns-clause-goes_on : goal.returns-clause-goes_on
returns-clause-goes_on c =
    let s = c.args.self.now in
    let site = site_in c.args._site.now in
    let p = path_of c.args.from.now in
    goes_by site (statement 0 (Hint s.hint)) (then_hint s.hint) (part-Hint site 0 s.hint) p (path_of c.in_ok-with_hint.field-0) (c.in_ok-with_hint.ensures)
