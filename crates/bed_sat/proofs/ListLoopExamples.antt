-- The conditions of a `find` and of a `walk`, computed.
use Rattle.std.proofs.Common.{◌≡◌, None, List, [], ◌∷◌, ◌++◌, codes, refl, ◌∙◌}
use Rattle.bed_lang.specs.declared.module.Operand.TheVariants as operand
use Rattle.bed_lang.specs.declared.module.Op.TheVariants as op
use Rattle.bed_lang.specs.declared.condition.Cond.{Cond}
use Rattle.bed_lang.specs.declared.statement.Stmt.{Stmt}
use Rattle.bed_lang.specs.declared.statement.StmtKind.{Compute, If, Return}
use Rattle.bed_lang.specs.Prelude.{name, sequence}
use Rattle.bed_lang.specs.Lookups.{first_signature}
use Rattle.bed_table.specs.ListLoops.{list_invariant, not_yet, is_key}
use Rattle.bed_sat.specs.Written.{statement, made_test, list_loop, written}
use Rattle.bed_sat.specs.Conditions.{Site, site_of, path_at_entry, body_part}
use Rattle.bed_sat.specs.Examples.{asserts}
use Rattle.bed_sat.specs.ConditionExamples.{y}
use Rattle.bed_sat.specs.ListLoopExamples.{n, v, p, kept, found_body, finding_function, finding_module, finding_begins, finding_finds, finding_goes_on, finding_ends, FindingExample, walking_function, walking_module, walking_begins, walking_goes_on, walking_ends, WalkingExample}
use Rattle.bed_sat.proofs.ConditionLaws.{written-Compute, written-Return, written-Hint, written-Find, written-Walk, part-Assign, part-Compute, part-Load, part-If, part-While, part-Return, part-Hint}
use Rattle.bed_sat.proofs.ConditionExamples.{one_function}

-- the bodies with their loops written out
finding_text : List Stmt
finding_text =
    list_loop 10 n v p
    (list_invariant n p (sequence (codes "s")) (name (codes "u")) (name (codes "t")) (not_yet (operand.Local (name (codes "a"))) (name (codes "u"))) (asserts (kept ∷ [])))
    (statement 10 (If (made_test 10 (is_key v (operand.Local (name (codes "a"))))) found_body [] None) ∷ [])
    ++ statement 70 (Return (operand.Number 0)) ∷ []

finding_written : written finding_function.body ≡ finding_text
unfolding finding_text
finding_written = simp (written-Find, written-Hint, written-Return) refl

abbrev finding_owes : List Cond
finding_owes = finding_begins ∷ finding_finds ∷ finding_goes_on ∷ finding_ends ∷ []

finding_parts : (body_part (site_of finding_module finding_function) finding_text).owes (path_at_entry (first_signature finding_module.signatures (codes "S")))
    ≡ finding_owes
unfolding finding_text
finding_parts =
    let site : Site = site_of finding_module finding_function in
    simp (part-If site, part-While site, part-Assign site, part-Load site, part-Hint site, part-Return site) (refl {a = finding_owes})

pub finding_example : FindingExample
finding_example = one_function finding_module finding_function finding_text refl finding_written ∙ finding_parts

walking_text : List Stmt
walking_text =
    list_loop 10 n v p
    (list_invariant n p (sequence (codes "s")) (name (codes "u")) (name (codes "t")) [] (asserts (kept ∷ [])))
    (statement 30 (Compute y op.Add (operand.Local y) (operand.Local v)) ∷ [])
    ++ statement 70 (Return (operand.Local y)) ∷ []

walking_written : written walking_function.body ≡ walking_text
unfolding walking_text
walking_written = simp (written-Walk, written-Compute, written-Return) refl

abbrev walking_owes : List Cond
walking_owes = walking_begins ∷ walking_goes_on ∷ walking_ends ∷ []

walking_parts : (body_part (site_of walking_module walking_function) walking_text).owes (path_at_entry (first_signature walking_module.signatures (codes "S")))
    ≡ walking_owes
unfolding walking_text
walking_parts =
    let site : Site = site_of walking_module walking_function in
    simp (part-While site, part-Assign site, part-Load site, part-Compute site, part-Hint site, part-Return site) (refl {a = walking_owes})

pub walking_example : WalkingExample
walking_example = one_function walking_module walking_function walking_text refl walking_written ∙ walking_parts
