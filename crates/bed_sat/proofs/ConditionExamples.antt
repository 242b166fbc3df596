-- The conditions of small texts, computed.
use Rattle.std.proofs.Common.{◌≡◌, Some, None, List, [], ◌∷◌, map, codes, flat_map, append-nil, refl, ◌∙◌, ap}
use Rattle.bed_lang.specs.declared.module.Operand.TheVariants as operand
use Rattle.bed_lang.specs.declared.module.Op.TheVariants as op
use Rattle.bed_lang.specs.declared.module.Action.TheVariants as action
use Rattle.bed_lang.specs.declared.condition.Goal.TheVariants.{Calls, Returns}
use Rattle.bed_lang.specs.declared.condition.Cond.{Cond}
use Rattle.bed_lang.specs.declared.statement.Stmt.{Stmt}
use Rattle.bed_lang.specs.declared.module.Function.{Function}
use Rattle.bed_lang.specs.declared.module.Module.{Module}
use Rattle.bed_lang.specs.Prelude.{name}
use Rattle.bed_lang.specs.Lookups.{first_signature}
use Rattle.bed_table.specs.ListLoops.{field_at}
use Rattle.bed_sat.specs.Written.{written}
use Rattle.bed_sat.specs.Conditions.{Site, site_of, path_at_entry, path_from, then_action, condition, body_part, function_conditions, conditions}
use Rattle.bed_sat.specs.ConditionExamples.{counting_signature, counting_function, counting_module, counting_begins, counting_goes_on, counting_ends, CountingExample, shape, joining_function, joining_module, JoiningExample, y, is_seven, just_emp, signature, returns_seven, calling_function, calling_module, some_cell, forgetting_function, forgetting_module, loading_function, loading_module, is_above, adding_function, adding_module}
use Rattle.bed_sat.proofs.ConditionLaws.{written-Assign, written-Compute, written-Load, written-Call, written-If, written-While, written-Return, written-Hint, part-Assign, part-Compute, part-Load, part-Call, part-If, part-While, part-Return, part-Hint}

counting_written : written counting_function.body ≡ counting_function.body
counting_written = rw (written-Assign, written-While, written-Compute, written-Return) refl

-- the conditions of a module of one function, by its body as it is written out
pub one_function : (m : Module) (f : Function) (body : List Stmt) → m.functions ≡ f ∷ [] → written f.body ≡ body
    → conditions m ≡ (body_part (site_of m f) body).owes (path_at_entry (first_signature m.signatures f.signature.bytes))
one_function m f body is out =
    ap (λ (fs : List Function). flat_map (function_conditions m) fs) is
    ∙ (append-nil (function_conditions m f)
    ∙ ap (λ (b : List Stmt). (body_part (site_of m f) b).owes (path_at_entry (first_signature m.signatures f.signature.bytes))) out)

counting_parts : (body_part (site_of counting_module counting_function) counting_function.body).owes (path_at_entry (Some counting_signature))
    ≡ counting_begins ∷ counting_goes_on ∷ counting_ends ∷ []
counting_parts =
    let site : Site = site_of counting_module counting_function in
    rw (part-Assign site, part-While site, part-Compute site, part-Return site) refl

pub counting_example : CountingExample
counting_example = one_function counting_module counting_function counting_function.body refl counting_written ∙ counting_parts

-- ---- the other texts

joining_written : written joining_function.body ≡ joining_function.body
joining_written = simp (written-If, written-Assign, written-Hint, written-Call, written-Return) refl

joining_parts : map shape ((body_part (site_of joining_module joining_function) joining_function.body).owes (path_at_entry (first_signature joining_module.signatures (codes "S"))))
    ≡ (30, 2, []) ∷ (25, 1, []) ∷ (50, 0, 0 ∷ 1 ∷ []) ∷ (60, 0, []) ∷ []
joining_parts =
    let site : Site = site_of joining_module joining_function in
    simp (part-If site, part-Assign site, part-Hint site, part-Call site, part-Return site) refl

pub joining_example : JoiningExample
joining_example = ap (map shape) (one_function joining_module joining_function joining_function.body refl joining_written) ∙ joining_parts

-- ---- the texts whose conditions are valid, or aren't

-- y <- call &g(7) after [y = 7], from emp, and return y, from [y = 7]
abbrev pub calls : Cond
calls = condition (site_of calling_module calling_function) 10 (Calls (operand.Label (name (codes "g"))) None (operand.Number 7 ∷ []) y is_seven)
    (path_at_entry (Some (signature [] just_emp returns_seven)))

abbrev pub returns : Cond
returns = condition (site_of calling_module calling_function) 20 (Returns (operand.Local y)) (path_from is_seven)

calling_written : written calling_function.body ≡ calling_function.body
calling_written = simp (written-Call, written-Return) refl

pub calling_conditions : conditions calling_module ≡ calls ∷ returns ∷ []
calling_conditions =
    let site : Site = site_of calling_module calling_function in
    one_function calling_module calling_function calling_function.body refl calling_written ∙ simp (part-Call site, part-Return site) refl

-- return 0, from exists v: word. p |-> v
abbrev pub forgets : Cond
forgets = condition (site_of forgetting_module forgetting_function) 10 (Returns (operand.Number 0)) (path_at_entry (Some (signature (name (codes "p") ∷ []) some_cell just_emp)))

forgetting_written : written forgetting_function.body ≡ forgetting_function.body
forgetting_written = simp written-Return refl

pub forgetting_conditions : conditions forgetting_module ≡ forgets ∷ []
forgetting_conditions =
    let site : Site = site_of forgetting_module forgetting_function in
    one_function forgetting_module forgetting_function forgetting_function.body refl forgetting_written ∙ simp (part-Return site) refl

-- y <- [p], return y, from emp
abbrev pub loads : Cond
loads = condition (site_of loading_module loading_function) 20 (Returns (operand.Local y))
    (then_action (action.Load y (field_at (name (codes "p")) 0)) (path_at_entry (Some (signature (name (codes "p") ∷ []) just_emp just_emp))))

loading_written : written loading_function.body ≡ loading_function.body
loading_written = simp (written-Load, written-Return) refl

pub loading_conditions : conditions loading_module ≡ loads ∷ []
loading_conditions =
    let site : Site = site_of loading_module loading_function in
    one_function loading_module loading_function loading_function.body refl loading_written ∙ simp (part-Load site, part-Return site) refl

-- y <- a + 1, return y, from emp
abbrev pub adds : Cond
adds = condition (site_of adding_module adding_function) 20 (Returns (operand.Local y))
    (then_action (action.Compute y op.Add (operand.Local (name (codes "a"))) (operand.Number 1)) (path_at_entry (Some (signature (name (codes "a") ∷ []) just_emp is_above))))

adding_written : written adding_function.body ≡ adding_function.body
adding_written = simp (written-Compute, written-Return) refl

pub adding_conditions : conditions adding_module ≡ adds ∷ []
adding_conditions =
    let site : Site = site_of adding_module adding_function in
    one_function adding_module adding_function adding_function.body refl adding_written ∙ simp (part-Compute site, part-Return site) refl
