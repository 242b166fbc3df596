-- Conditions that aren't valid.
use Rattle.std.proofs.Common.{◌≡◌, ℕ, Bool, true, false, Option, Some, None, option_map, List, [], ◌∷◌, bytes_eq, codes, if◌then◌else◌, refl, sym, ◌∙◌, ap, subst, subst₂, arith}
use Rattle.bed_machine.specs.Memory.{Memory, empty}
use Rattle.bed_lang.specs.declared.word.Name.{Name}
use Rattle.bed_lang.specs.declared.word.Var.TheVariants as var
use Rattle.bed_lang.specs.declared.word.Word.{Var as WordVar}
use Rattle.bed_lang.specs.declared.logic.Pure.TheVariants as pure
use Rattle.bed_lang.specs.declared.logic.Assertion.{Assertion}
use Rattle.bed_lang.specs.declared.statement.Stmt.{Stmt}
use Rattle.bed_lang.specs.declared.condition.Cond.{Cond}
use Rattle.bed_lang.specs.declared.module.Signature.{Signature}
use Rattle.bed_lang.specs.declared.module.Function.{Function}
use Rattle.bed_lang.specs.declared.condition.Decls.{Decls}
use Rattle.bed_lang.specs.Prelude.{name, word}
use Rattle.bed_lang.specs.Values.{Values, Named, Answer, set_word, value}
use Rattle.bed_lang.proofs.ValueLaws.{value-Var}
use Rattle.bed_lang.specs.Lookups.{second_of, function_signature}
use Rattle.bed_sat.specs.Cells.{IsCell}
use Rattle.bed_sat.specs.Assertions.{World}
use Rattle.bed_lang.specs.Declarations.{all_declarations}
use Rattle.bed_sat.specs.Valid.{After, GoalHolds, LabelsFit, set_local, Starts, IsValid}
use Rattle.bed_sat.specs.Examples.{bytes_at}
use Rattle.bed_sat.specs.ConditionExamples.{function_of, module_of, signature, just_emp, y, some_cell, forgetting_function, forgetting_module, ForgottenCellExample, loading_function, loading_module, UnmappedLoadExample, is_above, adding_function, adding_module, WrappingSumExample}
use Rattle.bed_sat.proofs.PartLaws.{to_empty}
use Rattle.bed_sat.proofs.RowLaws.{row_cell}
use Rattle.bed_sat.proofs.ConditionExamples.{forgets, forgetting_conditions, loads, loading_conditions, adds, adding_conditions}
use Rattle.bed_sat.proofs.ValidExamples.{emp_is, emp_holds, fact_is}

-- the declarations of a module of one function, and a world in which each address is of code with the signature S
abbrev pub decls_of : Signature → Function → Decls
decls_of S f = all_declarations (module_of S f ∷ [])

abbrev pub world_of : Signature → Function → World
world_of S f = record { decls = decls_of S f; codes = λ a. Some (codes "S"); labels = λ x. 0 }

some_S : (b : Bool) (l : Name × Name) (found : Name) → l.1.bytes ≡ codes "S" → second_of (if b then Some l else None) ≡ Some found
    → Some (codes "S") ≡ Some found.bytes
some_S true l found is e = ap Some (sym is) ∙ ap (λ o. option_map (λ (n : Name). n.bytes) o) e
some_S false l found is e = absurd (cc)

-- what is claimed there where a condition is valid
module _ (params : List Name) (pre post : Assertion) (locals : List Name) (body : List Stmt) where
  abbrev S : Signature
  S = signature params pre post

  abbrev f : Function
  f = function_of locals body

  fits : LabelsFit (world_of S f)
  fits x found e = some_S (bytes_eq (codes "f") x) (name (codes "f"), name (codes "S")) found refl e

  pub claims : (c : Cond) → c.function ≡ name (codes "f") → IsValid (decls_of S f) c → (ν : Values) (h : Memory)
      → Starts (world_of S f) (Some S) c ν h → After (λ x. 0) c.actions (GoalHolds (world_of S f) (Some S) c.goal) ν h
  claims c is valid ν h starts =
      let same : function_signature (decls_of S f) c.function ≡ Some S = ap (function_signature (decls_of S f)) is in
      subst (λ T. Starts (world_of S f) T c ν h → After (λ x. 0) c.actions (GoalHolds (world_of S f) T c.goal) ν h) same
      (valid.holds (λ a. Some (codes "S")) (λ x. 0) fits ν h) starts

pub not_there : (n : ℕ) → ◌≡◌ {A = Option ℕ} (Some n) None → ⊥
not_there n e = absurd (cc)

-- each variable has this word
abbrev pub each_is : ℕ → Values
each_is n = record { words = λ x. n; lists = λ x. [] }

forgets_refuted : IsValid (all_declarations (forgetting_module ∷ [])) forgets → ⊥
forgets_refuted valid =
    let w : World = world_of (signature (name (codes "p") ∷ []) some_cell just_emp) forgetting_function in
    let ν : Values = each_is 1000 in
    let h : Memory = bytes_at 1000 (0 ∷ 0 ∷ 0 ∷ 0 ∷ []) in
    let μ : Values = set_word ν (Named (codes "v")) 0 in
    let cell : IsCell 1000 0 h = row_cell 1000 0 0 0 0 (omega arith, (omega arith, (omega arith, (omega arith, tt)))) (omega arith) in
    let here : IsCell (value w.labels μ (word (codes "p"))) (value w.labels μ (word (codes "v"))) h =
    subst₂ (λ a v. IsCell a v h) (sym (value-Var w.labels μ (var.Named (name (codes "p"))))) (sym (value-Var w.labels μ (var.Named (name (codes "v"))))) cell in
    let starts : Starts w (Some (signature (name (codes "p") ∷ []) some_cell just_emp)) forgets ν h =
    record { holds = (0, (0, (h, empty, to_empty h, here, refl))); entry = λ e x is. refl } in
    let ends = claims (name (codes "p") ∷ []) some_cell just_emp [] forgetting_function.body forgets refl valid ν h starts in
    let after : Values = set_word (set_word ν (Named (codes "p")) 1000) Answer 0 in
    let nothing : h ≡ empty = emp_is w after 0 h ends in
    not_there 0 (ap (λ m. m 1000) nothing)

loads_refuted : IsValid (all_declarations (loading_module ∷ [])) loads → ⊥
loads_refuted valid =
    let w : World = world_of (signature (name (codes "p") ∷ []) just_emp just_emp) loading_function in
    let loaded = claims (name (codes "p") ∷ []) just_emp just_emp (y ∷ []) loading_function.body loads refl valid (each_is 0) empty
    (record { holds = emp_holds w (each_is 0) 0 empty refl; entry = λ e x is. refl }) in
    not_there loaded.0 (sym loaded.1)

adds_refuted : IsValid (all_declarations (adding_module ∷ [])) adds → ⊥
adds_refuted valid =
    let w : World = world_of (signature (name (codes "a") ∷ []) just_emp is_above) adding_function in
    let ν : Values = each_is 4294967295 in
    let ends = claims (name (codes "a") ∷ []) just_emp is_above (y ∷ []) adding_function.body adds refl valid ν empty
    (record { holds = emp_holds w ν 0 empty refl; entry = λ e x is. refl }) in
    let μ : Values = set_word (set_word (set_local ν y 0) (Named (codes "a")) 4294967295) Answer 0 in
    let above = fact_is w μ 0 empty (pure.Less (word (codes "a")) (WordVar (var.Answer 0))) ends in
    omega (arith, above.1, value-Var (λ x. 0) μ (var.Named (name (codes "a"))), value-Var (λ x. 0) μ (var.Answer 0))

pub forgotten_cell_example : ForgottenCellExample
forgotten_cell_example = (forgets, forgetting_conditions, forgets_refuted)

pub unmapped_load_example : UnmappedLoadExample
unmapped_load_example = (loads, loading_conditions, loads_refuted)

pub wrapping_sum_example : WrappingSumExample
wrapping_sum_example = (adds, adding_conditions, adds_refuted)
