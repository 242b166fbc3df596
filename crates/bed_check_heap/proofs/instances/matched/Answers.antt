use Rattle.std.proofs.Common.{◌≡◌, ◌∙◌, refl, subst}
use Rattle.bed_lang.specs.Instances.{terms_with}
use Rattle.bed_deriv.specs.declared.derivation.Deriv.{out-Deriv}
use Rattle.bed_deriv.specs.Opening.{replacing}
use Rattle.bed_check_pure.specs.Answers.{goal_table}
use Rattle.bed_check_heap.specs.Steps.{Answers}
use Rattle.bed_deriv.specs.Instances.{matched_node}
use Rattle.bed_check_heap.proofs.instances.matched.Goals as goal

pub returns-in-Ok : goal.returns-in-Ok
returns-in-Ok c =
    let e : c.in-Ok.terms ≡ terms_with (replacing c.args.values.now) c.args.goal.now.terms =
    c.in-Ok.ensures ∙ rw (c.as_slice.ensures, c.as_slice-2.ensures) refl in
    subst (λ ts. Answers c.matched_list.result (matched_node (goal_table c.args.decls.now) c.args.s.now ts (out-Deriv c.args.d.now) 1)) e c.matched_list.ensures
