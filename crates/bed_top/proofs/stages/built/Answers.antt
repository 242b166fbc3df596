use Rattle.std.proofs.Common.{Err, sym, ◌∙◌, ap, subst, if◌then◌else◌}
use Rattle.bed_lang.specs.declared.module.Module.{Module}
use Rattle.bed_top.specs.Gives.{Gives, as_one, modules_of}
use Rattle.bed_top.specs.Returns.{module_is_built}
use Rattle.bed_top.specs.Stages.{By}
use Rattle.bed_top.specs.Views.{source}
use Rattle.bed_top.specs.Work.{built_of}
use Rattle.bed_top.proofs.LeafLemmas.{one_module, only_same, unbuilt_several}
use Rattle.bed_top.proofs.stages.built.Goals as goal

pub returns-in-len1-clause-gives : goal.returns-in-len1-clause-gives
returns-in-len1-clause-gives c = λ v.
    subst (λ ms. Gives (By built_of) (as_one c.args.job.now) v (source c.args.job.now ms) c.built_only.result)
    (sym (ap modules_of (sym c.as_slice.ensures.value) ∙ one_module c.as_slice.result.now c.only-item.result c.module-tried.result.now c.in-len1.len_at_least c.in-len1.len_below c.only-item.is c.module-tried.ensures))
    (c.built_only.ensures.gives v)

pub returns-in-len1-clause-only : goal.returns-in-len1-clause-only
returns-in-len1-clause-only c =
    only_same (modules_of c.args.scoped.items) c.module-tried.result.now c.built_only.result
    (ap modules_of (sym c.as_slice.ensures.value) ∙ one_module c.as_slice.result.now c.only-item.result c.module-tried.result.now c.in-len1.len_at_least c.in-len1.len_below c.only-item.is c.module-tried.ensures)
    c.built_only.ensures.same

pub returns-in-len2-up-clause-gives : goal.returns-in-len2-up-clause-gives
returns-in-len2-up-clause-gives c = λ v.
    subst (λ xs. Gives {X = Module} (By built_of) (as_one c.args.job.now) v (source c.args.job.now (modules_of xs)) (Err c.refuse_unbuilt.result)) c.as_slice.ensures.value
    (unbuilt_several c.args.job.now v c.as_slice.result.now c.first-item.result c.unbuilt_number-number.result c.file_name.result.now _ c.in-len2-up.len_at_least c.first-item.is
    (c.unbuilt_number-number.ensures ∙ ap (λ (m : Module). if module_is_built m then 1 else 0) c.module-head.ensures) c.file_name.ensures c.refuse_unbuilt.ensures)
