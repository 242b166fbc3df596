use Rattle.std.proofs.Common.{[], ◌∷◌, refl, sym, ◌∙◌, ap}
use Rattle.bed_lang.specs.declared.module.Module.{Module}
use Rattle.bed_top.specs.Returns.{module_is_built}
use Rattle.bed_top.proofs.LeafLemmas.{built_pass, unbuilt_one}
use Rattle.bed_top.proofs.stages.built_only.Goals as goal

pub returns-in-Ok-clause-gives : goal.returns-in-Ok-clause-gives
returns-in-Ok-clause-gives c = λ v.
    built_pass c.args.job.now v (c.args.tried.now ∷ []) c.in-Ok.module (ap (λ (m : Module). m ∷ []) (sym c.in-Ok.ensures))
    (ap module_is_built c.in-Ok.ensures ∙ sym c.if-is_built.ensures)

pub returns-else-is_built-clause-gives : goal.returns-else-is_built-clause-gives
returns-else-is_built-clause-gives c = λ v.
    unbuilt_one c.args.job.now v (c.args.tried.now ∷ []) c.args.tried.now c.file_name.result.now _ refl (sym c.if-is_built.ensures) c.file_name.ensures c.refuse_unbuilt.ensures
