use Rattle.std.proofs.Common.{ℕ, ◌≤◌, ◌+◌, ◌++◌, List, length, map, sym, ◌∙◌, ap, subst, arith}
use Rattle.std.specs.Vec.Iter.{into_iter_items}
use Rattle.bed_names.specs.Resolved.{resolved}
use Rattle.bed_top.specs.Causes.{most_text, first_misnamed}
use Rattle.bed_top.specs.Gives.{texts_of, modules_of}
use Rattle.bed_top.proofs.LeafLemmas.{scoped_pass, scoped_stop}
use Rattle.bed_top.proofs.ReadLemmas.{cut_at}
use Rattle.bed_top.proofs.stages.scoped.Goals as goal

pub returns-in-Ok-clause-gives : goal.returns-in-Ok-clause-gives
returns-in-Ok-clause-gives c = λ words.
    scoped_pass c.args.job.now words (texts_of c.args.texts.now) c.args.modules.items c.scope_modules.new.scoped
    (ap (first_misnamed 0) (sym c.into_iter-rest.ensures.rest) ∙ c.in-Ok.ensures.ok.0)
    (c.in-Ok.ensures.ok.1 ∙ ap (λ xs. modules_of xs ++ map resolved (into_iter_items c.into_iter-rest.result)) c.new-scoped.ensures.items ∙ ap (map resolved) c.into_iter-rest.ensures.rest)

pub refuse_names-requires : goal.refuse_names-requires
refuse_names-requires c =
    let short = subst (λ (t : List ℕ). length t ≤ most_text + 1) (sym c.nth_text.ensures) (cut_at (texts_of c.args.texts.now) c.in-Err.file c.requires.cut) in
    omega (arith, short)

pub returns-in-Err-clause-gives : goal.returns-in-Err-clause-gives
returns-in-Err-clause-gives c = λ words.
    scoped_stop c.args.job.now words (texts_of c.args.texts.now) c.args.modules.items c.in-Err.file _ _ c.in-Err.error c.file_name-called.ensures c.nth_text.ensures
    (λ other. ap (first_misnamed 0) (sym c.into_iter-rest.ensures.rest) ∙ c.in-Err.ensures.refused other) _ c.refuse_names.ensures.stop c.refuse_names.ensures.memory
