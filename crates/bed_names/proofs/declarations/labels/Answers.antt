use Rattle.std.proofs.Common.{◌∙◌, ap, map, ◌++◌}
use Rattle.bed_lang.specs.declared.module.Function.{Function}
use Rattle.bed_lang.specs.declared.module.Import.{Import}
use Rattle.bed_names.proofs.declarations.labels.Goals as goal

pub returns : goal.returns
returns c =
    let m = c.args.m.now in
    let own = c.in_ok-function_labels.field-0 in
    c.in_ok-append.ensures
    ∙ ap (λ ls. ls ++ own) (c.in_ok-labels.ensures ∙ ap (map (λ (i : Import). (i.name, i.signature))) c.as_slice.ensures)
    ∙ ap (λ ls. map (λ (i : Import). (i.name, i.signature)) m.imports ++ ls)
    (c.in_ok-function_labels.ensures ∙ ap (map (λ (f : Function). (f.name, f.signature))) c.as_slice-2.ensures)
