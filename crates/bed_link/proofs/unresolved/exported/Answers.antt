use Rattle.std.proofs.Common.{◌∙◌, ap, map}
use Rattle.bed_lang.specs.declared.module.Function.{Function}
use Rattle.bed_link.specs.declared.parts.Part.{Part}
use Rattle.bed_link.proofs.TableLemmas.{knows_if_ok}
use Rattle.bed_link.proofs.unresolved.exported.Goals as goal

pub returns : goal.returns
returns c =
    knows_if_ok c.names.result _ _ (ap (map (λ (p : Part Function). p.item.now.name)) (c.as_slice.ensures.value ∙ c.in_ok-exported.ensures)) c.names.ensures
