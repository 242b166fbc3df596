use Rattle.std.proofs.Common.{◌∙◌, ap, refl, [], false}
use Rattle.bed_names.specs.Faults.{noted}
use Rattle.bed_lang.specs.Lookups.{signature_named}
use Rattle.bed_names.specs.Terms.{signature_name_faults}
use Rattle.bed_names.specs.Modules.{plain, faults_under, function_faults}
use Rattle.bed_names.proofs.NotedLemmas.{two_notes}
use Rattle.bed_names.proofs.functions.function.Goals as goal

pub returns : goal.returns
returns c =
    let d = c.args.declared.now in
    let f = c.args.f.now in
    two_notes c.args.found c.named_signature-found.result c.function_under.result
    (signature_name_faults (plain d [] false) f.signature) (faults_under d (signature_named d f.signature.bytes) f) (function_faults d f)
    refl c.named_signature-found.ensures
    (c.function_under.ensures ∙ ap (λ s. noted c.named_signature-found.result (faults_under d s f)) c.signature.ensures.is)
