use Rattle.std.proofs.Common.{◌∙◌, sym}
use Rattle.bed_names.proofs.ScopedLemmas.{whole_refusal}
use Rattle.bed_names.proofs.scoped.judged.Goals as goal

pub returns-in-Some-clause-refused : goal.returns-in-Some-clause-refused
returns-in-Some-clause-refused c =
    let d = c.args.declaring.now in
    λ no. sym (whole_refusal c.args.m.now d.declared d.found c.items.result c.requires.are c.requires.found c.items.ensures) ∙ c.in-Some.is

pub returns-in_ok-module-in-None-clause-accepted : goal.returns-in_ok-module-in-None-clause-accepted
returns-in_ok-module-in-None-clause-accepted c =
    let d = c.args.declaring.now in
    sym (whole_refusal c.args.m.now d.declared d.found c.items.result c.requires.are c.requires.found c.items.ensures) ∙ c.in-None.is
