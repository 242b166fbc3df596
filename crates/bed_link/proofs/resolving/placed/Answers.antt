use Rattle.std.proofs.Common.{◌∙◌, ap, map}
use Rattle.std.proofs.lemmas.Result.{err_from_is_err_and}
use Rattle.bed_table.specs.Layout.{all_defined}
use Rattle.bed_link.specs.Seen.{module_of, outside_of}
use Rattle.bed_link.proofs.ResolvingLemmas.{placed_refused, placed_none, linked_is, defined_seen, outside_seen}
use Rattle.bed_link.proofs.resolving.placed.Goals as goal

pub returns-in_err-all_apart-clause-refused : goal.returns-in_err-all_apart-clause-refused
returns-in_err-all_apart-clause-refused c =
    let p = err_from_is_err_and c.from_residual-in_err-all_apart.result c.from_residual-in_err-all_apart.ensures.1 in
    rw (p.1, p.2) (λ no.
    placed_refused c.args.modules.now c.args.functions.now c.args.imports.now c.args.given.now c.args.base c.requires.functions c.requires.imports _ (map outside_of c.as_slice.result.now)
    c.in_ok-length.length c.in_ok-length.ensures.accepted c.in_ok-length.ensures.length
    (ap (map outside_of) c.as_slice.ensures.value ∙ c.in_ok-outside.ensures (all_defined (map module_of c.args.modules.now)) (defined_seen c.args.modules.now c.args.functions.now c.args.imports.now c.args.given.now c.args.base c.requires.functions c.requires.imports) ∙ outside_seen c.args.modules.now c.args.functions.now c.args.imports.now c.args.given.now c.args.base c.requires.functions c.requires.imports)
    (c.in_err-all_apart.ensures.refused no))

pub returns-clause-linkable : goal.returns-clause-linkable
returns-clause-linkable c =
    placed_none c.args.modules.now c.args.functions.now c.args.imports.now c.args.given.now c.args.base c.requires.functions c.requires.imports (map outside_of c.as_slice.result.now)
    c.in_ok-length.length c.in_ok-length.ensures.accepted c.in_ok-length.ensures.length
    (ap (map outside_of) c.as_slice.ensures.value ∙ c.in_ok-outside.ensures (all_defined (map module_of c.args.modules.now)) (defined_seen c.args.modules.now c.args.functions.now c.args.imports.now c.args.given.now c.args.base c.requires.functions c.requires.imports) ∙ outside_seen c.args.modules.now c.args.functions.now c.args.imports.now c.args.given.now c.args.base c.requires.functions c.requires.imports)
    c.in_ok-all_apart.ensures.accepted

pub returns-clause-linked : goal.returns-clause-linked
returns-clause-linked c =
    linked_is c.args.modules.now c.args.functions.now c.args.imports.now c.args.given.now c.args.base c.requires.functions c.requires.imports _ c.in_ok-length.ensures.accepted
    c.in_ok-linked.ensures.base (c.in_ok-linked.ensures.length ∙ c.in_ok-length.ensures.length) c.in_ok-linked.ensures.functions
    c.in_ok-linked.ensures.loops
    (c.in_ok-linked.ensures.imports ∙ (ap (map outside_of) c.as_slice-2.ensures.value ∙ c.in_ok-outside.ensures (all_defined (map module_of c.args.modules.now)) (defined_seen c.args.modules.now c.args.functions.now c.args.imports.now c.args.given.now c.args.base c.requires.functions c.requires.imports) ∙ outside_seen c.args.modules.now c.args.functions.now c.args.imports.now c.args.given.now c.args.base c.requires.functions c.requires.imports))
