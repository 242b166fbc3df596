use Rattle.std.proofs.Common.{◌∙◌, ap, map}
use Rattle.bed_link.proofs.OutsideLemmas.{outside_if_ok}
use Rattle.bed_link.proofs.outside.outside_imports.Goals as goal

pub returns : goal.returns
returns c =
    outside_if_ok (λ v. v.items) c.with_addresses.result c.in_ok-exported.exported c.args.functions.now (map (λ p. p.item.now.name) c.args.imports.now) c.args.given.now c.as_slice.result.now
    c.in_ok-exported.ensures (λ ds same. ap (map (λ n. n.now)) c.as_slice.ensures.value ∙ c.in_ok-imports.ensures ds same) c.with_addresses.ensures
