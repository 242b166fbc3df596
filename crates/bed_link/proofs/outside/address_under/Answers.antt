use Rattle.std.proofs.Common.{◌∙◌, ap, map}
use Rattle.bed_names.specs.Tables.{item_at}
use Rattle.bed_table.specs.Layout.{address_of, import_label}
use Rattle.bed_link.specs.Seen.{address_or_none}
use Rattle.bed_link.proofs.OutsideLemmas.{address_by_table}
use Rattle.bed_link.proofs.outside.address_under.Goals as goal

pub returns : goal.returns
returns c =
    c.address_at.ensures ∙ ap (λ o. address_or_none (item_at c.args.given.now o)) c.get.ensures
    ∙ address_by_table c.args.table.now c.args.given.now c.as_slice.result.now c.requires
    ∙ ap (address_of (map import_label c.args.given.now)) c.as_slice.ensures
