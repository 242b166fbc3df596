use Rattle.std.proofs.Common.{◌∙◌}
use Rattle.bed_names.proofs.TableLaws.{lookup_bytes}
use Rattle.bed_names.proofs.table.Table.get.Goals as goal

pub returns : goal.returns
returns c = rw (← c.self.view_is) (c.copied.ensures ∙ c.get.ensures.value ∙ lookup_bytes c.args.name.now c.self.inside.map.entries)
