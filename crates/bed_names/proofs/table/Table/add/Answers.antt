use Rattle.std.proofs.Common.{◌∙◌, ap}
use Rattle.bed_names.specs.Tables.{by_bytes}
use Rattle.bed_names.proofs.TableLaws.{is_new, insert_named}
use Rattle.bed_names.proofs.table.Table.add.Goals as goal

pub returns-then-contains_key-clause-is_new : goal.returns-then-contains_key-clause-is_new
returns-then-contains_key-clause-is_new c = rw (← c.self.view_is) ((is_new c.args.name.now c.self.inside.map.entries c.contains_key.result c.contains_key.ensures).0 c.if-contains_key.true)

pub returns-clause-is_new : goal.returns-clause-is_new
returns-clause-is_new c = rw (← c.self.view_is) ((is_new c.args.name.now c.self.inside.map.entries c.contains_key.result c.contains_key.ensures).1 c.if-contains_key.false)

pub returns-clause-new : goal.returns-clause-new
returns-clause-new c =
    let new = (is_new c.args.name.now c.self.inside.map.entries c.contains_key.result c.contains_key.ensures).1 c.if-contains_key.false in
    rw (← c.self.view_is) (ap by_bytes c.in_ok-insert.ensures.entries ∙ insert_named c.in_ok-name.name c.args.name.now c.args.value c.self.inside.map.entries c.in_ok-name.ensures.items new)
