use Rattle.bed_table.specs.Layout.{import_label}
use Rattle.bed_layout.proofs.NameLemmas.{known_step}
use Rattle.bed_layout.proofs.names.add_imports.Goals as goal

pub loop-import-preserved : goal.loop-import-preserved
loop-import-preserved c =
    let s = c.loop-import in
    known_step import_label c.args.imports.now s.import-index c.import-item.result c.args.table.now s.table c.add.new.table c.loop-import-test.true c.import-item.is s.invariant c.in_ok-add.ensures
