use Rattle.std.proofs.Common.{map}
use Rattle.bed_table.specs.Layout.{import_label}
use Rattle.bed_layout.specs.Addresses.{function_label}
use Rattle.bed_layout.proofs.NameLemmas.{table_known}
use Rattle.bed_layout.proofs.names.table_of.Goals as goal

pub returns : goal.returns
returns c =
    table_known c.new-table.result c.add_functions.new.table c.add_imports.new.table (map function_label c.args.functions.now) (map import_label c.args.imports.now) c.new-table.ensures c.in_ok-add_functions.ensures c.in_ok-add_imports.ensures
