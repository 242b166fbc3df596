use Rattle.std.proofs.Common.{refl}
use Rattle.bed_table.proofs.StepLemmas.{table_made}
use Rattle.bed_table.proofs.build.all_symbols.Goals as goal

pub returns : goal.returns
returns c =
    table_made _ _ (record { count = 0; bytes = c.new.result }) c.put_functions.new.self c.put_imports.new.self
    c.new.ensures.items refl c.in_ok-put_functions.ensures c.in_ok-put_imports.ensures
