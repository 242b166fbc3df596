use Rattle.bed_layout.specs.Addresses.{function_label}
use Rattle.bed_layout.proofs.NameLemmas.{known_step}
use Rattle.bed_layout.proofs.names.add_functions.Goals as goal

pub loop-function-preserved : goal.loop-function-preserved
loop-function-preserved c =
    let s = c.loop-function in
    known_step function_label c.args.functions.now s.function-index c.function-item.result c.args.table.now s.table c.add.new.table c.loop-function-test.true c.function-item.is s.invariant c.in_ok-add.ensures
