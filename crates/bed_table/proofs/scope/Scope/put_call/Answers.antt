use Rattle.bed_table.specs.Seen.{names_in, labels_in}
use Rattle.bed_table.proofs.CodeLemmas.{on_ok, call_done}
use Rattle.bed_table.proofs.scope.Scope.put_call.Goals as goal

pub returns : goal.returns
returns c =
    on_ok c.put_transfer.result _ _
    (λ last. call_done (names_in c.args.self.now) (labels_in c.args.self.now) c.args.x.now c.args.target.now c.args.arguments.now c.args.at
    c.small_arguments_size.result c.operand_size.result
    c.args.out.now.items c.put_arguments.new.out.items c.put_into_edx.new.out.items c.put_transfer.new.out.items
    c.small_arguments_size.ensures c.operand_size.ensures c.in_ok-put_arguments.ensures c.in_ok-put_into_edx.ensures last)
    c.put_transfer.ensures
