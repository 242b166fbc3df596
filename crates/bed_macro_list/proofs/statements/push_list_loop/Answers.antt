use Rattle.bed_macro_list.proofs.WritingLemmas.{on_ok, loop_made}
use Rattle.bed_macro_list.proofs.statements.push_list_loop.Goals as goal

pub returns : goal.returns
returns c =
    on_ok c.push_hint-2.result _ _
    (λ last. loop_made c.args.at c.args.node.now c.args.value.now c.args.list.now c.args.invariant c.args.visit c.in_ok-body.body
    c.args.out.now c.push_entry.new.out c.push_while.new.out c.push_hint.new.out c.push_hint-2.new.out c.in_ok-unfold_at.field-0 c.in_ok-fold_list.field-0
    c.in_ok-push_entry.ensures c.in_ok-body.ensures c.in_ok-push_while.ensures c.in_ok-unfold_at.ensures c.in_ok-push_hint.ensures c.in_ok-fold_list.ensures last)
    c.push_hint-2.ensures
