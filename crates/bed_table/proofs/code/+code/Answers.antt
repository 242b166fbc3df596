use Rattle.std.proofs.Common.{ℕ, ◌+◌, ◌≤◌, ◌++◌, ◌∙◌, ap, ap₂, sym, map, drop, subst}
use Rattle.bed_lang.specs.Skeletons.{no_assertion}
use Rattle.bed_table.specs.Pieces.{nothing, size_of, bytes_of}
use Rattle.bed_table.specs.CodeTable.{choice, jump_size}
use Rattle.bed_table.specs.ListLoops.{list_loop, is_key}
use Rattle.bed_table.specs.Code.{piece, kind_piece, body_piece}
use Rattle.bed_table.specs.Seen.{names_in, labels_in}
use Rattle.bed_table.proofs.CodeLemmas.{on_ok, at_row, piece-If, piece-Find, body_done, body_within, choice_made, walk_made, find_made}
use Rattle.bed_table.proofs.code.+code.Goals as goal

pub put_body-loop-item-preserved : goal.put_body-loop-item-preserved
put_body-loop-item-preserved t c =
    let rest = map piece (drop (c.loop-item.item-index + 1) c.args.body.now) in
    record {
      within = subst (λ x. c.loop-item.next + x + size_of rest ≤ 4294967296) (sym c.small_kind_size-next.ensures)
          (body_within c.args.body.now c.loop-item.item-index c.item-item.result c.loop-item.next c.loop-item-test.true c.item-item.is c.loop-item.invariant.within);
      same = ap (λ x. c.put_kind.new.out.items ++ bytes_of (names_in c.args.scope.now) (labels_in c.args.scope.now) (c.loop-item.next + x) rest) c.small_kind_size-next.ensures
          ∙ body_done (names_in c.args.scope.now) (labels_in c.args.scope.now) c.args.body.now c.loop-item.item-index c.item-item.result c.loop-item.next
          c.loop-item.out.items c.put_kind.new.out.items _ c.loop-item-test.true c.item-item.is c.loop-item.invariant.same c.in_ok-put_kind.ensures;
    }

pub put_find-returns : goal.put_find-returns
put_find-returns t c =
    on_ok c.put_list_back.result _ _
    (λ last. find_made (names_in c.args.scope.now) (labels_in c.args.scope.now) c.args.node.now c.args.value.now c.args.key.now c.args.list.now no_assertion
    (body_piece c.args.body.now) c.args.at c.key_test_size.result c.small_body_size.result c.jump_size.result c.body_falls-falls.result
    c.args.out.now.items c.put_list_front.new.out.items c.put_key_test.new.out.items c.put_body.new.out.items c.put_jump_if.new.out.items c.put_list_back.new.out.items
    c.body_falls-falls.ensures c.key_test_size.ensures c.small_body_size.ensures c.jump_size.ensures
    c.in_ok-put_list_front.ensures c.in_ok-put_key_test.ensures c.in_ok-put_body.ensures c.in_ok-put_jump_if.ensures last)
    c.put_list_back.ensures

pub put_walk-returns : goal.put_walk-returns
put_walk-returns t c =
    on_ok c.put_list_back.result _ _
    (λ last. walk_made (names_in c.args.scope.now) (labels_in c.args.scope.now) c.args.node.now c.args.value.now c.args.list.now no_assertion
    (body_piece c.args.body.now) c.args.at c.small_body_size.result
    c.args.out.now.items c.put_list_front.new.out.items c.put_body.new.out.items c.put_list_back.new.out.items
    c.small_body_size.ensures c.in_ok-put_list_front.ensures c.in_ok-put_body.ensures last)
    c.put_list_back.ensures

pub put_kind-returns-in_ok-put_guarded-in-If : goal.put_kind-returns-in_ok-put_guarded-in-If
put_kind-returns-in_ok-put_guarded-in-If t c =
    let N = names_in c.args.scope.now in
    let L = labels_in c.args.scope.now in
    let w = c.in-If in
    let no_at : ℕ = c.args.at + c.test_size.result + c.small_body_size.result + c.jump_size.result in
    on_ok c.put_body.result _ _
    (λ last. at_row N L c.args.kind.now _ c.args.at c.args.out.now.items c.put_body.new.out.items
    (ap kind_piece w.is ∙ piece-If w.test w.yes w.no w.join)
    (choice_made N L w.test (body_piece c.as_slice-yes.result.now) (body_piece c.as_slice-no.result.now) c.args.at no_at (no_at + c.small_body_size-in-If.result)
    c.args.out.now.items c.put_guarded.new.out.items c.put_body.new.out.items
    (ap₂ (λ x y. x + y) (ap₂ (λ x y. c.args.at + x + y) c.test_size.ensures c.small_body_size.ensures) (c.jump_size.ensures ∙ ap jump_size c.body_falls.ensures))
    (ap (λ x. no_at + x) c.small_body_size-in-If.ensures)
    c.in_ok-put_guarded-in-If.ensures last
    ∙ ap₂ (λ ys ns. c.args.out.now.items ++ (choice w.test (body_piece ys) (body_piece ns)).bytes N L c.args.at) c.as_slice-yes.ensures c.as_slice-no.ensures))
    c.put_body.ensures

pub put_kind-returns-in-Find : goal.put_kind-returns-in-Find
put_kind-returns-in-Find t c =
    let N = names_in c.args.scope.now in
    let L = labels_in c.args.scope.now in
    let w = c.in-Find in
    on_ok c.put_find.result _ _
    (λ last. at_row N L c.args.kind.now _ c.args.at c.args.out.now.items c.put_find.new.out.items
    (ap kind_piece w.is ∙ piece-Find w.node w.value w.key w.list w.seq w.seen w.rest w.keep w.body)
    (last ∙ ap (λ b. c.args.out.now.items ++ (list_loop w.node w.value w.list no_assertion (choice (is_key w.value w.key) (body_piece b) nothing)).bytes N L c.args.at) c.as_slice-in-Find.ensures))
    c.put_find.ensures
