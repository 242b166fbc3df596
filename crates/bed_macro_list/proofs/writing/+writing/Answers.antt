use Rattle.std.proofs.Common.{◌∙◌, ◌++◌, ◌∷◌, [], None, sym, ap}
use Rattle.bed_lang.specs.declared.statement.StmtKind.{If}
use Rattle.bed_table.specs.ListLoops.{list_invariant, not_yet, is_key}
use Rattle.bed_sat.specs.Written.{statement, made_test, list_loop, written_statement, written}
use Rattle.bed_sat.proofs.ConditionLaws.{written-Find}
use Rattle.bed_macro_list.proofs.WritingLemmas.{on_ok}
use Rattle.bed_macro_list.proofs.writing.+writing.Goals as goal

pub push_written-returns-in_ok-inside-in-Find : goal.push_written-returns-in_ok-inside-in-Find
push_written-returns-in_ok-inside-in-Find t c =
    let s = c.args.s.now in
    let w = c.in-Find in
    on_ok c.push_find.result _ _
    (λ last. last
    ∙ ap (λ b. c.args.out.now ++ list_loop s.at w.node w.value w.list (list_invariant w.node w.list w.seq w.seen w.rest (not_yet w.key w.seen) w.keep)
    (statement s.at (If (made_test s.at (is_key w.value w.key)) b [] None) ∷ [])) (c.in_ok-inside-in-Find.ensures ∙ ap written c.as_slice-in-Find.ensures)
    ∙ ap (λ l. c.args.out.now ++ l) (sym (written-Find s.at w.node w.value w.key w.list w.seq w.seen w.rest w.keep w.inside))
    ∙ ap (λ k. c.args.out.now ++ written_statement (record { at = s.at; kind = k })) (sym w.is))
    c.push_find.ensures
