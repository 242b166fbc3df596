use Rattle.std.proofs.Common.{◌∙◌, ap}
use Rattle.bed_names.proofs.StatementLemmas.{if_found, while_found, find_found, walk_found, falls_step, found_step}
use Rattle.bed_names.proofs.statements.+judge.Goals as goal

pub body-loop-s-preserved : goal.body-loop-s-preserved
body-loop-s-preserved t c =
    let i = c.args.inside.now in
    record {
      falls = falls_step i c.args.body.now c.loop-s.s-index c.s-item.result c.loop-s-test.true c.s-item.is
          c.loop-s.falls c.kind-judged.result.falls _ c.loop-s.invariant.falls c.kind-judged.ensures.falls;
      found = found_step i c.args.body.now c.loop-s.s-index c.s-item.result c.loop-s-test.true c.s-item.is
          c.loop-s.falls c.kind-judged.result.falls c.loop-s.found c.note_if-found.result c.kind-judged.result.found _
          c.loop-s.invariant.found c.note_if-found.ensures c.kind-judged.ensures.falls c.kind-judged.ensures.found;
    }

pub kind-returns-in-While-clause-found : goal.kind-returns-in-While-clause-found
kind-returns-in-While-clause-found t c =
    let w = c.in-While in
    ap (λ j. j.found) c.straight-in-While.ensures
    ∙ while_found c.args.inside.now c.args.kind.now w.t w.place w.invariant w.b c.as_slice.result.now c.args.at
    c.outer-in-While.result.now c.args.found c.test.result c.assertion-found.result c.body.result.found
    w.is c.as_slice.ensures c.outer-in-While.ensures c.test.ensures c.assertion-found.ensures c.body.ensures.found

pub kind-returns-in-Find-clause-found : goal.kind-returns-in-Find-clause-found
kind-returns-in-Find-clause-found t c =
    let w = c.in-Find in
    ap (λ j. j.found) c.straight-in-Find.ensures
    ∙ find_found c.args.inside.now c.args.kind.now w.node w.value w.key w.list w.seq w.seen w.rest w.keep w.b
    c.as_slice-in-Find.result.now c.args.at c.body-b.result.falls c.args.found c.find-found.result c.body-b.result.found
    c.note_if.result w.is c.as_slice-in-Find.ensures c.find-found.ensures c.body-b.ensures.falls c.body-b.ensures.found
    c.note_if.ensures

pub kind-returns-in-Walk-clause-found : goal.kind-returns-in-Walk-clause-found
kind-returns-in-Walk-clause-found t c =
    let w = c.in-Walk in
    ap (λ j. j.found) c.straight-in-Walk.ensures
    ∙ walk_found c.args.inside.now c.args.kind.now w.node w.value w.list w.seq w.seen w.rest w.keep w.b
    c.as_slice-in-Walk.result.now c.args.at c.body-b-in-Walk.result.falls c.args.found c.walk-found.result c.body-b-in-Walk.result.found
    c.note_if-in-Walk.result w.is c.as_slice-in-Walk.ensures c.walk-found.ensures c.body-b-in-Walk.ensures.falls
    c.body-b-in-Walk.ensures.found c.note_if-in-Walk.ensures

pub kind-returns-then-yes-clause-found : goal.kind-returns-then-yes-clause-found
kind-returns-then-yes-clause-found t c =
    let w = c.in-If in
    if_found c.args.inside.now c.args.kind.now w.t w.yes w.no c.as_slice-ys.result.now c.as_slice-ns.result.now w.j c.args.at
    c.body-yes.result.falls c.body-no.result.falls c.outer.result.now
    c.args.found c.test-tested.result c.body-yes.result.found c.body-no.result.found c.join-found.result
    w.is c.as_slice-ys.ensures c.as_slice-ns.ensures c.outer.ensures c.test-tested.ensures c.body-yes.ensures.falls
    c.body-yes.ensures.found c.body-no.ensures.falls c.body-no.ensures.found c.join-found.ensures

pub kind-returns-else-yes-clause-found : goal.kind-returns-else-yes-clause-found
kind-returns-else-yes-clause-found t c =
    let w = c.in-If in
    if_found c.args.inside.now c.args.kind.now w.t w.yes w.no c.as_slice-ys.result.now c.as_slice-ns.result.now w.j c.args.at
    c.body-yes.result.falls c.body-no.result.falls c.outer.result.now
    c.args.found c.test-tested.result c.body-yes.result.found c.body-no.result.found c.join-found.result
    w.is c.as_slice-ys.ensures c.as_slice-ns.ensures c.outer.ensures c.test-tested.ensures c.body-yes.ensures.falls
    c.body-yes.ensures.found c.body-no.ensures.falls c.body-no.ensures.found c.join-found.ensures
