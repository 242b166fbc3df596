use Rattle.std.proofs.Common.{rules, arith, ◌≡◌, length, refl, ap}
use Rattle.bed_search.specs.Procedure.{ClosesBy}
use Rattle.bed_search.proofs.SearchLaws.{proofs_refused, left_refused}
use Rattle.bed_search.proofs.SearchLemmas.{list_is, either_large, counted, measured, refused_of, refused_rests, found_answers, stuck_left, onward_left, others_room, never_todo, large_todo, makes, goes_given, goes_stepped, goes_nowhere, step_refused, step_finished}
use Rattle.bed_search.proofs.searching.+search.Goals as goal

pub children-returns-in-None : goal.children-returns-in-None
children-returns-in-None g t c =
    stuck_left (ClosesBy (g.L.Layers.ways c.args.layers.now) c.args.todo.now c.args.gives.now) c.args.rests.now c.args.trees.now c.args.nodes c.args.nesting
    c.loop-left.left.now c.rest-item.result _ c.loop-left.trees c.loop-left.sum c.loop-left.deepest c.in_ok-search.field-0 c.loop-left.invariant.1
    (list_is c.loop-left.left.now c.rest-item.result c.rest-item.is c.in-len1-up.len_at_least) c.in_ok-search.ensures c.in-None.is

pub children-loop-left-preserved : goal.children-loop-left-preserved
children-loop-left-preserved g t c =
    let is = list_is c.loop-left.left.now c.rest-item.result c.rest-item.is c.in-len1-up.len_at_least in (
      others_room c.loop-left.left.now c.rest-item.result _ _ is refl c.loop-left.invariant.0,
      onward_left (ClosesBy (g.L.Layers.ways c.args.layers.now) c.args.todo.now c.args.gives.now) c.args.rests.now c.args.trees.now c.args.nodes c.args.nesting
          c.loop-left.left.now c.rest-item.result _ _ c.loop-left.trees c.push.new.self c.loop-left.sum c.loop-left.deepest c.greater-deepest.result
          c.in_ok-search.field-0 c.in-Some.found c.loop-left.invariant.1 is refl c.in_ok-search.ensures c.in-Some.is c.in_ok-push-in-Some.ensures.ok c.greater-deepest.ensures,
    )

pub finished-returns-then-own-nodes : goal.finished-returns-then-own-nodes
finished-returns-then-own-nodes g t c =
    proofs_refused (g.L.Layers.ways c.args.layers.now) c.args.rest.now c.args.step c.requires (ClosesBy (g.L.Layers.ways c.args.layers.now) c.args.more.now c.args.gives.now) c.args.nodes c.args.nesting
    (either_large _ _ _ c.then-own-nodes.either)

pub finished-over-requires-clause-counted : goal.finished-over-requires-clause-counted
finished-over-requires-clause-counted g t c =
    let e = counted (ClosesBy (g.L.Layers.ways c.args.layers.now) c.args.more.now c.args.gives.now) _ _ _ _ _ c.in_ok-children.field-0 c.in-Some.sum c.in-Some.deepest c.in_ok-children.ensures c.in-Some.is in
    let f = c.requires.nodes_are in omega arith

pub finished-over-requires-clause-measured : goal.finished-over-requires-clause-measured
finished-over-requires-clause-measured g t c =
    let e = measured (ClosesBy (g.L.Layers.ways c.args.layers.now) c.args.more.now c.args.gives.now) _ _ _ _ _ c.in_ok-children.field-0 c.in-Some.sum c.in-Some.deepest c.in_ok-children.ensures c.in-Some.is in
    let f = c.requires.nesting_is in let h = c.greater.ensures in omega arith

pub finished-returns-in-None : goal.finished-returns-in-None
finished-returns-in-None g t c =
    left_refused (g.L.Layers.ways c.args.layers.now) c.args.rest.now c.args.step c.requires (ClosesBy (g.L.Layers.ways c.args.layers.now) c.args.more.now c.args.gives.now) c.args.nodes c.args.nesting
    (omega arith) (omega arith)
    (refused_rests _ _ _ _ _ c.as_slice.ensures (refused_of (ClosesBy (g.L.Layers.ways c.args.layers.now) c.args.more.now c.args.gives.now) _ _ _ _ _ c.in_ok-children.field-0 c.in_ok-children.ensures c.in-None.is))

pub finished-returns-in-Some : goal.finished-returns-in-Some
finished-returns-in-Some g t c =
    found_answers (g.L.Layers.ways c.args.layers.now) c.args.rest.now c.args.step c.requires (ClosesBy (g.L.Layers.ways c.args.layers.now) c.args.more.now c.args.gives.now)
    c.as_slice.result.now c.as_slice.ensures c.children.new.trees _ _ c.args.nodes c.args.nesting c.in_ok-children.field-0 c.in-Some.sum c.in-Some.deepest
    c.in_ok-children.ensures c.in-Some.is c.over.result c.over.ensures

pub live-stepped-requires : goal.live-stepped-requires
live-stepped-requires g t c κs within =
    let e = ap length (list_is c.loop-left.left.now c.x-item.result c.x-item.is c.in-len1-up.len_at_least) in
    let none = makes c.args.rest.now.state c.x-item.result c.in_ok-given.field-0 c.in_ok-given.ensures c.in-None.is in
    (omega arith, (within, (c.requires.room, (c.requires.live, (none, (c.requires.some_nodes, c.requires.some_nesting))))))

pub live-returns-in-None : goal.live-returns-in-None
live-returns-in-None g t c =
    goes_stepped (g.L.Layers.ways c.args.layers.now) c.args.todo.now c.args.gives.now c.loop-left.left.now c.loop-left.all c.args.rest.now c.args.nodes c.args.nesting
    c.loop-left.invariant.1 c.x-item.result _ _ (list_is c.loop-left.left.now c.x-item.result c.x-item.is c.in-len1-up.len_at_least) refl
    c.as_slice.result.now c.as_slice.ensures c.stepped.result c.stepped.ensures

pub live-loop-left-preserved : goal.live-loop-left-preserved
live-loop-left-preserved g t c =
    let is = list_is c.loop-left.left.now c.x-item.result c.x-item.is c.in-len1-up.len_at_least in
    let e = ap length is in (
      omega arith,
      goes_given (g.L.Layers.ways c.args.layers.now) c.args.todo.now c.args.gives.now c.loop-left.left.now c.loop-left.all c.args.rest.now c.args.nodes c.args.nesting
          c.requires.live c.loop-left.invariant.1 c.x-item.result _ _ is refl
          c.in_ok-given.field-0 c.in-Some.give c.in_ok-given.ensures c.in-Some.is c.push.new.self c.in_ok-push-in-Some.ensures.ok,
    )

pub live-returns : goal.live-returns
live-returns g t c =
    goes_nowhere (g.L.Layers.ways c.args.layers.now) c.args.todo.now c.args.gives.now c.loop-left.left.now c.loop-left.all c.args.rest.now c.args.nodes c.args.nesting
    c.loop-left.invariant.1 (omega arith)

pub search-returns-in-Shown : goal.search-returns-in-Shown
search-returns-in-Shown g t c =
    never_todo (g.L.Layers.ways c.args.layers.now) c.args.todo.now c.args.gives.now c.args.rest.now c.args.nodes c.args.nesting _ _ (omega arith)
    c.in_ok-proof.field-0 c.in-Shown.proof c.in_ok-proof.ensures c.in-Shown.is c.never.result c.never.ensures

pub search-returns-in-TooLarge : goal.search-returns-in-TooLarge
search-returns-in-TooLarge g t c =
    large_todo (g.L.Layers.ways c.args.layers.now) c.args.todo.now c.args.gives.now c.args.rest.now c.args.nodes c.args.nesting (omega arith) (omega arith) (omega arith)
    c.in_ok-proof.field-0 c.in_ok-proof.ensures c.in-TooLarge.is

pub stepped-returns-in-None : goal.stepped-returns-in-None
stepped-returns-in-None g t c =
    step_refused (g.L.Layers.ways c.args.layers.now) c.args.x.now c.args.more.now c.args.gives.now c.args.rest.now c.args.nodes c.args.nesting
    c.requires.live c.requires.makes c.requires.some_nodes c.requires.some_nesting c.in_ok-step.field-0 c.in_ok-step.ensures c.in-None.is

pub stepped-returns-in-Some : goal.stepped-returns-in-Some
stepped-returns-in-Some g t c =
    step_finished (g.L.Layers.ways c.args.layers.now) c.args.x.now c.args.more.now c.args.gives.now c.args.rest.now c.args.nodes c.args.nesting _ _
    c.requires.live c.requires.makes c.in_ok-step.field-0 c.in-Some.step c.in_ok-step.ensures c.in-Some.is c.gives_behind.result.now c.gives_behind.ensures
    c.finished.result c.finished.ensures
