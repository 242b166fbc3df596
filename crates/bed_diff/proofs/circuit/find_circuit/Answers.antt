use Rattle.std.proofs.Common.{◌≡◌, ◌∙◌, ℕ, ◌+◌, ◌<◌, sym, ap, arith, length, List, [], ◌∷◌, get_or, length-append, refl}
use Rattle.std.proofs.lemmas.List.{get_or_read, take_rest}
use Rattle.bed_diff.specs.Rounds.{label_at}
use Rattle.bed_diff.proofs.TrailLemmas.{trail_more, trail_loop, room}
use Rattle.bed_diff.proofs.circuit.find_circuit.Goals as goal

zero_read : (steps : List ℕ) (at r : ℕ) → at < length steps → r ≡ get_or steps at r → r ≡ 0 → get_or steps at 0 ≡ 0
zero_read steps at r h e z = sym (get_or_read steps at r h e 0) ∙ z

pub follow-preserved : goal.follow-preserved
follow-preserved c =
    let t = c.follow.invariant in
    let n = t.nodes in
    let in' = t.inside in
    let pushed = length-append c.follow.walk.items ((label_at c.args.labels.now c.follow.at).edge ∷ []) in
    let items = ap length c.in_ok-push.ensures.items in
    let len : c.len.result ≡ length c.follow.walk.items + 1 = omega arith in
    rw (len, c.in_ok-push.ensures.items)
    (trail_more c.args.edges.now c.args.labels.now c.args.start c.follow.steps.items c.follow.walk.items c.follow.at t
    (zero_read c.follow.steps.items c.follow.at c.index.result.now (omega arith) c.index.ensures c.follow-test.true)
    (label_at c.args.labels.now c.follow.at) refl (λ e h. (c.requires.edges e _ h).to_in)
    (c.requires.pointed c.follow.at in' (omega arith)))

pub returns-then-label-eq0-clause-late : goal.returns-then-label-eq0-clause-late
returns-then-label-eq0-clause-late c =
    let t = c.follow.invariant in
    let n = t.nodes in
    let in' = t.inside in
    let near = t.near in
    let r = room c.args.edges.now c.args.labels.now c.args.start c.follow.steps.items c.follow.walk.items c.follow.at t
    (zero_read c.follow.steps.items c.follow.at c.index.result.now (omega arith) c.index.ensures c.follow-test.true) in
    omega arith

pub overflow_cast-len : goal.overflow_cast-len
overflow_cast-len c =
    let t = c.follow.invariant in
    let n = t.nodes in
    let in' = t.inside in
    let r = room c.args.edges.now c.args.labels.now c.args.start c.follow.steps.items c.follow.walk.items c.follow.at t
    (zero_read c.follow.steps.items c.follow.at c.index.result.now (omega arith) c.index.ensures c.follow-test.true) in
    let pushed = length-append c.follow.walk.items ((label_at c.args.labels.now c.follow.at).edge ∷ []) in
    let items = ap length c.in_ok-push.ensures.items in
    let len : c.len.result ≡ length c.follow.walk.items + 1 = omega arith in
    let most = c.requires.nodes in
    omega arith

pub follow-smaller : goal.follow-smaller
follow-smaller c =
    let t = c.follow.invariant in
    let n = t.nodes in
    let in' = t.inside in
    let r = room c.args.edges.now c.args.labels.now c.args.start c.follow.steps.items c.follow.walk.items c.follow.at t
    (zero_read c.follow.steps.items c.follow.at c.index.result.now (omega arith) c.index.ensures c.follow-test.true) in
    let pushed = length-append c.follow.walk.items ((label_at c.args.labels.now c.follow.at).edge ∷ []) in
    let items = ap length c.in_ok-push.ensures.items in
    omega arith

pub returns-clause-found : goal.returns-clause-found
returns-clause-found c =
    let t = c.follow.invariant in
    let n = t.nodes in
    let in' = t.inside in
    let first : c.index-2.result.now ≡ get_or c.follow.steps.items c.follow.at 0 = get_or_read c.follow.steps.items c.follow.at c.index-2.result.now (omega arith) c.index-2.ensures 0 in
    let tested : c.index.result.now ≡ get_or c.follow.steps.items c.follow.at 0 = get_or_read c.follow.steps.items c.follow.at c.index.result.now (omega arith) c.index.ensures 0 in
    let made = trail_loop c.args.edges.now c.args.labels.now c.args.start c.follow.steps.items c.follow.walk.items c.follow.at t (omega arith) in
    rw (c.in_ok-found.ensures.items, c.deref.ensures.value, first, take_rest) made
