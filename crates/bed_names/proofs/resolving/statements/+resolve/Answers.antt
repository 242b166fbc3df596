use Rattle.std.proofs.Common.{◌≡◌, ◌∙◌, ap, subst, inl, inr, IfOk}
use Rattle.bed_lang.specs.declared.statement.StmtKind.{Hint as HintStmt}
use Rattle.bed_names.proofs.ResolvedLemmas.{kept_Assign, kept_Compute, kept_Load, kept_LoadByte, kept_Store, kept_StoreByte, kept_Return, made_Call, made_Hint, made_If, made_While, made_Find, made_Walk, body_step}
use Rattle.bed_names.proofs.resolving.statements.+resolve.Goals as goal

pub kind-returns-in-Assign : goal.kind-returns-in-Assign
kind-returns-in-Assign t c =
    let v = c.args.outer.now in
    let k = c.args.kind.now in
    subst (λ r'. IfOk c.copy.result (λ r. r ≡ r'))
    (elim c.in-Assign.is [
      | inl a ↦ kept_Assign v k a.0 a.1 a.2
      | inr is ↦
          elim is [
            | inl a ↦ kept_Compute v k a.0 a.1 a.2 a.3 a.4
            | inr is ↦
                elim is [
                  | inl a ↦ kept_Load v k a.0 a.1 a.2
                  | inr is ↦
                      elim is [
                        | inl a ↦ kept_LoadByte v k a.0 a.1 a.2
                        | inr is ↦
                            elim is [
                              | inl a ↦ kept_Store v k a.0 a.1 a.2
                              | inr is ↦
                                  elim is [ inl a ↦ kept_StoreByte v k a.0 a.1 a.2 | inr a ↦ kept_Return v k a.0 a.1 ]
                            ]
                      ]
                ]
          ]
    ])
    c.copy.ensures

pub kind-returns-in-Call : goal.kind-returns-in-Call
kind-returns-in-Call t c =
    let w = c.in-Call in
    subst (λ k. IfOk c.resolve_call.result (λ r. r ≡ k))
    (made_Call c.args.outer.now c.args.kind.now w.place w.into w.target w.via w.args w.hints w.after w.is) c.resolve_call.ensures

pub kind-returns-in_ok-hint-in-Hint : goal.kind-returns-in_ok-hint-in-Hint
kind-returns-in_ok-hint-in-Hint t c =
    ap HintStmt c.in_ok-hint-in-Hint.ensures ∙ made_Hint c.args.outer.now c.args.kind.now c.in-Hint.h c.in-Hint.is

pub kind-returns-in_ok-no-in-If : goal.kind-returns-in_ok-no-in-If
kind-returns-in_ok-no-in-If t c =
    let w = c.in-If in
    subst (λ k. IfOk c.resolve_if.result (λ r. r ≡ k))
    (made_If c.args.outer.now c.args.kind.now w.test w.yes w.no c.as_slice.result.now c.as_slice-in-If.result.now c.in_ok-yes-in-If.yes
    c.in_ok-no-in-If.no w.join w.is c.as_slice.ensures c.in_ok-yes-in-If.ensures c.as_slice-in-If.ensures c.in_ok-no-in-If.ensures)
    c.resolve_if.ensures

pub kind-returns-in_ok-b-in-While : goal.kind-returns-in_ok-b-in-While
kind-returns-in_ok-b-in-While t c =
    let w = c.in-While in
    subst (λ k. IfOk c.resolve_while.result (λ r. r ≡ k))
    (made_While c.args.outer.now c.args.kind.now w.test w.place w.invariant w.b c.as_slice-in-While.result.now c.in_ok-b-in-While.b
    w.is c.as_slice-in-While.ensures c.in_ok-b-in-While.ensures)
    c.resolve_while.ensures

pub kind-returns-in_ok-b-in-Find : goal.kind-returns-in_ok-b-in-Find
kind-returns-in_ok-b-in-Find t c =
    let w = c.in-Find in
    subst (λ k. IfOk c.resolve_find.result (λ r. r ≡ k))
    (made_Find c.args.outer.now c.args.kind.now w.node w.value w.key w.list w.seq w.seen w.rest w.keep w.b
    c.as_slice-in-Find.result.now c.in_ok-b-in-Find.b w.is c.as_slice-in-Find.ensures c.in_ok-b-in-Find.ensures)
    c.resolve_find.ensures

pub kind-returns-in_ok-b-in-Walk : goal.kind-returns-in_ok-b-in-Walk
kind-returns-in_ok-b-in-Walk t c =
    let w = c.in-Walk in
    subst (λ k. IfOk c.resolve_walk.result (λ r. r ≡ k))
    (made_Walk c.args.outer.now c.args.kind.now w.node w.value w.list w.seq w.seen w.rest w.keep w.b
    c.as_slice-in-Walk.result.now c.in_ok-b-in-Walk.b w.is c.as_slice-in-Walk.ensures c.in_ok-b-in-Walk.ensures)
    c.resolve_walk.ensures

pub body-loop-s-preserved : goal.body-loop-s-preserved
body-loop-s-preserved t c =
    body_step c.args.outer.now c.args.body.now c.loop-s.out c.push.new.self c.loop-s.s-index c.s-item.result c.in_ok-kind.kind
    c.loop-s-test.true c.s-item.is c.in_ok-kind.ensures c.loop-s.invariant c.in_ok-push.ensures.ok
