-- The box that is called is the one with this number.
use Rattle.std.proofs.Common.{◌∙◌, sym, ap}
use Rattle.std.proofs.lemmas.Result.{on_ok_weaker, on_err_weaker, IfOk-weaker}
use Rattle.bed_io.specs.Host.{next_answer, called}
use Rattle.bed_run.proofs.ListLemmas.{seen_host, seen_at, seen_set, left_alone}
use Rattle.bed_run.proofs.hosts.call_in.Goals as goal

pub call-requires-clause-words : goal.call-requires-clause-words
call-requires-clause-words g c =
    c.requires.words _ (seen_host _ c.args.hosts.now.items c.args.i c.index_mut.result.now c.requires.within c.index_mut.ensures.value)

pub call-requires-clause-room : goal.call-requires-clause-room
call-requires-clause-room g c =
    c.requires.room _ (seen_host _ c.args.hosts.now.items c.args.i c.index_mut.result.now c.requires.within c.index_mut.ensures.value)

pub returns-clause-answer : goal.returns-clause-answer
returns-clause-answer g c =
    IfOk-weaker c.call.result _ _ (λ a is h at. is ∙ ap next_answer (sym (seen_at _ c.args.hosts.now.items c.args.i c.index_mut.result.now h c.requires.within c.index_mut.ensures.value at)))
    c.call.ensures.answer

pub returns-clause-after : goal.returns-clause-after
returns-clause-after g c =
    on_ok_weaker c.call.result (λ after h at. seen_set _ c.args.hosts.now.items c.args.i c.call.new.host _
    (after ∙ ap (λ k. called k c.args.args.now) (sym (seen_at _ c.args.hosts.now.items c.args.i c.index_mut.result.now h c.requires.within c.index_mut.ensures.value at))))
    c.call.ensures.after

pub returns-clause-err : goal.returns-clause-err
returns-clause-err g c =
    on_err_weaker c.call.result (λ same. left_alone _ c.args.hosts.now.items c.args.i c.index_mut.result.now c.call.new.host c.requires.within c.index_mut.ensures.value same)
    c.call.ensures.err
