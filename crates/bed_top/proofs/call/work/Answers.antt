use Rattle.std.proofs.Common.{Ok, Err, sym, ◌∙◌, ap, subst}
use Rattle.bed_top.specs.Causes.{word_at}
use Rattle.bed_top.specs.Gives.{texts_of, Judged}
use Rattle.bed_top.specs.Views.{view}
use Rattle.bed_top.specs.Outcomes.{ReadsTexts}
use Rattle.bed_top.proofs.CallLemmas.{read_whole, worked_plan, worked_refusal, worked_unread, texts_counted}
use Rattle.bed_top.proofs.call.work.Goals as goal

pub returns-in-Ok-judge-clause-worked : goal.returns-in-Ok-judge-clause-worked
returns-in-Ok-judge-clause-worked g c = λ words asked.
    let read = read_whole c.args.job.now c.as_slice.result.now c.args.texts.now.items c.read_texts.new.texts.items _ _ _ c.requires.none c.as_slice.ensures c.in-Ok.ensures in
    worked_plan c.args.job.now words (texts_of c.read_texts.new.texts.items) c.in-Ok-judge.plan _ _ _ c.in-Ok.field-0 _ asked c.requires.some read.1
    (subst (λ bs. Judged c.args.job.now (view words (texts_of bs)) (Ok c.in-Ok-judge.plan)) c.deref.ensures.value (c.in-Ok-judge.ensures words)) c.act.ensures.acts

pub returns-in-Err-clause-worked : goal.returns-in-Err-clause-worked
returns-in-Err-clause-worked g c = λ words asked.
    let read = read_whole c.args.job.now c.as_slice.result.now c.args.texts.now.items c.read_texts.new.texts.items _ _ _ c.requires.none c.as_slice.ensures c.in-Ok.ensures in
    worked_refusal c.args.job.now words (texts_of c.read_texts.new.texts.items) c.in-Err.stop _ _ c.in-Ok.field-0 _ asked c.requires.some read.1
    (subst (λ bs. Judged c.args.job.now (view words (texts_of bs)) (Err c.in-Err.stop)) c.deref.ensures.value (c.in-Err.ensures words)) c.refused.ensures

pub returns-in-Err-Failed-clause-worked : goal.returns-in-Err-Failed-clause-worked
returns-in-Err-Failed-clause-worked g c = λ words asked.
    let read = read_whole c.args.job.now c.as_slice.result.now c.args.texts.now.items c.read_texts.new.texts.items _ _ c.read_texts.result c.requires.none c.as_slice.ensures c.read_texts.ensures in
    worked_unread c.args.job.now words (texts_of c.read_texts.new.texts.items) _ _ _ _ asked
    (subst (λ r. ReadsTexts (g.F.Files.seen c.args.files.now) (g.F.Files.seen c.read_texts.new.files) c.args.job.now.modules (texts_of c.read_texts.new.texts.items) r) (c.in-Err-Failed.is ∙ ap Err c.in-Err-Failed.field-0-is) read.1)
    (c.file_name.ensures ∙ ap (word_at c.args.job.now.modules) (c.len.ensures ∙ sym (texts_counted c.read_texts.new.texts))) c.unread.ensures
