use Rattle.std.proofs.Common.{ℕ, ◌≤◌, ◌+◌, List, length, sym, subst, arith}
use Rattle.bed_top.specs.Causes.{most_text}
use Rattle.bed_top.specs.Gives.{texts_of}
use Rattle.bed_top.proofs.LeafLemmas.{read_pass, read_stop}
use Rattle.bed_top.proofs.ReadLemmas.{read_all, as_many, cut_at}
use Rattle.bed_top.proofs.stages.reader.Goals as goal

pub returns-in-Ok-clause-gives : goal.returns-in-Ok-clause-gives
returns-in-Ok-clause-gives c = λ words.
    read_pass c.args.job.now words (texts_of c.args.texts.now) c.read_modules.new.modules
    (read_all (texts_of c.args.texts.now) c.new-modules.result.items c.read_modules.new.modules.items c.new-modules.ensures.items c.in-Ok.ensures.ok)

pub returns-in-Ok-clause-each : goal.returns-in-Ok-clause-each
returns-in-Ok-clause-each c =
    as_many c.args.texts.now c.read_modules.new.modules.items
    (read_all (texts_of c.args.texts.now) c.new-modules.result.items c.read_modules.new.modules.items c.new-modules.ensures.items c.in-Ok.ensures.ok)

pub refuse_text-requires : goal.refuse_text-requires
refuse_text-requires c =
    let short = subst (λ (t : List ℕ). length t ≤ most_text + 1) (sym c.nth_text.ensures) (cut_at (texts_of c.args.texts.now) c.in-Err.file c.requires.cut) in
    omega (arith, short)

pub returns-in-Err-clause-gives : goal.returns-in-Err-clause-gives
returns-in-Err-clause-gives c = λ words.
    read_stop c.args.job.now words (texts_of c.args.texts.now) c.in-Err.file _ _ c.in-Err.error c.file_name-called.ensures c.nth_text.ensures
    c.in-Err.ensures.refused _ c.refuse_text.ensures.stop c.refuse_text.ensures.memory
