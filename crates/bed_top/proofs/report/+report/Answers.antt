use Rattle.std.proofs.Common.{map, ap, sym, ◌∙◌}
use Rattle.bed_top.specs.Lines.{text_of}
use Rattle.bed_top.proofs.ReadLemmas.{split_first}
use Rattle.bed_top.proofs.ReportLemmas.{put_more, put_short, first_broke, sink_goes, sink_goes_more}
use Rattle.bed_top.proofs.report.+report.Goals as goal

pub returns-in-Ok-put-clause-put : goal.returns-in-Ok-put-clause-put
returns-in-Ok-put-clause-put g t c =
    put_more _ _ _ (text_of c.line-item.result) _ _ _ _ _ c.put.result c.in-Ok-put.field-0
    (ap (map text_of) (sym (split_first c.args.lines.now c.line-item.result c.in-len1-up.len_at_least c.line-item.is))) (c.deref.ensures.value ∙ c.in-Ok.ensures) c.in-Ok-put.is c.put.ensures c.report.ensures.put

pub returns-in-Ok-put-clause-goes_on : goal.returns-in-Ok-put-clause-goes_on
returns-in-Ok-put-clause-goes_on g t c = sink_goes_more _ _ _ _ c.put.result c.put.ensures c.report.ensures.goes_on

pub returns-in-Err-put-clause-put : goal.returns-in-Err-put-clause-put
returns-in-Err-put-clause-put g t c =
    first_broke _ _ (text_of c.line-item.result) _ _ _ _ c.put.result c.in-Err-put.field-0
    (ap (map text_of) (sym (split_first c.args.lines.now c.line-item.result c.in-len1-up.len_at_least c.line-item.is))) (c.deref.ensures.value ∙ c.in-Ok.ensures) c.in-Err-put.is c.put.ensures

pub returns-in-Err-put-clause-goes_on : goal.returns-in-Err-put-clause-goes_on
returns-in-Err-put-clause-goes_on g t c = sink_goes _ _ _ c.put.result c.put.ensures

pub returns-in-Err-clause-put : goal.returns-in-Err-clause-put
returns-in-Err-clause-put g t c =
    put_short _ (text_of c.line-item.result) _ _ _ _ _ (ap (map text_of) (sym (split_first c.args.lines.now c.line-item.result c.in-len1-up.len_at_least c.line-item.is))) c.put_memory.ensures.put
