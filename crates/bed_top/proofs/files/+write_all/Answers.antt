use Rattle.std.proofs.Common.{map, ap, sym, ◌∙◌, Err, subst}
use Rattle.bed_top.specs.Gives.{written_of}
use Rattle.bed_top.specs.Lines.{write_fault_line}
use Rattle.bed_top.specs.Outcomes.{IsFault}
use Rattle.bed_top.proofs.ReadLemmas.{split_first}
use Rattle.bed_top.proofs.FileLemmas.{writes_more, writes_failed, writes_short}
use Rattle.bed_top.proofs.files.+write_all.Goals as goal

pub returns-in-Ok : goal.returns-in-Ok
returns-in-Ok g t c =
    writes_more _ _ _ (written_of c.write-item.result) _ _ _ _ c.write.result c.in-Ok.field-0 c.write_all.result
    (ap (map written_of) (sym (split_first c.args.writes.now c.write-item.result c.in-len1-up.len_at_least c.write-item.is))) c.as_slice.ensures c.deref.ensures.value c.in-Ok.is c.write.ensures c.write_all.ensures

pub returns-in-Err-Failed : goal.returns-in-Err-Failed
returns-in-Err-Failed g t c =
    writes_failed _ _ _ (written_of c.write-item.result) _ _ _ _ c.write.result c.unwritten.result
    (ap (map written_of) (sym (split_first c.args.writes.now c.write-item.result c.in-len1-up.len_at_least c.write-item.is))) c.as_slice.ensures (c.in-Err-Failed.is ∙ ap Err c.in-Err-Failed.field-0-is) c.write.ensures
    (subst (λ n. IsFault c.unwritten.result (write_fault_line n)) c.as_slice-in-Err-Failed.ensures c.unwritten.ensures)

pub returns-in-Err-Memory : goal.returns-in-Err-Memory
returns-in-Err-Memory g t c =
    writes_short _ _ (written_of c.write-item.result) _ _ _ _ c.write.result
    (ap (map written_of) (sym (split_first c.args.writes.now c.write-item.result c.in-len1-up.len_at_least c.write-item.is))) c.as_slice.ensures c.write.ensures
