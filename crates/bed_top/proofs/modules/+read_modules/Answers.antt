use Rattle.bed_top.proofs.LeafLemmas.{refused_first, refused_more}
use Rattle.bed_top.proofs.modules.+read_modules.Goals as goal

pub returns-in-Err-clause-refused : goal.returns-in-Err-clause-refused
returns-in-Err-clause-refused t c =
    refused_first c.args.file c.args.texts.now c.text-item.result _ c.in-Err.error c.in-len1-up.len_at_least c.text-item.is c.deref.ensures.value c.in-Err.ensures.exact

pub returns-else-is_err-clause-refused : goal.returns-else-is_err-clause-refused
returns-else-is_err-clause-refused t c =
    refused_more c.args.file c.args.texts.now c.text-item.result c.in-Ok.module _ c.read_modules.result c.in-len1-up.len_at_least c.text-item.is c.deref.ensures.value
    c.in-Ok.ensures.exact c.read_modules.ensures.refused
