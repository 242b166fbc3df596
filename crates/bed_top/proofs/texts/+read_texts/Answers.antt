use Rattle.std.proofs.Common.{◌≡◌, ◌++◌, ◌∷◌, [], Err, IsTrue, is_ok, refl, ◌∙◌, ap, rules}
use Rattle.bed_top.proofs.ReadLemmas.{none_read, more_read}
use Rattle.bed_top.proofs.texts.+read_texts.Goals as goal

pub returns-in-Err : goal.returns-in-Err
returns-in-Err g t c =
    none_read _ _ c.args.texts.now.items c.args.texts.now.items c.args.names.now c.name-item.result c.as_slice.result.now c.read.new.into.items c.in-Err.error
    c.read.result refl c.in-len1-up.len_at_least c.name-item.is c.as_slice.ensures (λ is. c.in-Err.is ∙ ap Err is) c.read.ensures

pub returns-then-is_err : goal.returns-then-is_err
returns-then-is_err g t c =
    let kept : c.push.new.self.items ≡ c.args.texts.now.items = search rules in
    none_read _ _ c.args.texts.now.items c.push.new.self.items c.args.names.now c.name-item.result c.as_slice.result.now c.read.new.into.items _
    c.read.result kept c.in-len1-up.len_at_least c.name-item.is c.as_slice.ensures (λ is. absurd (cc)) c.read.ensures

pub returns : goal.returns
returns g t c =
    let pushed : c.push.new.self.items ≡ c.args.texts.now.items ++ c.read.new.into ∷ [] = search rules in
    let ok : IsTrue (is_ok c.read.result) = search rules in
    more_read _ _ _ c.args.texts.now.items c.push.new.self.items c.read_texts.new.texts.items c.read.new.into c.args.names.now c.name-item.result
    c.as_slice.result.now c.read.result c.read_texts.result c.in-len1-up.len_at_least c.name-item.is c.as_slice.ensures ok c.read.ensures pushed
    c.read_texts.ensures
