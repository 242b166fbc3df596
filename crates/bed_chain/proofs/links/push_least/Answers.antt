use Rattle.std.proofs.Common.{sym}
use Rattle.bed_chain.proofs.PushLemmas.{on_both, least_added}
use Rattle.bed_chain.proofs.links.push_least.Goals as goal

pub returns-else-known_word : goal.returns-else-known_word
returns-else-known_word c =
    on_both c.push_anew.result
    (least_added c.args.forms.now c.args.next c.args.w.now c.args.bounds.zero c.args.at c.args.links.now c.push_anew.new.links (sym c.if-known_word.ensures) c.requires.zero c.requires.at)
    c.push_anew.ensures.edges c.push_anew.ensures.labels
