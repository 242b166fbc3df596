use Rattle.bed_link.proofs.OutsideLemmas.{knows_new}
use Rattle.bed_link.proofs.outside.push_new.Goals as goal

pub returns-in_ok-push-clause-seen : goal.returns-in_ok-push-clause-seen
returns-in_ok-push-clause-seen c = λ knows.
    knows_new c.args.seen.now c.add.new.self c.args.out.now.items c.push.new.self.items c.args.name c.as_slice-bytes.result.now c.in_ok-is_new.is_new
    c.as_slice-bytes.ensures knows c.if-is_new.true c.in_ok-is_new.ensures.new c.in_ok-push.ensures.items
