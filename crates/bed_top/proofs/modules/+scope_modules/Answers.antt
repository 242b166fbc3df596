use Rattle.std.proofs.Common.{◌≡◌, ◌++◌, ◌∷◌, [], rules}
use Rattle.std.proofs.lemmas.Result.{on_ok_weaker}
use Rattle.std.specs.Vec.Iter.{into_iter_items}
use Rattle.bed_top.proofs.ReadLemmas.{scope_more}
use Rattle.bed_top.proofs.modules.+scope_modules.Goals as goal

pub returns-else-is_err-clause-ok : goal.returns-else-is_err-clause-ok
returns-else-is_err-clause-ok t c =
    let pushed : c.push.new.self.items ≡ c.args.scoped.now.items ++ c.in-Ok.module ∷ [] = search rules in
    on_ok_weaker c.scope_modules.result (scope_more c.args.file (into_iter_items c.args.modules.now) (into_iter_items c.next.new.self) c.in-Some.module
    c.args.scoped.now.items c.push.new.self.items c.scope_modules.new.scoped.items c.in-Ok.module c.in-Some.ensures.cases.0
    c.in-Ok.ensures.ok.0 c.in-Ok.ensures.ok.1 pushed) c.scope_modules.ensures.ok
