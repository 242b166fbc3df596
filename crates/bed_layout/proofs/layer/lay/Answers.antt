use Rattle.std.proofs.Common.{◌≤◌, ◌++◌, Contains, ◌∙◌, ap, sym, subst}
use Rattle.bed_il.specs.Places.{blocks_size}
use Rattle.bed_layout.specs.Addresses.{addresses, address_in}
use Rattle.bed_layout.specs.Functions.{code_bytes}
use Rattle.bed_layout.proofs.LayLemmas.{module_step, among_all}
use Rattle.bed_layout.proofs.layer.lay.Goals as goal

pub append-requires-clause-distinct : goal.append-requires-clause-distinct
append-requires-clause-distinct g c B is =
    c.requires.distinct B (among_all g.M.HasBlocks.each c.args.code.now c.loop-module.module-index c.module-item.result B c.loop-module-test.true c.module-item.is (subst (λ l. Contains l B) c.functions.ensures is))

pub append-requires-clause-room : goal.append-requires-clause-room
append-requires-clause-room g c B is =
    let there = among_all g.M.HasBlocks.each c.args.code.now c.loop-module.module-index c.module-item.result B c.loop-module-test.true c.module-item.is (subst (λ l. Contains l B) c.functions.ensures is) in
    c.loop-module.invariant.room B there (c.requires.small B there)

pub loop-module-preserved : goal.loop-module-preserved
loop-module-preserved g c =
    let s = c.loop-module in
    let put = c.append in
    record {
      put = module_step (addresses c.args.functions.now c.args.imports.now) g.M.HasBlocks.each c.args.code.now s.module-index c.module-item.result c.functions.result.now s.next c.in_ok-next.next s.out.items put.new.out.items _ c.loop-module-test.true c.module-item.is
          c.functions.ensures c.in_ok-next.ensures.end s.invariant.put (c.in_ok-next.ensures.bytes ∙ ap (λ a. s.out.items ++ code_bytes a c.functions.result.now s.next) s.invariant.names);
      room = λ B there small. subst (λ n. blocks_size B ≤ n) (sym put.ensures.room) (s.invariant.room B there small);
      names = ap address_in put.ensures.names ∙ s.invariant.names;
    }
