use Rattle.std.proofs.Common.{arith, ◌≡◌, ◌++◌, []}
use Rattle.bed_forms.proofs.SumLaws.{none-left, add-none}
use Rattle.bed_lang.specs.Forms.{add_parts}
use Rattle.bed_forms.proofs.sum.add_parts.Goals as goal

pub returns-in_default-empty : goal.returns-in_default-empty
returns-in_default-empty c =
    let h = c.in_default-empty in
    let e : c.merge.ys.now ≡ [] = none-left c.merge.ys.now (grind arith) in
    let i : c.merge.out ++ add_parts c.merge.xs.now c.merge.ys.now ≡ add_parts c.args.xs.now c.args.ys.now = c.merge.invariant in
    let h = add-none c.merge.xs.now in cc (c.in_ok-push_all-in_default-empty.ensures)
