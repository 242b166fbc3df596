use Rattle.std.proofs.Common.{◌≡◌, ◌-◌, ◌*◌, ◌∙◌, Some, length, take, drop, sym, ap, arith}
use Rattle.std.proofs.lemmas.List.{length-drop, take_all}
use Rattle.bed_deriv.specs.Arguments.{fact_at, number_at}
use Rattle.bed_check_pure.specs.Combinations.{pair_sum}
use Rattle.bed_check_pure.proofs.CombinationLaws.{last_pairs, pair_before_sum, none_before}
use Rattle.bed_check_pure.proofs.sums.sum_at.Goals as goal

pub loop-pairs-init : goal.loop-pairs-init
loop-pairs-init c = (
  omega arith,
  last_pairs c.args.s.now c.args.args.now _ (omega arith) (omega arith)
      ∙ ap (λ ps. Some (record { constant = 0; parts = ps })) (sym c.new.ensures),
)

pub returns-in-None : goal.returns-in-None
returns-in-None c =
    let n = 2 * (c.loop-pairs.pairs - 1) in
    let d = length-drop n c.args.args.now in
    let rest : take (length c.args.args.now - n) (drop n c.args.args.now) ≡ drop n c.args.args.now = take_all _ _ (omega arith) in
    sym (none_before c.args.s.now c.args.args.now (c.loop-pairs.pairs - 1) (omega arith)
    (pair_before_sum c.args.s.now c.args.args.now c.loop-pairs.pairs c.loop-pairs.total (omega arith) (omega arith) c.loop-pairs.invariant.1
    ∙ (ap (λ xs. pair_sum (fact_at c.args.s.now xs 0) (number_at xs 1) (Some c.loop-pairs.total)) (sym rest)
    ∙ (sym c.in_ok-with_pair.ensures ∙ c.in-None.is))))

pub loop-pairs-preserved : goal.loop-pairs-preserved
loop-pairs-preserved c =
    let n = 2 * (c.loop-pairs.pairs - 1) in
    let d = length-drop n c.args.args.now in
    let rest : take (length c.args.args.now - n) (drop n c.args.args.now) ≡ drop n c.args.args.now = take_all _ _ (omega arith) in (
      omega arith,
      pair_before_sum c.args.s.now c.args.args.now c.loop-pairs.pairs c.loop-pairs.total (omega arith) (omega arith) c.loop-pairs.invariant.1
          ∙ (ap (λ xs. pair_sum (fact_at c.args.s.now xs 0) (number_at xs 1) (Some c.loop-pairs.total)) (sym rest)
          ∙ (sym c.in_ok-with_pair.ensures ∙ c.in-Some.is)),
    )
