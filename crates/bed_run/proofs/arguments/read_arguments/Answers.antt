-- Each turn reads the word after those that were read.
use Rattle.std.proofs.Common.{◌≡◌, sym, ap, subst, ◌∙◌, arith}
use Rattle.bed_machine.specs.Memory.{word_at}
use Rattle.bed_run.specs.Hosted.{AreArguments}
use Rattle.bed_run.proofs.ArgumentLemmas.{no_words, next_address, one_word, all_words, is_missing}
use Rattle.bed_run.proofs.arguments.read_arguments.Goals as goal

pub loop-number-init : goal.loop-number-init
loop-number-init g c = record {
  address = omega (arith, c.ranges.ebp);
  first = no_words _ _ _ c.new-args.ensures.items;
}

pub returns-in-None : goal.returns-in-None
returns-in-None g c =
    let e = next_address c.args.ebp c.loop-number._number c.loop-number.at c.loop-number.invariant.address in
    is_missing _ _ _ _ _ _ c.loop-number.invariant.first (omega arith) e
    (ap (word_at (g.D.Store.bytes c.args.mem.now)) (sym e) ∙ (sym c.load_word.ensures ∙ c.in-None.is))

pub loop-number-preserved : goal.loop-number-preserved
loop-number-preserved g c =
    let e = next_address c.args.ebp c.loop-number._number c.loop-number.at c.loop-number.invariant.address in
    record {
      address = e;
      first = one_word _ _ _ _ _ _ c.loop-number.invariant.first (ap (word_at (g.D.Store.bytes c.args.mem.now)) (sym e) ∙ (sym c.load_word.ensures ∙ c.in-Some.is))
          c.in_ok-push-in-Some.ensures.items;
    }

pub returns : goal.returns
returns g c =
    let e : c.loop-number._number ≡ c.args.arity = omega arith in
    subst (λ arity. AreArguments (g.D.Store.bytes c.args.mem.now) c.args.ebp arity c.loop-number.args.items) e (all_words _ _ _ _ c.loop-number.invariant.first)
