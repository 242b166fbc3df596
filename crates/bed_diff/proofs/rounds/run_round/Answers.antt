use Rattle.std.proofs.Common.{◌∙◌, arith, refl}
use Rattle.bed_diff.proofs.FrontLemmas.{done_further, done_first}
use Rattle.bed_diff.proofs.rounds.run_round.Goals as goal

pub loop-node-preserved : goal.loop-node-preserved
loop-node-preserved c =
    let i = c.loop-node.invariant in
    record {
      len = c.relax_incoming.ensures.len ∙ i.len;
      progress = c.in_ok-relax_incoming.ensures.progress;
      collected = c.in_ok-relax_incoming.ensures.collected;
      done = done_further c.args.edges.now c.args.done c.loop-node.node-index c.loop-node.labels.items c.relax_incoming.new.labels.items c.args.front.now
          c.in_ok-relax_incoming.ensures.keeps c.in_ok-relax_incoming.ensures.done i.done;
    }

pub loop-node-init : goal.loop-node-init
loop-node-init c = record {
  len = refl;
  progress = c.requires.progress;
  collected = c.requires.collected;
  done = done_first c.args.edges.now c.args.done c.args.labels.now.items c.args.front.now (λ e h. (c.requires.edges e _ h).to_in)
      c.requires.progress c.requires.covers;
}

pub returns-clause-done : goal.returns-clause-done
returns-clause-done c = λ j h. c.loop-node.invariant.done j h (λ p lo hi e. absurd (omega arith))
