use Rattle.std.proofs.Common.{length, map, sym, ◌∙◌, ap, subst, arith}
use Rattle.bed_lang.specs.Forms.{word_form}
use Rattle.bed_diff.specs.Edges.{IsWithin}
use Rattle.bed_chain.specs.Graph.{place_of}
use Rattle.bed_chain.proofs.FreeLemmas.{goal_within, weight_back}
use Rattle.bed_chain.proofs.AnswerLemmas.{side_in}
use Rattle.bed_chain.proofs.graph.between.Goals as goal

pub over-requires-clause-goal : goal.over-requires-clause-goal
over-requires-clause-goal c =
    let ws = c.args.table.now.words in
    let fs = map word_form ws in
    let sides = side_in ws c.args.a.now c.args.b.now c.requires.sides in
    let is = c.in_ok-goal.ensures ∙ ap (λ z. record { from = place_of (word_form c.args.a.now) fs; to = place_of (word_form c.args.b.now) fs; weight = z }) (weight_back c.args.weight c.requires.weight) in
    subst (IsWithin (length ws) 1) (sym is) (goal_within ws c.args.a.now c.args.b.now c.args.weight 1 sides.0 sides.1 c.requires.weight (omega arith))
