use Rattle.std.proofs.Common.{◌^◌, length, negsuc, inr, refl, sym, subst, arith}
use Rattle.bed_lang.specs.declared.word.Word.{Number}
use Rattle.bed_diff.specs.Edges.{IsWithin}
use Rattle.bed_chain.specs.Graph.{all_links}
use Rattle.bed_chain.proofs.FreeLemmas.{edges_within, goal_within}
use Rattle.bed_chain.proofs.AnswerLemmas.{links_are_good, zero_in}
use Rattle.bed_chain.proofs.graph.round_zero.Goals as goal

pub round-requires-clause-edges : goal.round-requires-clause-edges
round-requires-clause-edges c =
    let ws = c.args.table.now.words in
    edges_within c.args.s.now ws c.args.table.now.forms c.in_ok-links.links.edges c.len.result (all_links c.args.s.now ws) (links_are_good c.args.s.now ws c.requires.facts) c.requires.table c.in_ok-links.ensures.edges c.len.ensures

pub round-requires-clause-goal : goal.round-requires-clause-goal
round-requires-clause-goal c =
    let ws = c.args.table.now.words in
    let here = zero_in c.args.s.now ws c.requires.facts in
    subst (λ n. IsWithin n (2 ^ 33) c.in_ok-goal.goal) (sym c.len.ensures)
    (subst (IsWithin (length ws) (2 ^ 33)) (sym c.in_ok-goal.ensures) (goal_within ws (Number 0) (Number 0) (negsuc 0) (2 ^ 33) here here (inr refl) (omega arith)))
