use Rattle.std.proofs.Common.{◌<◌, ◌≤◌, ◌∷◌, [], length, sym, ◌∙◌, ap, subst}
use Rattle.bed_chain.specs.Graph.{all_words, goal_words, nodes_of}
use Rattle.bed_chain.specs.Tables.{AreNodes, Covers}
use Rattle.bed_chain.proofs.NodeLemmas.{nodes_are}
use Rattle.bed_chain.proofs.AnswerLemmas.{if_ok, goal_covers, sides_cover, at_most_answers, no_at_most}
use Rattle.bed_chain.proofs.graph.at_most.Goals as goal

pub returns-then-len-gt-MOST_NODES : goal.returns-then-len-gt-MOST_NODES
returns-then-len-gt-MOST_NODES c =
    let words = c.in_ok-table.ensures.words ∙ ap (λ ps. nodes_of (goal_words c.args.a.now c.args.b.now ps)) c.as_slice.ensures in
    record { answers = no_at_most c.args.s.now c.args.a.now c.args.b.now (subst (λ ws. 65536 < length ws) words (subst (λ n. 65536 < n) c.len.ensures c.if-len-gt-MOST_NODES.true)) }

pub between-requires-clause-nodes : goal.between-requires-clause-nodes
between-requires-clause-nodes c = subst AreNodes (sym (c.in_ok-table.ensures.words ∙ ap (λ ps. nodes_of (goal_words c.args.a.now c.args.b.now ps)) c.as_slice.ensures)) (nodes_are (goal_words c.args.a.now c.args.b.now c.args.s.now.facts))

pub between-requires-clause-facts : goal.between-requires-clause-facts
between-requires-clause-facts c = subst (λ ws. Covers ws (all_words c.args.s.now.facts)) (sym (c.in_ok-table.ensures.words ∙ ap (λ ps. nodes_of (goal_words c.args.a.now c.args.b.now ps)) c.as_slice.ensures)) (goal_covers c.args.s.now c.args.a.now c.args.b.now)

pub between-requires-clause-sides : goal.between-requires-clause-sides
between-requires-clause-sides c =
    subst (λ ws. Covers ws (c.args.a.now ∷ c.args.b.now ∷ [])) (sym (c.in_ok-table.ensures.words ∙ ap (λ ps. nodes_of (goal_words c.args.a.now c.args.b.now ps)) c.as_slice.ensures)) (sides_cover c.args.a.now c.args.b.now c.args.s.now.facts)

pub returns : goal.returns
returns c =
    let words = c.in_ok-table.ensures.words ∙ ap (λ ps. nodes_of (goal_words c.args.a.now c.args.b.now ps)) c.as_slice.ensures in
    let few = subst (λ n. n ≤ 65536) c.len.ensures c.if-len-gt-MOST_NODES.false in
    record { answers = if_ok c.between.result (λ r h. at_most_answers c.args.s.now c.args.a.now c.args.b.now c.in_ok-table.table.words words few r h) c.between.ensures }
