use Rattle.std.proofs.Common.{◌<◌, ◌≤◌, length, sym, ◌∙◌, ap, subst}
use Rattle.bed_chain.specs.Graph.{all_words, nodes_of}
use Rattle.bed_chain.specs.Tables.{AreNodes, Covers}
use Rattle.bed_chain.proofs.NodeLemmas.{nodes_are}
use Rattle.bed_chain.proofs.AnswerLemmas.{if_ok, facts_cover, cycle_answers, no_cycle}
use Rattle.bed_chain.proofs.graph.cycle.Goals as goal

pub returns-then-len-gt-MOST_NODES : goal.returns-then-len-gt-MOST_NODES
returns-then-len-gt-MOST_NODES c =
    let words = c.in_ok-table.ensures.words ∙ ap (λ ps. nodes_of (all_words ps)) c.as_slice.ensures in
    record { answers = no_cycle c.args.s.now (subst (λ ws. 65536 < length ws) words (subst (λ n. 65536 < n) c.len.ensures c.if-len-gt-MOST_NODES.true)) }

pub round_zero-requires-clause-nodes : goal.round_zero-requires-clause-nodes
round_zero-requires-clause-nodes c =
    subst AreNodes (sym (c.in_ok-table.ensures.words ∙ ap (λ ps. nodes_of (all_words ps)) c.as_slice.ensures)) (nodes_are (all_words c.args.s.now.facts))

pub round_zero-requires-clause-facts : goal.round_zero-requires-clause-facts
round_zero-requires-clause-facts c =
    subst (λ ws. Covers ws (all_words c.args.s.now.facts)) (sym (c.in_ok-table.ensures.words ∙ ap (λ ps. nodes_of (all_words ps)) c.as_slice.ensures)) (facts_cover c.args.s.now)

pub returns : goal.returns
returns c =
    let words = c.in_ok-table.ensures.words ∙ ap (λ ps. nodes_of (all_words ps)) c.as_slice.ensures in
    let few = subst (λ n. n ≤ 65536) c.len.ensures c.if-len-gt-MOST_NODES.false in
    record { answers = if_ok c.round_zero.result (λ r h. cycle_answers c.args.s.now c.in_ok-table.table.words words few r h) c.round_zero.ensures }
