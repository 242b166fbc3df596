-- What is decided of the graph of a state is what is asked of chains.
use Rattle.std.proofs.Common.{◌≡◌, ℕ, ℤ, pos, negsuc, suc, ◌+◌, ◌<◌, ◌≤◌, Bool, true, false, ◌||◌, nat_le, List, [], ◌∷◌, ◌++◌, length, Option, Some, None, Result, Ok, Err, refl, ap, sym, ◌∙◌, subst, arith}
use Rattle.std.specs.Prelude.{IfOk}
use Rattle.std.proofs.lemmas.Bool.{and_parts, and_from, le-leb, leb-true}
use Rattle.bed_lang.specs.declared.form.Form.{Form}
use Rattle.bed_lang.specs.declared.word.Word.{Word, Number}
use Rattle.bed_lang.specs.declared.logic.Pure.{Pure}
use Rattle.bed_lang.specs.declared.logic.Pure.TheVariants.{Less, AtMost}
use Rattle.bed_lang.specs.Forms.{word_form, same_form}
use Rattle.bed_forms.proofs.SameForms.{same_form-decides}
use Rattle.bed_deriv.specs.declared.derivation.DArg.{DArg}
use Rattle.bed_deriv.specs.declared.derivation.DArg.TheVariants as given
use Rattle.bed_deriv.specs.declared.derivation.Edge.{Edge}
use Rattle.bed_deriv.specs.declared.derivation.Edge.TheVariants as edge
use Rattle.bed_deriv.specs.declared.state.SymState.{SymState}
use Rattle.bed_deriv.specs.Arguments.{numbered}
use Rattle.bed_diff.specs.declared.constraint.Edge3.{Edge3}
use Rattle.bed_diff.specs.Edges.{IsWalk}
use Rattle.bed_plain.specs.Chained.{all_forms, has_form, different_forms, is_between, all_between, runs_over, zero_form, top_form}
use Rattle.bed_plain.specs.Plain.{zero_is_one}
use Rattle.bed_plain.proofs.ChainLaws.{chain_says}
use Rattle.bed_chain.specs.Graph.{words_of, all_words, goal_words, forms_of, nodes_of, place_of, Link, edges_of, labels_of, all_links, facts_links, nodes_links}
use Rattle.bed_chain.specs.Tables.{Covers}
use Rattle.bed_chain.specs.Answers.{AnswersChain, AnswersCycle}
use Rattle.bed_chain.specs.Freed.{chain_args, IsDecided, IsRound}
use Rattle.bed_chain.proofs.NodeLemmas.{kept, came_from, count_of_nodes, forms_are}
use Rattle.bed_chain.proofs.LinkLemmas.{numbered_next, Each, each_append, Has, IsLink, facts_are_links, nodes_are_links}
use Rattle.bed_chain.proofs.AlongLemmas.{at_most_accepted, less_accepted}
use Rattle.bed_chain.proofs.PointLemmas.{at_above, bound_of, lift, lift_above, lift_at_least, value, point_solves}
use Rattle.bed_chain.proofs.PointLemmas as point
use Rattle.bed_chain.proofs.FreeLemmas.{freed_accepted, freed_walk, walk_between}

-- ---- words that have nodes

or_true : (b : Bool) → (b || true) ≡ true
or_true true = refl
or_true false = refl

or_this : (b c : Bool) → b ≡ true → (b || c) ≡ true
or_this true c e = refl
or_this false c e = absurd (cc)

or_that : (b c : Bool) → c ≡ true → (b || c) ≡ true
or_that true c e = refl
or_that false c e = e

self : (w : Word) → same_form (word_form w) (word_form w) ≡ true
self w = (same_form-decides w w).1 refl

each_has : (fs : List Form) (us : List Word) → ((f : Form) → has_form f (forms_of us) ≡ true → has_form f fs ≡ true) → Each (Has fs) us
each_has fs [] into = tt
each_has fs (u ∷ us) into = (
  into (word_form u) (or_this (same_form (word_form u) (word_form u)) (has_form (word_form u) (forms_of us)) (self u)),
  each_has fs us (λ f h. into f (or_that (same_form f (word_form u)) (has_form f (forms_of us)) h)),
)

front : (us vs : List Word) (f : Form) → has_form f (forms_of us) ≡ true → has_form f (forms_of (us ++ vs)) ≡ true
front [] vs f h = absurd (cc)
front (u ∷ us) vs f h = by (same_form f (word_form u)) h (front us vs f)
  where
    by : (b : Bool) → (b || has_form f (forms_of us)) ≡ true → (has_form f (forms_of us) ≡ true → has_form f (forms_of (us ++ vs)) ≡ true) → (b || has_form f (forms_of (us ++ vs))) ≡ true
    by true h more = refl
    by false h more = more h

behind : (us vs : List Word) (f : Form) → has_form f (forms_of vs) ≡ true → has_form f (forms_of (us ++ vs)) ≡ true
behind [] vs f h = h
behind (u ∷ us) vs f h = or_that (same_form f (word_form u)) (has_form f (forms_of (us ++ vs))) (behind us vs f h)

-- the words of facts, and those of 0 and 4294967295
facts_have : (fs : List Form) (ps : List Pure) → ((f : Form) → has_form f (forms_of (all_words ps)) ≡ true → has_form f fs ≡ true)
    → Each (λ p. Each (Has fs) (words_of p)) ps × Has fs (Number 0) × Has fs (Number 4294967295)
facts_have fs [] into = let both = each_has fs (all_words []) into in (tt, both.0, both.1.0)
facts_have fs (p ∷ ps) into =
    let more = facts_have fs ps (λ f h. into f (behind (words_of p) (all_words ps) f h)) in
    ((each_has fs (words_of p) (λ f h. into f (front (words_of p) (all_words ps) f h)), more.0), more.1, more.2)

module _ (s : SymState) (ws : List Word) (covers : Covers ws (all_words s.facts)) where
  abbrev fs : List Form
  fs = forms_of ws

  have : Each (λ p. Each (Has fs) (words_of p)) s.facts × Has fs (Number 0) × Has fs (Number 4294967295)
  have = facts_have fs s.facts covers

  pub zero_in : has_form zero_form fs ≡ true
  zero_in = have.1

  pub top_in : has_form top_form fs ≡ true
  top_in = have.2

  -- all edges of the graph are edges between nodes
  pub links_are_good : Each (IsLink fs s) (all_links s ws)
  links_are_good =
      each_append (IsLink fs s) (facts_links 1 s.facts) (nodes_links s.next ws) (facts_are_links fs s s.facts 1 (λ k p e. subst (λ n. numbered s.facts n ≡ Some p) (let next : suc k ≡ 1 + k = omega arith in next) (numbered_next s.facts k ∙ e)) have.0)
      (nodes_are_links fs s zero_in top_in ws (each_has fs ws (λ f h. h)))

-- ---- nodes of some words

module _ (s : SymState) (us : List Word) (into : (f : Form) → has_form f (forms_of (all_words s.facts)) ≡ true → has_form f (forms_of us) ≡ true) where
  abbrev nodes : List Word
  nodes = nodes_of us

  abbrev xs : List Link
  xs = all_links s nodes

  abbrev es : List Edge3
  es = edges_of (forms_of nodes) xs

  pub covered : Covers nodes (all_words s.facts)
  covered f h = kept us f (into f h)

  good : Each (IsLink (forms_of nodes) s) xs
  good = links_are_good s nodes covered

  -- a chain over the nodes runs over the forms of the words
  wider : (args : List DArg) → all_between (forms_of nodes) args ≡ true → all_between (forms_of us) args ≡ true
  wider [] h = refl
  wider (given.Edge e ∷ args) h =
      let p = and_parts (is_between (forms_of nodes) e) (all_between (forms_of nodes) args) h in
      and_from (is_between (forms_of us) e) (all_between (forms_of us) args) (by e p.0) (wider args p.1)
    where
      by : (e : Edge) → is_between (forms_of nodes) e ≡ true → is_between (forms_of us) e ≡ true
      by (edge.K n) h = came_from us (word_form (Number n)) h
      by (edge.Z w) h = came_from us (word_form w) h
      by (edge.F i) h = refl
      by (edge.G i) h = refl
      by (edge.X i) h = refl
      by (edge.Y i) h = refl
      by (edge.P i) h = refl
      by (edge.Q i) h = refl
      by (edge.R i) h = refl
      by (edge.S i) h = refl
      by edge.H h = refl
  wider (given.Number n ∷ args) h = absurd (cc)
  wider (given.Arg a ∷ args) h = absurd (cc)
  wider (given.Pure p ∷ args) h = absurd (cc)
  wider (given.Name x ∷ args) h = absurd (cc)

  runs : length nodes ≤ 65536 → (is : List ℕ) (a b : ℕ) → IsWalk es a is b → runs_over (forms_of us) (chain_args (labels_of xs) is) ≡ true
  runs few is a b walk =
      let args = chain_args (labels_of xs) is in
      let count = count_of_nodes us in
      and_from (all_between (forms_of us) args) (nat_le (different_forms (forms_of us)) 65536) (wider args (walk_between s nodes xs good is a b walk)) (le-leb (different_forms (forms_of us)) 65536 (omega arith))

  many : 65536 < length nodes → (args : List DArg) → runs_over (forms_of us) args ≡ true → ⊥
  many lt args h =
      let p = and_parts (all_between (forms_of us) args) (nat_le (different_forms (forms_of us)) 65536) h in
      let few = leb-true (different_forms (forms_of us)) 65536 p.1 in
      let count = count_of_nodes us in
      omega arith

-- ---- goals

goal_into : (s : SymState) (a b : Word) (f : Form) → has_form f (forms_of (all_words s.facts)) ≡ true → has_form f (forms_of (goal_words a b s.facts)) ≡ true
goal_into s a b f h = behind (a ∷ b ∷ []) (all_words s.facts) f h

side_left : (a b : Word) (ps : List Pure) → has_form (word_form a) (forms_of (nodes_of (goal_words a b ps))) ≡ true
side_left a b ps = kept (goal_words a b ps) (word_form a) (or_this (same_form (word_form a) (word_form a)) _ (self a))

side_right : (a b : Word) (ps : List Pure) → has_form (word_form b) (forms_of (nodes_of (goal_words a b ps))) ≡ true
side_right a b ps =
    kept (goal_words a b ps) (word_form b)
    (or_that (same_form (word_form b) (word_form a)) _ (or_this (same_form (word_form b) (word_form b)) (has_form (word_form b) (forms_of (all_words ps))) (self b)))

pub goal_covers : (s : SymState) (a b : Word) → Covers (nodes_of (goal_words a b s.facts)) (all_words s.facts)
goal_covers s a b = covered s (goal_words a b s.facts) (goal_into s a b)

pub sides_cover : (a b : Word) (ps : List Pure) → Covers (nodes_of (goal_words a b ps)) (a ∷ b ∷ [])
sides_cover a b ps f h = kept (goal_words a b ps) f (front (a ∷ b ∷ []) (all_words ps) f h)

pub facts_cover : (s : SymState) → Covers (nodes_of (all_words s.facts)) (all_words s.facts)
facts_cover s = covered s (all_words s.facts) (λ f h. h)

abbrev goal_edge : List Word → Word → Word → ℤ → Edge3
goal_edge ws a b weight = record { from = place_of (word_form a) (forms_of ws); to = place_of (word_form b) (forms_of ws); weight = weight }

module _ (s : SymState) (a b : Word) where
  abbrev us : List Word
  us = goal_words a b s.facts

  abbrev ws : List Word
  ws = nodes_of us

  abbrev Decided : ℤ → Option (List DArg) → Type 0
  Decided weight r = IsDecided (length ws) (edges_of (forms_of ws) (all_links s ws)) (labels_of (all_links s ws)) (goal_edge ws a b weight) r

  same_forms : (args : List DArg) → runs_over (word_form a ∷ word_form b ∷ all_forms s.facts) args ≡ runs_over (forms_of us) args
  same_forms args = ap (λ fs. runs_over (word_form a ∷ word_form b ∷ fs) args) (sym (forms_are s.facts))

  good_links : Each (IsLink (forms_of ws) s) (all_links s ws)
  good_links = links_are_good s ws (goal_covers s a b)

  abbrev at : Word → ℕ
  at w = place_of (word_form w) (forms_of ws)

  at_most_decided : length ws ≤ 65536 → (r : Option (List DArg)) → Decided (pos 0) r → AnswersChain s (AtMost a b) r
  at_most_decided few r (IsDecided.by_chain is chain e) =
      subst (AnswersChain s (AtMost a b)) (sym e) (record {
        accepted = λ d. at_most_accepted s ws (all_links s ws) good_links d a b is (side_left a b s.facts) (side_right a b s.facts) chain;
        over = same_forms (chain_args (labels_of (all_links s ws)) is) ∙ runs s us (goal_into s a b) few is (at a) (at b) chain.0;
      })
  at_most_decided few r (IsDecided.by_cycle places is cycle freed e) =
      let w = freed_walk s ws (all_links s ws) good_links places is cycle freed in
      subst (AnswersChain s (AtMost a b)) (sym e) (record {
        accepted = λ d. freed_accepted s ws (all_links s ws) good_links d (AtMost a b) places is cycle freed;
        over = same_forms (chain_args (labels_of (all_links s ws)) is) ∙ runs s us (goal_into s a b) few is w.0 w.0 w.1;
      })
  at_most_decided few r (IsDecided.by_point vs p e) =
      subst (AnswersChain s (AtMost a b)) (sym e) (λ d args accepted over.
      let says = chain_says d s (point.v s ws vs) (point_solves s ws vs p.1 good_links (zero_in s ws (goal_covers s a b)) (top_in s ws (goal_covers s a b))) (AtMost a b) args accepted in
      let left = point.inside s ws vs (word_form a) (side_left a b s.facts) in
      let right = point.inside s ws vs (word_form b) (side_right a b s.facts) in
      let apart = lift_above (bound_of vs) _ _ (at_above vs (at a)) (at_above vs (at b)) p.2 in
      omega arith)

  less_decided : length ws ≤ 65536 → (r : Option (List DArg)) → Decided (negsuc 0) r → AnswersChain s (Less a b) r
  less_decided few r (IsDecided.by_chain is chain e) =
      subst (AnswersChain s (Less a b)) (sym e) (record {
        accepted = λ d. less_accepted s ws (all_links s ws) good_links d a b is (side_left a b s.facts) (side_right a b s.facts) chain;
        over = same_forms (chain_args (labels_of (all_links s ws)) is) ∙ runs s us (goal_into s a b) few is (at a) (at b) chain.0;
      })
  less_decided few r (IsDecided.by_cycle places is cycle freed e) =
      let w = freed_walk s ws (all_links s ws) good_links places is cycle freed in
      subst (AnswersChain s (Less a b)) (sym e) (record {
        accepted = λ d. freed_accepted s ws (all_links s ws) good_links d (Less a b) places is cycle freed;
        over = same_forms (chain_args (labels_of (all_links s ws)) is) ∙ runs s us (goal_into s a b) few is w.0 w.0 w.1;
      })
  less_decided few r (IsDecided.by_point vs p e) =
      subst (AnswersChain s (Less a b)) (sym e) (λ d args accepted over.
      let says = chain_says d s (point.v s ws vs) (point_solves s ws vs p.1 good_links (zero_in s ws (goal_covers s a b)) (top_in s ws (goal_covers s a b))) (Less a b) args accepted in
      let left = point.inside s ws vs (word_form a) (side_left a b s.facts) in
      let right = point.inside s ws vs (word_form b) (side_right a b s.facts) in
      let apart = lift_at_least (bound_of vs) _ _ (at_above vs (at a)) (at_above vs (at b)) p.2 in
      omega arith)

  pub no_at_most : 65536 < length ws → AnswersChain s (AtMost a b) None
  no_at_most lt d args accepted over = many s us (goal_into s a b) lt args (sym (same_forms args) ∙ over)

  pub no_less : 65536 < length ws → AnswersChain s (Less a b) None
  no_less lt d args accepted over = many s us (goal_into s a b) lt args (sym (same_forms args) ∙ over)

-- ---- cycles

module _ (s : SymState) where
  abbrev cycle_nodes : List Word
  cycle_nodes = nodes_of (all_words s.facts)

  cycle_links : Each (IsLink (forms_of cycle_nodes) s) (all_links s cycle_nodes)
  cycle_links = links_are_good s cycle_nodes (facts_cover s)

  over_facts : (args : List DArg) → runs_over (all_forms s.facts) args ≡ runs_over (forms_of (all_words s.facts)) args
  over_facts args = ap (λ fs. runs_over fs args) (sym (forms_are s.facts))

  cycle_decided : length cycle_nodes ≤ 65536 → (r : Option (List DArg))
      → IsRound (length cycle_nodes) (edges_of (forms_of cycle_nodes) (all_links s cycle_nodes)) (labels_of (all_links s cycle_nodes)) (goal_edge cycle_nodes (Number 0) (Number 0) (negsuc 0)) r → AnswersCycle s r
  cycle_decided few r (IsRound.by_cycle places is cycle freed e) =
      let w = freed_walk s cycle_nodes (all_links s cycle_nodes) cycle_links places is cycle freed in
      subst (AnswersCycle s) (sym e) (record {
        accepted = λ d g. freed_accepted s cycle_nodes (all_links s cycle_nodes) cycle_links d g places is cycle freed;
        over = over_facts (chain_args (labels_of (all_links s cycle_nodes)) is) ∙ runs s (all_words s.facts) (λ f h. h) few is w.0 w.0 w.1;
      })
  cycle_decided few r (IsRound.by_point vs p e) =
      subst (AnswersCycle s) (sym e) (λ d args accepted over.
      chain_says d s (point.v s cycle_nodes vs) (point_solves s cycle_nodes vs p.1 cycle_links (zero_in s cycle_nodes (facts_cover s)) (top_in s cycle_nodes (facts_cover s))) zero_is_one args accepted)

  pub no_cycle : 65536 < length cycle_nodes → AnswersCycle s None
  no_cycle lt d args accepted over = many s (all_words s.facts) (λ f h. h) lt args (sym (over_facts args) ∙ over)

-- ---- for nodes that are those of the goal

pub at_most_answers : (s : SymState) (a b : Word) (ns : List Word) → ns ≡ nodes_of (goal_words a b s.facts) → length ns ≤ 65536 → (r : Option (List DArg))
    → IsDecided (length ns) (edges_of (forms_of ns) (all_links s ns)) (labels_of (all_links s ns)) (goal_edge ns a b (pos 0)) r → AnswersChain s (AtMost a b) r
at_most_answers s a b ns e few r h =
    subst (λ (ns : List Word). length ns ≤ 65536 → IsDecided (length ns) (edges_of (forms_of ns) (all_links s ns)) (labels_of (all_links s ns)) (goal_edge ns a b (pos 0)) r → AnswersChain s (AtMost a b) r) (sym e)
    (λ few h. at_most_decided s a b few r h) few h

pub less_answers : (s : SymState) (a b : Word) (ns : List Word) → ns ≡ nodes_of (goal_words a b s.facts) → length ns ≤ 65536 → (r : Option (List DArg))
    → IsDecided (length ns) (edges_of (forms_of ns) (all_links s ns)) (labels_of (all_links s ns)) (goal_edge ns a b (negsuc 0)) r → AnswersChain s (Less a b) r
less_answers s a b ns e few r h =
    subst (λ (ns : List Word). length ns ≤ 65536 → IsDecided (length ns) (edges_of (forms_of ns) (all_links s ns)) (labels_of (all_links s ns)) (goal_edge ns a b (negsuc 0)) r → AnswersChain s (Less a b) r) (sym e)
    (λ few h. less_decided s a b few r h) few h

pub cycle_answers : (s : SymState) (ns : List Word) → ns ≡ nodes_of (all_words s.facts) → length ns ≤ 65536 → (r : Option (List DArg))
    → IsRound (length ns) (edges_of (forms_of ns) (all_links s ns)) (labels_of (all_links s ns)) (goal_edge ns (Number 0) (Number 0) (negsuc 0)) r → AnswersCycle s r
cycle_answers s ns e few r h =
    subst (λ (ns : List Word). length ns ≤ 65536 → IsRound (length ns) (edges_of (forms_of ns) (all_links s ns)) (labels_of (all_links s ns)) (goal_edge ns (Number 0) (Number 0) (negsuc 0)) r → AnswersCycle s r) (sym e)
    (λ few h. cycle_decided s few r h) few h

pub side_in : (ns : List Word) (a b : Word) → Covers ns (a ∷ b ∷ []) → (has_form (word_form a) (forms_of ns) ≡ true) × (has_form (word_form b) (forms_of ns) ≡ true)
side_in ns a b covers = (
  covers (word_form a) (or_this (same_form (word_form a) (word_form a)) _ (self a)),
  covers (word_form b) (or_that (same_form (word_form b) (word_form a)) _ (or_this (same_form (word_form b) (word_form b)) false (self b))),
)

pub if_ok : {A E : Type 0} {P Q : A → Type 0} (r : Result A E) → ((x : A) → P x → Q x) → IfOk r P → IfOk r Q
if_ok (Ok x) f h = f x h
if_ok (Err e) f h = h
