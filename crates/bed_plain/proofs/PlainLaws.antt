-- The trees that close plain goals are derivations: every node is an instance of its rule.
use Rattle.std.proofs.lemmas.Bool.{eqb-true}
use Rattle.std.proofs.Common.{◌≡◌, ℕ, zero, suc, ◌+◌, ◌-◌, ◌==◌, Bool, true, false, not, ◌&&◌, if◌then◌else◌, List, [], ◌∷◌, ◌++◌, map, length, slice_get, Option, Some, None, Result, Ok, Err, refl, ap, sym, ◌∙◌, subst, arith, ◌⊎◌, inl, inr}
use Rattle.bed_lang.specs.declared.word.Var.{Var}
use Rattle.bed_lang.specs.declared.word.Word.{Word, out-Word, out-roll-Word, Var as WordVar}
use Rattle.bed_lang.specs.declared.word.Word.TheOpen.{Word-F}
use Rattle.bed_lang.specs.declared.word.Word.TheVariants.{rolls-Var}
use Rattle.bed_lang.specs.declared.word.Seq.{Seq, out-Seq, out-roll-Seq, Var as SeqVar}
use Rattle.bed_lang.specs.declared.word.Seq.TheOpen.{Seq-F}
use Rattle.bed_lang.specs.declared.word.Seq.TheVariants.{rolls-Var as seq_rolls-Var}
use Rattle.bed_lang.specs.declared.form.Form.{Form}
use Rattle.bed_lang.specs.declared.form.Key.TheVariants as key
use Rattle.bed_lang.specs.declared.form.Piece.{Piece}
use Rattle.bed_lang.specs.Coefficients.{coefficient_in}
use Rattle.bed_lang.specs.Differences.{difference}
use Rattle.bed_forms.specs.Rebuilt.{form_word, pieces_seq}
use Rattle.bed_lang.specs.declared.logic.Arg.{Arg}
use Rattle.bed_lang.specs.declared.logic.Arg.TheVariants as arg
use Rattle.bed_lang.specs.declared.logic.Pure.{Pure}
use Rattle.bed_lang.specs.declared.logic.Pure.TheVariants.{Equal, Unequal, Less, AtMost, Same, Member, NonMember, Code}
use Rattle.bed_lang.specs.declared.condition.Decls.{Decls}
use Rattle.bed_lang.specs.Instances.{Instance}
use Rattle.bed_deriv.specs.declared.derivation.Rule.{Rule}
use Rattle.bed_deriv.specs.declared.derivation.Rule.TheVariants as rule
use Rattle.bed_deriv.specs.declared.derivation.DArg.{DArg}
use Rattle.bed_deriv.specs.declared.derivation.DArg.TheVariants as given
use Rattle.bed_deriv.specs.declared.derivation.Deriv.{Deriv, fold-roll-Deriv}
use Rattle.bed_deriv.specs.declared.state.SymState.{SymState}
use Rattle.bed_deriv.specs.declared.state.Sequent.{Sequent}
use Rattle.bed_deriv.specs.Fresh.{known_var}
use Rattle.bed_deriv.specs.Arguments.{numbered, to_variable, if_known, lone_word, lone_word_layer, lone_seq, lone_seq_layer}
use Rattle.bed_lang.specs.Forms.{times_form, seq_form}
use Rattle.bed_deriv.specs.Opening.{first_some, word_set, seq_set, replaced_fact}
use Rattle.bed_deriv.specs.Checks.{with_fact, Goals, Needs, Given, Leaves, first_failure, has_room, with_room, states_of, outcome, sequent}
use Rattle.bed_deriv.specs.PureRules.{form_but, solved_by, is_just, has_sequence, solved_sequence, solve, solution, replaced_state}
use Rattle.bed_deriv.specs.ListRules.{uncons, sides, heads_and_tails}
use Rattle.bed_deriv.specs.Walk.{Table, Walked, Walk, and_then, walk_all, walk_below, walk_step, walk}
use Rattle.bed_deriv.specs.Derives.{fact_table}
use Rattle.bed_plain.specs.declared.solved.Solved.{Solved}
use Rattle.bed_plain.specs.Trees.{node, leaf}
use Rattle.bed_plain.specs.Solving.{word_value, seq_value, solved_value, setting, variables_of, variable_arg, greatest_allowed, if_room, replacing_by, known_only, by_solve, with_parts, parts_of, step_at, is_among, first_step, most_steps, solving_after, solving_within, solving, state_after, read_with, goal_after, solved, solved_goal, solving_tree}
use Rattle.bed_plain.specs.Plain.{Leaf, ClosesAtOnce, ClosesByChain, ClosesFalse, ClosesUnequal, ClosesLacking, AllLacking, ClosesGoal, ClosesPlain, InFalse, ByGoal}
use Rattle.bed_plain.specs.Plain as way
use Rattle.bed_plain.specs.Trees.{AllOf}
use Rattle.bed_plain.proofs.CheckLaws.{or_this, given_so, needs_so, outcome_so}

-- ---- trees that a table accepts

module _ {T : Type 0} (table : Table T) where
  -- the tree is accepted for the thing, whatever number its root has
  abbrev pub IsAccepted : T → Deriv → Type 0
  IsAccepted x t = (n : ℕ) → (m : ℕ) × (walk table t x n ≡ Ok m)

  abbrev AreAccepted : List T → List Deriv → Type 0
  AreAccepted xs ts = (n : ℕ) → (m : ℕ) × (walk_all (map (walk table) ts) xs n ≡ Ok m)

  pub all_accepted : (xs : List T) (ts : List Deriv) → AllOf IsAccepted xs ts → AreAccepted xs ts
  all_accepted [] [] all n = (n, refl)
  all_accepted [] (t ∷ ts) all n = absurd all
  all_accepted (x ∷ xs) [] all n = absurd all
  all_accepted (x ∷ xs) (t ∷ ts) all n =
      let (k, first) = all.0 n in
      let (m, others) = all_accepted xs ts all.1 k in
      (m, ap (λ w. and_then w (λ k. walk_all (map (walk table) ts) xs k)) first ∙ others)

  pub same_count : (ts : List Deriv) → length (map (walk table) ts) ≡ length ts
  same_count [] = refl
  same_count (t ∷ ts) = ap suc (same_count ts)

  -- a node is accepted where it is an instance and its children are accepted
  pub node_accepted : (r : Rule) (x : T) (args : List DArg) (xs : List T) (ts : List Deriv) → table r x args (length ts) ≡ Ok xs → AllOf IsAccepted xs ts
      → IsAccepted x (node r args ts)
  node_accepted r x args xs ts is all n =
      let (m, walked) = all_accepted xs ts all (n + 1) in (
        m,
        ap (λ (w : Walk T). w x n) (fold-roll-Deriv (Walk T) (walk_step table) (record { rule = r; args = args; children = ts }))
            ∙ ap (λ (o : Result (List T) ℕ). walk_below o (map (walk table) ts) n) (ap (table r x args) (same_count ts) ∙ is)
            ∙ walked,
      )

-- ---- steps of solving

lone_word-Var : (x : Var) → lone_word (WordVar x) ≡ Some x
lone_word-Var x = ap (λ w. lone_word_layer (out-Word w)) (sym (rolls-Var x)) ∙ ap lone_word_layer (out-roll-Word (Word-F.Var x))

lone_seq-Var : (x : Var) → lone_seq (SeqVar x) ≡ Some x
lone_seq-Var x = ap (λ q. lone_seq_layer (out-Seq q)) (sym (seq_rolls-Var x)) ∙ ap lone_seq_layer (out-roll-Seq (Seq-F.Var x))

if_known-so : (next : ℕ) (x : Var) → known_var next x ≡ true → if_known next (Some x) ≡ Some x
if_known-so next x k = ap (λ b. if b then Some x else None) k

variable-word : (next : ℕ) (x : Var) → known_var next x ≡ true → to_variable next (Some (given.Arg (arg.Word 0 (WordVar x)))) ≡ Some x
variable-word next x k = ap (if_known next) (lone_word-Var x) ∙ if_known-so next x k

variable-seq : (next : ℕ) (x : Var) → known_var next x ≡ true → to_variable next (Some (given.Arg (arg.Seq 0 (SeqVar x)))) ≡ Some x
variable-seq next x k = ap (if_known next) (lone_seq-Var x) ∙ if_known-so next x k

variable-arg : (next : ℕ) (p : Pure) (x : Var) → known_var next x ≡ true → to_variable next (Some (variable_arg p x)) ≡ Some x
variable-arg next (Same s t) x k = variable-seq next x k
variable-arg next (Equal a b) x k = variable-word next x k
variable-arg next (Unequal a b) x k = variable-word next x k
variable-arg next (Less a b) x k = variable-word next x k
variable-arg next (AtMost a b) x k = variable-word next x k
variable-arg next (Member a s) x k = variable-word next x k
variable-arg next (NonMember a s) x k = variable-word next x k
variable-arg next (Code a f) x k = variable-word next x k

-- the rule's instance is that of the value
abbrev solution_by : Var → Option Arg → Option Instance
solution_by v None = None
solution_by v (Some a) = Some (setting (v, a))

word_solution : (v : Var) (f : Form) (c : ℕ) → solved_by v f c ≡ solution_by v (word_value v f c)
word_solution v f c = by (c == 1) (c == 4294967295) where
  by : (a b : Bool) → (if a then Some (word_set v (form_word (times_form 4294967295 (form_but v f)))) else (if b then Some (word_set v (form_word (form_but v f))) else None))
      ≡ solution_by v (if a then Some (arg.Word 0 (form_word (times_form 4294967295 (form_but v f)))) else (if b then Some (arg.Word 0 (form_word (form_but v f))) else None))
  by true b = refl
  by false true = refl
  by false false = refl

seq_solution : (v : Var) (ps qs : List Piece) → solved_sequence v ps qs ≡ solution_by v (seq_value v ps qs)
seq_solution v ps qs = by (is_just v ps && not (has_sequence v qs)) (is_just v qs && not (has_sequence v ps)) where
  by : (a b : Bool) → (if a then Some (seq_set v (pieces_seq qs)) else (if b then Some (seq_set v (pieces_seq ps)) else None))
      ≡ solution_by v (if a then Some (arg.Seq 0 (pieces_seq qs)) else (if b then Some (arg.Seq 0 (pieces_seq ps)) else None))
  by true b = refl
  by false true = refl
  by false false = refl

solution-is : (v : Var) (p : Pure) → solution v p ≡ solution_by v (solved_value v p)
solution-is v (Equal a b) = word_solution v (difference a b) (coefficient_in (key.Var v) (difference a b).parts)
solution-is v (Same s t) = seq_solution v (seq_form s) (seq_form t)
solution-is v (Unequal a b) = refl
solution-is v (Less a b) = refl
solution-is v (AtMost a b) = refl
solution-is v (Member a s) = refl
solution-is v (NonMember a s) = refl
solution-is v (Code a f) = refl

room_alone : (s : SymState) → has_room s ≡ true → (has_room s && true) ≡ true
room_alone s e = ap (λ b. b && true) e

module _ (d : Decls) (s : SymState) (i : ℕ) (p : Pure) (at : numbered s.facts i ≡ Some p) where
  -- what a step promises of goals
  abbrev IsStep : Solved → Type 0
  IsStep x = (g : Pure) → fact_table d x.rule (sequent s g) x.args 1 ≡ Ok (sequent x.state (read_with x.reading g) ∷ [])

  solve_is : (v : Var) (a : Arg) → known_var s.next v ≡ true → solution v p ≡ Some (setting (v, a)) → has_room (replaced_state (setting (v, a)) s) ≡ true
      → IsStep (record { fact = i; rule = rule.Solve; args = given.Number i ∷ variable_arg p v ∷ []; reading = Some (v, a); state = replaced_state (setting (v, a)) s })
  solve_is v a known is room g =
      let σ = setting (v, a) in
      outcome_so (solve s (Some g) (given.Number i ∷ variable_arg p v ∷ []) 1) _
      (given_so 2 (numbered s.facts i) _ p _ at (given_so 2 (to_variable s.next (Some (variable_arg p v))) _ v _ (variable-arg s.next p v known) (given_so 3 (solution v p) _ σ _ is refl)))
      (room_alone (replaced_state σ s) room)

  uncons_is : (h : Pure × Pure) → parts_of p ≡ Some h → has_room (with_fact (with_fact s h.0) h.1) ≡ true
      → IsStep (record { fact = i; rule = rule.Uncons; args = given.Number i ∷ []; reading = None; state = with_fact (with_fact s h.0) h.1 })
  uncons_is h is room g = by p at is where
    by : (p : Pure) → numbered s.facts i ≡ Some p → parts_of p ≡ Some h
        → fact_table d rule.Uncons (sequent s g) (given.Number i ∷ []) 1 ≡ Ok (sequent (with_fact (with_fact s h.0) h.1) g ∷ [])
    by (Same t u) at is =
        outcome_so (uncons s (Some g) (given.Number i ∷ []) 1) _
        (given_so 2 (numbered s.facts i) _ (Same t u) _ at (given_so 3 (heads_and_tails (seq_form t) (seq_form u)) _ h _ is refl))
        (room_alone (with_fact (with_fact s h.0) h.1) room)
    by (Equal a b) at is = absurd (cc)
    by (Unequal a b) at is = absurd (cc)
    by (Less a b) at is = absurd (cc)
    by (AtMost a b) at is = absurd (cc)
    by (Member a b) at is = absurd (cc)
    by (NonMember a b) at is = absurd (cc)
    by (Code a b) at is = absurd (cc)

  if_room-some : (z : SymState) (x y : Solved) → if_room z x ≡ Some y → (has_room z ≡ true) × (x ≡ y)
  if_room-some z x y e = by (has_room z) refl e where
    by : (b : Bool) → has_room z ≡ b → (if b then Some x else None) ≡ Some y → (has_room z ≡ true) × (x ≡ y)
    by true room f = (room, ap (or_this x) f)
    by false room f = absurd (cc)

  replacing_is : (v : Var) (o : Option Arg) (y : Solved) → known_var s.next v ≡ true → solution v p ≡ solution_by v o → replacing_by s i (variable_arg p v) v o ≡ Some y → IsStep y
  replacing_is v None y known is e = absurd (cc)
  replacing_is v (Some a) y known is e =
      let (room, same) = if_room-some (replaced_state (setting (v, a)) s) _ y e in subst IsStep same (solve_is v a known is room)

  known-some : (v : Var) (o : Option Var) → known_only s o ≡ Some v → known_var s.next v ≡ true
  known-some v None e = absurd (cc)
  known-some v (Some x) e = by (known_var s.next x) refl e where
    by : (b : Bool) → known_var s.next x ≡ b → (if b then Some x else None) ≡ Some v → known_var s.next v ≡ true
    by true known f = subst (λ y. known_var s.next y ≡ true) (ap (or_this x) f) known
    by false known f = absurd (cc)

  by_solve-is : (o : Option Var) (y : Solved) → by_solve s i p (known_only s o) ≡ Some y → IsStep y
  by_solve-is o y e = by (known_only s o) refl e where
    by : (k : Option Var) → known_only s o ≡ k → by_solve s i p k ≡ Some y → IsStep y
    by None is f = absurd (cc)
    by (Some v) is f = replacing_is v (solved_value v p) y (known-some v o is) (solution-is v p) f

  with_parts-is : (o : Option (Pure × Pure)) (y : Solved) → parts_of p ≡ o → with_parts s i o ≡ Some y → IsStep y
  with_parts-is None y is e = absurd (cc)
  with_parts-is (Some h) y is e =
      let (room, same) = if_room-some (with_fact (with_fact s h.0) h.1) _ y e in subst IsStep same (uncons_is h is room)

  first_some-one : (a b : Option Solved) (y : Solved) → first_some a b ≡ Some y → (a ≡ Some y) ⊎ (b ≡ Some y)
  first_some-one None b y e = inr e
  first_some-one (Some x) b y e = inl e

  step_at-is : (y : Solved) → step_at s i p ≡ Some y → IsStep y
  step_at-is y e = elim (first_some-one (by_solve s i p (known_only s (greatest_allowed p (variables_of p)))) (with_parts s i (parts_of p)) y e) [
    | inl f ↦ by_solve-is (greatest_allowed p (variables_of p)) y f
    | inr f ↦ with_parts-is (parts_of p) y refl f
  ]

module _ (d : Decls) (s : SymState) (taken : List ℕ) where
  -- facts from a place on
  abbrev AreFrom : ℕ → List Pure → Type 0
  AreFrom n ps = (k : ℕ) (p : Pure) → slice_get ps k ≡ Some p → slice_get s.facts (n + k) ≡ Some p

  abbrev Steps : Option Solved → Type 0
  Steps o = (y : Solved) → o ≡ Some y → (g : Pure) → fact_table d y.rule (sequent s g) y.args 1 ≡ Ok (sequent y.state (read_with y.reading g) ∷ [])

  here_at : (n : ℕ) (p : Pure) (ps : List Pure) → AreFrom n (p ∷ ps) → numbered s.facts (n + 1) ≡ Some p
  here_at n p ps from = by ((n + 1) == 0) refl where
    by : (b : Bool) → ((n + 1) == 0) ≡ b → (if b then None else slice_get s.facts (n + 1 - 1)) ≡ Some p
    by true e = let z = eqb-true (n + 1) 0 e in absurd (omega arith)
    by false e = subst (λ m. slice_get s.facts m ≡ Some p) (omega arith) (from 0 p refl)

  step_on : (n : ℕ) (p : Pure) (ps : List Pure) (b : Bool) (more : Option Solved) → AreFrom n (p ∷ ps) → Steps more
      → Steps (if b then more else first_some (step_at s (n + 1) p) more)
  step_on n p ps true more from later y e g = later y e g
  step_on n p ps false more from later y e g = elim (first_some-one d s (n + 1) p (here_at n p ps from) (step_at s (n + 1) p) more y e) [
    | inl is ↦ step_at-is d s (n + 1) p (here_at n p ps from) y is g
    | inr is ↦ later y is g
  ]

  first_step-is : (ps : List Pure) (n : ℕ) → AreFrom n ps → Steps (first_step s taken (n + 1) ps)
  first_step-is [] n from y e g = absurd (cc)
  first_step-is (p ∷ ps) n from y e g =
      step_on n p ps (is_among (n + 1) taken) (first_step s taken (n + 1 + 1) ps) from
      (first_step-is ps (n + 1) (λ k q is. subst (λ m. slice_get s.facts m ≡ Some q) (omega arith) (from (suc k) q is))) y e g

-- each step's node is an instance in the state that it is made in
abbrev AreSteps : Decls → SymState → List Solved → Type 0
AreSteps d s [] = Unit {0}
AreSteps d s (x ∷ xs) =
    ((g : Pure) → fact_table d x.rule (sequent s g) x.args 1 ≡ Ok (sequent x.state (read_with x.reading g) ∷ [])) × AreSteps d x.state xs

after_are : (d : Decls) (s : SymState) (more : List ℕ → SymState → List Solved) (taken : List ℕ) (o : Option Solved)
    → ((ns : List ℕ) (z : SymState) → AreSteps d z (more ns z)) → Steps d s taken o → AreSteps d s (solving_after more taken o)
after_are d s more taken None others steps = tt
after_are d s more taken (Some x) others steps = (λ g. steps x refl g, others (taken ++ x.fact ∷ []) x.state)

pub within_are : (d : Decls) (n : ℕ) (taken : List ℕ) (s : SymState) → AreSteps d s (solving_within n taken s)
unfolding solving_within
within_are d zero taken s = tt
within_are d (suc n) taken s =
    after_are d s (solving_within n) taken (first_step s taken 1 s.facts) (within_are d n)
    (first_step-is d s taken s.facts 0 (λ k p is. subst (λ m. slice_get s.facts m ≡ Some p) (omega arith) is))

pub solving_are : (d : Decls) (s : SymState) → AreSteps d s (solving s)
unfolding solving
solving_are d s = within_are d most_steps [] s

-- ---- plain goals

module _ (d : Decls) where
  abbrev pub Accepts : Sequent → Deriv → Type 0
  Accepts = IsAccepted (fact_table d)

  leaf_accepted : (r : Rule) (q : Sequent) (args : List DArg) → Leaf d r q args → Accepts q (leaf r args)
  leaf_accepted r q args is = node_accepted (fact_table d) r q args [] [] is tt

  over_accepted : (r : Rule) (q : Sequent) (args : List DArg) (child : Sequent) (t : Deriv) → fact_table d r q args 1 ≡ Ok (child ∷ []) → Accepts child t
      → Accepts q (node r args (t ∷ []))
  over_accepted r q args child t is one' = node_accepted (fact_table d) r q args (child ∷ []) (t ∷ []) is (one', tt)

  at_once : (q : Sequent) (t : Deriv) → ClosesAtOnce d q t → Accepts q t
  at_once q t (way.ByHyp args is) = leaf_accepted rule.Hyp q args is
  at_once q t (way.ByNorm args is) = leaf_accepted rule.Norm q args is

  by_chain : (q : Sequent) (t : Deriv) → ClosesByChain d q t → Accepts q t
  by_chain q t (way.ByChain args is over) = leaf_accepted rule.Chain q args is

  when_false : (q : Sequent) (t : Deriv) → ClosesFalse d q t → Accepts q t
  when_false q t (way.ByNegation args child is kind norm) = over_accepted rule.Absurd q args child _ is (leaf_accepted rule.Norm child [] norm)
  when_false q t (way.ByVoid args is) = leaf_accepted rule.Void q args is
  when_false q t (way.ByOpposites args others child is same) = over_accepted rule.Absurd q args child _ is (leaf_accepted rule.Hyp child others same)
  when_false q t (way.ByCycle args any is over) = leaf_accepted rule.Chain q args is

  unequal : (q : Sequent) (t : Deriv) → ClosesUnequal d q t → Accepts q t
  unequal q t (way.AtOnce u is) = at_once q u is
  unequal q t (way.ByOrder args child u is chain) = over_accepted rule.Order q args child u is (by_chain child u chain)
  unequal q t (way.ByDistinct args is) = leaf_accepted rule.Distinct q args is
  unequal q t (way.ByPart args is) = leaf_accepted rule.Part q args is

  lacking : (q : Sequent) (t : Deriv) → ClosesLacking d q t → Accepts q t
  lacking q t (way.Differs u kind is) = unequal q u is
  lacking q t (way.ByHyp args is) = leaf_accepted rule.Hyp q args is
  lacking q t (way.ByPart args is) = leaf_accepted rule.Part q args is

  all_lacking : (qs : List Sequent) (ts : List Deriv) → AllLacking d qs ts → AllOf Accepts qs ts
  all_lacking [] [] all = tt
  all_lacking [] (t ∷ ts) all = all
  all_lacking (q ∷ qs) [] all = all
  all_lacking (q ∷ qs) (t ∷ ts) all = (lacking q t all.0, all_lacking qs ts all.1)

  goal_accepted : (q : Sequent) (t : Deriv) → ClosesGoal d q t → Accepts q t
  goal_accepted q t (way.AtOnce u is) = at_once q u is
  goal_accepted q t (way.ByBound args is) = leaf_accepted rule.Bound q args is
  goal_accepted q t (way.ByLabel args is) = leaf_accepted rule.Label q args is
  goal_accepted q t (way.ByChain u kind is) = by_chain q u is
  goal_accepted q t (way.ByChains args one' two u w is first second) =
      node_accepted (fact_table d) rule.Order q args (one' ∷ two ∷ []) (u ∷ w ∷ []) is (by_chain one' u first, (by_chain two w second, tt))
  goal_accepted q t (way.Differs u kind is) = unequal q u is
  goal_accepted q t (way.ByMember args child u is once) = over_accepted rule.Member q args child u is (at_once child u once)
  goal_accepted q t (way.ByLacks args children ts is all) = node_accepted (fact_table d) rule.Lacks q args children ts is (all_lacking children ts all)

  -- the nodes of solving above an accepted tree
  above : (xs : List Solved) (s : SymState) (g : Pure) (t : Deriv) → AreSteps d s xs → Accepts (sequent (state_after s xs) (goal_after xs g)) t
      → Accepts (sequent s g) (solving_tree xs t)
  above [] s g t steps is = is
  above (x ∷ xs) s g t steps is =
      over_accepted x.rule (sequent s g) x.args (sequent x.state (read_with x.reading g)) (solving_tree xs t) (steps.0 g)
      (above xs x.state (read_with x.reading g) t steps.1 is)

  -- a tree that closes a goal by these ways derives it
  pub plain_accepted : (s : SymState) (g : Pure) (t : Deriv) → ClosesPlain d s g t → Accepts (sequent s g) t
  plain_accepted s g t (way.InFalse u is) = above (solving s) s g u (solving_are d s) (when_false _ u is)
  plain_accepted s g t (way.ByGoal u is) = above (solving s) s g u (solving_are d s) (goal_accepted _ u is)
