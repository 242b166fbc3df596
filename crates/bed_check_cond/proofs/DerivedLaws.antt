-- A condition that has a derivation is valid: every node of the tree closes what it stands for, from the leaves to the root.
use Rattle.std.proofs.Common.{◌≡◌, ℕ, List, [], ◌∷◌, ◌++◌, map, length, length-append, Option, None, Result, Ok, Err, inl, inr, refl, sym, ◌∙◌, subst, arith}
use Rattle.std.proofs.lemmas.List.{length-map}
use Rattle.std.proofs.lemmas.Bool.{and_parts}
use Rattle.bed_machine.specs.Memory.{Memory, empty}
use Rattle.bed_lang.specs.declared.word.Name.{Name}
use Rattle.bed_lang.specs.declared.word.Word.{Word}
use Rattle.bed_lang.specs.declared.logic.Pure.{Pure}
use Rattle.bed_lang.specs.declared.module.Signature.{Signature}
use Rattle.bed_lang.specs.declared.module.Action.{Action}
use Rattle.bed_lang.specs.declared.condition.Goal.{Goal}
use Rattle.bed_lang.specs.declared.condition.Goal.TheVariants as goal
use Rattle.bed_lang.specs.Lookups.{function_signature}
use Rattle.bed_lang.specs.Values.{Values}
use Rattle.bed_sat.specs.Assertions.{World, blank}
use Rattle.bed_sat.specs.Valid.{LabelsFit, After, GoalHolds}
use Rattle.bed_deriv.specs.declared.derivation.DArg.{DArg}
use Rattle.bed_deriv.specs.declared.derivation.Deriv.{Deriv}
use Rattle.bed_deriv.specs.declared.derivation.Rule.{Rule}
use Rattle.bed_deriv.specs.declared.derivation.Rule.TheVariants as rule
use Rattle.bed_deriv.specs.declared.state.SymState.{SymState}
use Rattle.bed_deriv.specs.declared.state.Sequent.{Sequent}
use Rattle.bed_deriv.specs.declared.state.Remainder.{Remainder}
use Rattle.bed_deriv.specs.Checks.{first_failure, outcome, remainder}
use Rattle.bed_deriv.specs.Derives.{Purpose, ForFacts, ForStates, ForSteps, ForEnds, purpose, pure_rule, heap_rule, fact_table, facts_to_prove, proofs, from_states, states_to_close, rests_to_close, by_purpose, rules, whole}
use Rattle.bed_deriv.specs.declared.rest.Task.{Task}
use Rattle.bed_deriv.specs.declared.rest.Task.TheVariants.{Proves}
use Rattle.bed_deriv.specs.declared.rest.Task.TheVariants as task
use Rattle.bed_deriv.specs.Fresh.{known_assertion, unfresh_goal, AreUnfresh}
use Rattle.bed_deriv.specs.HeapRules.{claim, case_split, never, unfold_rule, fold_rule, append_rule, divide, merge, shape}
use Rattle.bed_deriv.specs.Steps.{step, step_along, step_of_goal, finish, onward_of, onward_states}
use Rattle.bed_deriv.specs.declared.rest.Rest.{Rest}
use Rattle.bed_deriv.specs.declared.rest.Onward.{Onward}
use Rattle.bed_deriv.specs.Walk.{walk}
use Rattle.bed_deriv.proofs.StartLaws.{started-known}
use Rattle.bed_check_pure.specs.Sound.{FollowsAt, AllFollowAt}
use Rattle.bed_check_pure.proofs.CheckLaws.{roomy}
use Rattle.bed_check_pure.proofs.TableLaws.{fact_sound}
use Rattle.bed_check_pure.proofs.RefusalLaws.{never_accepted}
use Rattle.bed_check_pure.proofs.WalkLaws.{walk_sound}
use Rattle.bed_check_heap.specs.Sound.{SomeHolds}
use Rattle.bed_check_heap.proofs.KeepLaws.{Every, passed, Keeps, kept, claim_keeps, when_keeps, never_keeps, divide_keeps, merge_keeps}
use Rattle.bed_check_heap.proofs.UnfoldLaws.{unfold_keeps}
use Rattle.bed_check_heap.proofs.FoldLaws.{fold_keeps}
use Rattle.bed_check_heap.proofs.AppendLaws.{append_keeps}
use Rattle.bed_check_heap.proofs.ShapeLaws.{shape_keeps}
use Rattle.bed_check_cond.specs.Paths.{ReadsLocals, AreProved, Closes, AllClose, StepCloses, DerivedIsValid}
use Rattle.bed_check_cond.proofs.ReadLaws.{reads_known}
use Rattle.bed_check_cond.proofs.EndLaws.{IsKnownRest, ClosesBy, finish_by}
use Rattle.bed_check_cond.proofs.ActionLaws.{action_closes}
use Rattle.bed_check_cond.proofs.CallLaws.{call_closes}
use Rattle.bed_check_cond.proofs.GrownLaws.{rule_grown}
use Rattle.bed_check_cond.specs.States.{AllGrown}
use Rattle.bed_check_cond.proofs.RestLaws.{AllKnown, step_known}
use Rattle.bed_check_cond.proofs.BeginLaws.{condition_opens}

-- ---- steps

module _ (w : World) (S : Option Signature) (fits : LabelsFit w) (unfresh : AreUnfresh w.decls) (r : Rest) (args : List DArg) (n : ℕ) where
  goal_closes : (g : Goal) → r.actions ≡ [] → r.goal ≡ g → Every (ClosesBy w S r n) (step_of_goal w.decls r g args n)
  goal_closes (goal.Meets A) ended is = tt
  goal_closes (goal.Returns a) ended is = tt
  goal_closes (goal.Calls target via operands into after) ended is = call_closes w S r fits unfresh target via operands into after args n ended is

  along_closes : (as' : List Action) → r.actions ≡ as' → Every (ClosesBy w S r n) (step_along w.decls r as' args n)
  along_closes [] ended = goal_closes r.goal ended refl
  along_closes (a ∷ more) e = action_closes w S r n a more args e

  step_by : (o : Onward) → onward_of (step w.decls r args n) ≡ Ok o → ClosesBy w S r n o
  step_by o e = passed (ClosesBy w S r n) (step w.decls r args n) (along_closes r.actions refl) o (roomy onward_states (first_failure (step w.decls r args n)) o e)

  stepped_known : (o : Onward) → IsKnownRest r → onward_of (step w.decls r args n) ≡ Ok o → AllKnown o.rests
  stepped_known o known e =
      passed (λ p. AllKnown p.rests) (step w.decls r args n) (step_known w.decls unfresh r known.0 known.1 r.actions args n) o (roomy onward_states (first_failure (step w.decls r args n)) o e)

pub step_is_closed : StepCloses
step_is_closed w S r args n o e fits unfresh state goal_known proved closed = (step_by w S fits unfresh r args n o e).1 (state, goal_known) proved closed

-- ---- the nine rules that change a state

rule_keeps : (w : World) (ν : Values) (h : Memory) (s : SymState) (args : List DArg) (n : ℕ) (m : Remainder) (r : Rule) → remainder (heap_rule w.decls r s args n) ≡ Ok m → Keeps w ν h s n m
rule_keeps w ν h s args n m rule.Claim e = kept w ν h s n (claim s args n) (claim_keeps w ν h s args n) m e
rule_keeps w ν h s args n m rule.When e = kept w ν h s n (case_split s args n) (when_keeps w ν h s args n) m e
rule_keeps w ν h s args n m rule.Never e = kept w ν h s n (never args n) (never_keeps w ν h s args n) m e
rule_keeps w ν h s args n m rule.Unfold e = kept w ν h s n (unfold_rule w.decls s args n) (unfold_keeps w ν h s args n) m e
rule_keeps w ν h s args n m rule.Fold e = kept w ν h s n (fold_rule w.decls s args n) (fold_keeps w ν h s args n) m e
rule_keeps w ν h s args n m rule.Append e = kept w ν h s n (append_rule w.decls s args n) (append_keeps w ν h s args n) m e
rule_keeps w ν h s args n m rule.Divide e = kept w ν h s n (divide s args n) (divide_keeps w ν h s args n) m e
rule_keeps w ν h s args n m rule.Merge e = kept w ν h s n (merge s args n) (merge_keeps w ν h s args n) m e
rule_keeps w ν h s args n m rule.Shape e = kept w ν h s n (shape s args n) (shape_keeps w ν h s args n) m e
rule_keeps w ν h s args n m _ e = absurd cc

-- ---- one node

module _ (w : World) (fits : LabelsFit w) (unfresh : AreUnfresh w.decls) (function : Name) where
  abbrev S : Option Signature
  S = function_signature w.decls function

  -- what a node stands for is so
  abbrev IsDone : Task → Type 0
  IsDone (Proves q) = (ν : Values) (h : Memory) → FollowsAt w ν h q
  IsDone (task.Closes r) = IsKnownRest r → Closes w S r

  abbrev AllDone : List Task → Type 0
  AllDone [] = Unit {0}
  AllDone (t ∷ ts) = IsDone t × AllDone ts

  done_parts : (ts us : List Task) → AllDone (ts ++ us) → AllDone ts × AllDone us
  done_parts [] us d = (tt, d)
  done_parts (t ∷ ts) us d = let k = done_parts ts us d.1 in ((d.0, k.0), k.1)

  all_follow : (qs : List Sequent) → AllDone (map Proves qs) → (ν : Values) (h : Memory) → AllFollowAt w ν h qs
  all_follow [] d ν h = tt
  all_follow (q ∷ qs) d ν h = (d.0 ν h, all_follow qs d.1 ν h)

  all_proved : (s : SymState) (goals : List Pure) → AllDone (facts_to_prove s goals) → AreProved w s goals
  all_proved s [] d ν h holds = tt
  all_proved s (g ∷ gs) d ν h holds = (d.0 ν h holds, all_proved s gs d.1 ν h holds)

  count_of_facts : (s : SymState) (goals : List Pure) → length (facts_to_prove s goals) ≡ length goals
  count_of_facts s [] = refl
  count_of_facts s (g ∷ gs) = let k = count_of_facts s gs in omega arith

  count_of_states : (r : Rest) (states : List SymState) → length (from_states r states) ≡ length states
  count_of_states r [] = refl
  count_of_states r (s ∷ ss) = let k = count_of_states r ss in omega arith

  abbrev Sound : Task → ℕ → List Task → Type 0
  Sound t n ts = (length ts ≡ n) × (AllDone ts → IsDone t)

  -- facts
  facts_done : (r : Rule) (q : Sequent) (args : List DArg) (n : ℕ) (ts : List Task) → proofs (fact_table w.decls r q args n) ≡ Ok ts → Sound (Proves q) n ts
  facts_done r q args n ts e = by (fact_table w.decls r q args n) refl e
    where
      by : (o : Result (List Sequent) ℕ) → fact_table w.decls r q args n ≡ o → proofs o ≡ Ok ts → Sound (Proves q) n ts
      by (Err p) is e = absurd cc
      by (Ok qs) is e =
          let same : map Proves qs ≡ ts = cc in
          subst (Sound (Proves q) n) same (
            length-map qs Proves ∙ (fact_sound w blank empty q args n qs fits r is).0,
            λ d ν h. (fact_sound w ν h q args n qs fits r is).1 (all_follow qs d ν h),
          )

  -- states
  some_closes : (r : Rest) (ν μ : Values) (h : Memory) (states : List SymState) → IsKnownRest r → ReadsLocals w.labels r.state.locals ν μ → AllGrown r.state states → AllDone (from_states r states)
      → SomeHolds w r.state.next ν h states → After w.labels r.actions (GoalHolds w S r.goal) μ h
  some_closes r ν μ h [] known reads grown d holds = absurd holds
  some_closes r ν μ h (s ∷ ss) known reads grown d (inl (κ, g, holds)) =
      let k = grown.0 in
      let read = subst (λ (ls : List (Name × Word)). ReadsLocals w.labels ls κ μ) (sym k.locals) (reads_known w r.state.next ν κ μ g r.state.locals known.0.locals reads) in
      d.0 (k.known, known.1) κ μ h holds read
  some_closes r ν μ h (s ∷ ss) known reads grown d (inr more) = some_closes r ν μ h ss known reads grown.1 d.1 more

  states_done : (u : Rule) (r : Rest) (args : List DArg) (n : ℕ) (ts : List Task) → states_to_close r (remainder (heap_rule w.decls u r.state args n)) ≡ Ok ts → Sound (task.Closes r) n ts
  states_done u r args n ts e = by (remainder (heap_rule w.decls u r.state args n)) refl e
    where
      by : (o : Result Remainder ℕ) → remainder (heap_rule w.decls u r.state args n) ≡ o → states_to_close r o ≡ Ok ts → Sound (task.Closes r) n ts
      by (Err p) is e = absurd cc
      by (Ok m) is e =
          let same : (facts_to_prove r.state m.goals ++ from_states r m.states) ≡ ts = cc in
          subst (Sound (task.Closes r) n) same (
            (
                let a = length-append (facts_to_prove r.state m.goals) (from_states r m.states) in
                let b = count_of_facts r.state m.goals in
                let c = count_of_states r m.states in
                let k = (rule_keeps w blank empty r.state args n m u is).0 in
                omega arith
                ),
            λ d known ν μ h holds reads.
                let parts = done_parts (facts_to_prove r.state m.goals) (from_states r m.states) d in
                let grown = rule_grown w.decls unfresh r.state known.0 u args n m is in
                some_closes r ν μ h m.states known reads grown parts.1 ((rule_keeps w ν h r.state args n m u is).1 known.0 holds (all_proved r.state m.goals parts.0 ν h holds)),
          )

  -- rests
  rests_closed : (rs : List Rest) → AllKnown rs → AllDone (map task.Closes rs) → AllClose w S rs
  rests_closed [] known d = tt
  rests_closed (r ∷ rs) known d = (d.0 known.0, rests_closed rs known.1 d.1)

  rests_done : (r : Rest) (n : ℕ) (ts : List Task) (given : Result Onward ℕ) → ((o : Onward) → given ≡ Ok o → ClosesBy w S r n o × (IsKnownRest r → AllKnown o.rests))
      → rests_to_close r given ≡ Ok ts → Sound (task.Closes r) n ts
  rests_done r n ts (Err p) closes e = absurd cc
  rests_done r n ts (Ok o) closes e =
      let (by, known_rests) = closes o refl in
      let same : (facts_to_prove r.state o.goals ++ map task.Closes o.rests) ≡ ts = cc in
      subst (Sound (task.Closes r) n) same (
        (
            let a = length-append (facts_to_prove r.state o.goals) (map task.Closes o.rests) in
            let b = count_of_facts r.state o.goals in
            let c = length-map o.rests task.Closes in
            let k = by.0 in
            omega arith
            ),
        λ d known.
            let parts = done_parts (facts_to_prove r.state o.goals) (map task.Closes o.rests) d in
            by.1 known (all_proved r.state o.goals parts.0) (rests_closed o.rests (known_rests known) parts.1),
      )

  node_done : (p : Purpose) (u : Rule) (t : Task) (args : List DArg) (n : ℕ) (ts : List Task) → by_purpose w.decls function p u t args n ≡ Ok ts → Sound t n ts
  node_done ForFacts u (Proves q) args n ts e = facts_done u q args n ts e
  node_done ForFacts u (task.Closes r) args n ts e = absurd (never_accepted (outcome (pure_rule w.decls u r.state None args n)) ts e)
  node_done ForStates u (Proves q) args n ts e = absurd (never_accepted (remainder (heap_rule w.decls u q.state args n)) ts e)
  node_done ForStates u (task.Closes r) args n ts e = states_done u r args n ts e
  node_done ForSteps u (Proves q) args n ts e = absurd cc
  node_done ForSteps u (task.Closes r) args n ts e =
      rests_done r n ts (onward_of (step w.decls r args n)) (λ o is. (step_by w S fits unfresh r args n o is, λ known. stepped_known w S fits unfresh r args n o known is)) e
  node_done ForEnds u (Proves q) args n ts e = absurd cc
  node_done ForEnds u (task.Closes r) args n ts e =
      rests_done r n ts (onward_of (finish w.decls function r args n)) (λ o is. let k = finish_by w function r args n o unfresh is in (k.1, λ known. subst AllKnown (sym k.0) tt)) e

  -- what an accepted tree stands for is so
  pub tree_done : (d : Deriv) (t : Task) (n m : ℕ) → walk (rules w.decls function) d t n ≡ Ok m → IsDone t
  tree_done = walk_sound (rules w.decls function) IsDone AllDone tt (λ t ts one others. (one, others)) (λ u t args n ts. node_done (purpose u) u t args n ts)

-- ---- the condition

pub derived_is_valid : DerivedIsValid
derived_is_valid d c t unfresh known size derives = record {
  holds = λ codes labels fits μ h starts.
      let w : World = record { decls = d; codes = codes; labels = labels } in
      let o = condition_opens w c μ h known starts in
      tree_done w fits unfresh c.function t (whole c d) 1 derives.last derives.accepted (started-known c d known, (and_parts (known_assertion 0 c.start) (unfresh_goal c.goal) known).1) o.values μ h o.holds o.reads;
}
