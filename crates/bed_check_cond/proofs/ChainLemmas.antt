-- The states that an accepted node goes on with come from its own.
use Rattle.std.proofs.Common.{◌≡◌, ℕ, List, length, None, Ok, subst}
use Rattle.bed_lang.specs.declared.condition.Decls.{Decls}
use Rattle.bed_deriv.specs.declared.derivation.DArg.{DArg}
use Rattle.bed_deriv.specs.declared.derivation.Deriv.{out-Deriv}
use Rattle.bed_deriv.specs.declared.derivation.Rule.{Rule}
use Rattle.bed_deriv.specs.declared.state.SymState.{SymState}
use Rattle.bed_deriv.specs.declared.state.Remainder.{Remainder}
use Rattle.bed_deriv.specs.Fresh.{IsKnownState, AreUnfresh}
use Rattle.bed_deriv.specs.Checks.{outcome}
use Rattle.bed_deriv.specs.Derives.{Purpose, ForFacts, ForStates, ForSteps, ForEnds, purpose, pure_rule}
use Rattle.bed_deriv.specs.Nodes.{children_walked}
use Rattle.bed_check_pure.specs.Answers.{goal_table}
use Rattle.bed_check_pure.proofs.RefusalLaws.{never_accepted}
use Rattle.bed_check_heap.specs.Steps.{at_state, state_table}
use Rattle.bed_check_heap.proofs.StepLaws.{rule_parts, walked_parts}
use Rattle.bed_check_cond.specs.States.{AllGrown, RulesGrow, StepsGrow}
use Rattle.bed_check_cond.proofs.GrownLaws.{rule_grown}

pub rules_grow : RulesGrow
rules_grow d r s args n m e unfresh known = rule_grown d unfresh s known r args n m e

grown_at : (d : Decls) (unfresh : AreUnfresh d) (s : SymState) (known : IsKnownState s) (args : List DArg) (n : ℕ) (m : Remainder) (r : Rule) (p : Purpose)
    → at_state d p r s args n ≡ Ok m → AllGrown s m.states
grown_at d unfresh s known args n m r ForFacts e = absurd (never_accepted (outcome (pure_rule d r s None args n)) m e)
grown_at d unfresh s known args n m r ForStates e = rule_grown d unfresh s known r args n m e
grown_at d unfresh s known args n m r ForSteps e = absurd (cc)
grown_at d unfresh s known args n m r ForEnds e = absurd (cc)

pub steps_grow : StepsGrow
steps_grow d s t ss e unfresh known =
    let y = out-Deriv t in
    let (m, built, accepted) = rule_parts d s y.children (state_table d y.rule s y.args (length y.children)) ss e in
    let (last, ok, same) = walked_parts m.states ss (children_walked (goal_table d) s y.children m.goals 2) accepted in
    subst (AllGrown s) same (grown_at d unfresh s known y.args (length y.children) m y.rule (purpose y.rule) built)
