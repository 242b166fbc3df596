-- The rules for facts, by their names: each is sound.
use Rattle.std.proofs.Common.{◌≡◌, ℕ, List, length, Some, Ok}
use Rattle.bed_machine.specs.Memory.{Memory}
use Rattle.bed_lang.specs.Values.{Values}
use Rattle.bed_sat.specs.Assertions.{World}
use Rattle.bed_sat.specs.Valid.{LabelsFit}
use Rattle.bed_deriv.specs.declared.derivation.DArg.{DArg}
use Rattle.bed_deriv.specs.declared.derivation.Rule.{Rule}
use Rattle.bed_deriv.specs.declared.derivation.Rule.TheVariants.{Hyp, Norm, Comb, Solve, Uncons, Chain, Order, Cut, Carry, Split, Absurd, Void, Member, Lacks, Part, One, Distinct, Bound, Label}
use Rattle.bed_deriv.specs.declared.state.Sequent.{Sequent}
use Rattle.bed_deriv.specs.PureRules.{hyp, norm, comb, solve, order, cut, carry, split, contradiction, distinct, bound, label}
use Rattle.bed_deriv.specs.ListRules.{uncons, void, member, lacks, part, one}
use Rattle.bed_deriv.specs.Chains.{chain}
use Rattle.bed_deriv.specs.Checks.{remainder}
use Rattle.bed_deriv.specs.Derives.{Purpose, ForFacts, ForStates, ForSteps, ForEnds, purpose, fact_table, heap_rule}
use Rattle.bed_check_pure.specs.Sound.{FollowsAt, AllFollowAt}
use Rattle.bed_check_pure.specs.Answers.{at_fact, goal_table}
use Rattle.bed_check_pure.specs.Laws.{HypIsSound, NormIsSound, CombIsSound, SolveIsSound, UnconsIsSound, ChainIsSound, OrderIsSound, CutIsSound, CarryIsSound, SplitIsSound, AbsurdIsSound, VoidIsSound, MemberIsSound, LacksIsSound, PartIsSound, OneIsSound, DistinctIsSound, BoundIsSound, LabelIsSound}
use Rattle.bed_check_pure.proofs.CheckLaws.{sound_outcome}
use Rattle.bed_check_pure.proofs.RuleLaws.{hyp_sound, norm_sound, order_sound, cut_sound, carry_sound, split_sound, absurd_sound, distinct_sound, bound_sound}
use Rattle.bed_check_pure.proofs.CombLaws.{comb_sound}
use Rattle.bed_check_pure.proofs.SolveLaws.{solve_sound}
use Rattle.bed_check_pure.proofs.ChainLaws.{chain_sound}
use Rattle.bed_check_pure.proofs.UnconsLaws.{uncons_sound, void_sound}
use Rattle.bed_check_pure.proofs.MemberLaws.{member_sound, lacks_sound, part_sound, one_sound}
use Rattle.bed_check_pure.proofs.LabelLaws.{label_sound}
use Rattle.bed_check_pure.proofs.RefusalLaws.{never_accepted}

module _ (w : World) (ν : Values) (h : Memory) (q : Sequent) (args : List DArg) (n : ℕ) (goals : List Sequent) where
  -- there are as many goals as children, and where these follow so does the node's
  abbrev pub Suffice : Type 0
  Suffice = (length goals ≡ n) × (AllFollowAt w ν h goals → FollowsAt w ν h q)

  -- whatever the rule, the goals that a node leaves to its children suffice
  pub fact_sound : LabelsFit w → (r : Rule) → fact_table w.decls r q args n ≡ Ok goals → Suffice
  fact_sound fits Hyp e = sound_outcome w ν h q n (hyp q.state (Some q.goal) args n) (hyp_sound w ν h q args n) goals e
  fact_sound fits Norm e = sound_outcome w ν h q n (norm (Some q.goal) args n) (norm_sound w ν h q args n) goals e
  fact_sound fits Comb e = sound_outcome w ν h q n (comb q.state (Some q.goal) args n) (comb_sound w ν h q args n) goals e
  fact_sound fits Solve e = sound_outcome w ν h q n (solve q.state (Some q.goal) args n) (solve_sound w ν h q args n) goals e
  fact_sound fits Uncons e = sound_outcome w ν h q n (uncons q.state (Some q.goal) args n) (uncons_sound w ν h q args n) goals e
  fact_sound fits Chain e = sound_outcome w ν h q n (chain q.state (Some q.goal) args n) (chain_sound w ν h q n args) goals e
  fact_sound fits Order e = sound_outcome w ν h q n (order q.state (Some q.goal) args n) (order_sound w ν h q args n) goals e
  fact_sound fits Cut e = sound_outcome w ν h q n (cut q.state (Some q.goal) args n) (cut_sound w ν h q args n) goals e
  fact_sound fits Carry e = sound_outcome w ν h q n (carry q.state (Some q.goal) args n) (carry_sound w ν h q args n) goals e
  fact_sound fits Split e = sound_outcome w ν h q n (split q.state (Some q.goal) args n) (split_sound w ν h q args n) goals e
  fact_sound fits Absurd e = sound_outcome w ν h q n (contradiction q.state (Some q.goal) args n) (absurd_sound w ν h q args n) goals e
  fact_sound fits Void e = sound_outcome w ν h q n (void q.state (Some q.goal) args n) (void_sound w ν h q args n) goals e
  fact_sound fits Member e = sound_outcome w ν h q n (member q.state (Some q.goal) args n) (member_sound w ν h q args n) goals e
  fact_sound fits Lacks e = sound_outcome w ν h q n (lacks q.state (Some q.goal) args n) (lacks_sound w ν h q args n) goals e
  fact_sound fits Part e = sound_outcome w ν h q n (part q.state (Some q.goal) args n) (part_sound w ν h q args n) goals e
  fact_sound fits One e = sound_outcome w ν h q n (one q.state (Some q.goal) args n) (one_sound w ν h q args n) goals e
  fact_sound fits Distinct e = sound_outcome w ν h q n (distinct q.state (Some q.goal) args n) (distinct_sound w ν h q args n) goals e
  fact_sound fits Bound e = sound_outcome w ν h q n (bound q.state (Some q.goal) args n) (bound_sound w ν h q args n) goals e
  fact_sound fits Label e = sound_outcome w ν h q n (label w.decls (Some q.goal) args n) (label_sound w ν h fits q args n) goals e
  fact_sound fits _ e = absurd (cc)

  goal_is_fact : (r : Rule) (p : Purpose) → at_fact w.decls p r q args n ≡ Ok goals → fact_table w.decls r q args n ≡ Ok goals
  goal_is_fact r ForFacts e = e
  goal_is_fact r ForStates e = absurd (never_accepted (remainder (heap_rule w.decls r q.state args n)) goals e)
  goal_is_fact r ForSteps e = absurd (cc)
  goal_is_fact r ForEnds e = absurd (cc)

-- and so do those of a rule at a fact
pub goal_sound : (w : World) (ν : Values) (h : Memory) (q : Sequent) (args : List DArg) (n : ℕ) (goals : List Sequent) → LabelsFit w → (r : Rule)
    → goal_table w.decls r q args n ≡ Ok goals → Suffice w ν h q args n goals
unfolding goal_table
goal_sound w ν h q args n goals fits r e = fact_sound w ν h q args n goals fits r (goal_is_fact w ν h q args n goals r (purpose r) e)

-- ---- the laws

pub hyp_is_sound : HypIsSound
hyp_is_sound w ν h fits q args n goals e = (fact_sound w ν h q args n goals fits Hyp e).1

pub norm_is_sound : NormIsSound
norm_is_sound w ν h fits q args n goals e = (fact_sound w ν h q args n goals fits Norm e).1

pub comb_is_sound : CombIsSound
comb_is_sound w ν h fits q args n goals e = (fact_sound w ν h q args n goals fits Comb e).1

pub solve_is_sound : SolveIsSound
solve_is_sound w ν h fits q args n goals e = (fact_sound w ν h q args n goals fits Solve e).1

pub uncons_is_sound : UnconsIsSound
uncons_is_sound w ν h fits q args n goals e = (fact_sound w ν h q args n goals fits Uncons e).1

pub chain_is_sound : ChainIsSound
chain_is_sound w ν h fits q args n goals e = (fact_sound w ν h q args n goals fits Chain e).1

pub order_is_sound : OrderIsSound
order_is_sound w ν h fits q args n goals e = (fact_sound w ν h q args n goals fits Order e).1

pub cut_is_sound : CutIsSound
cut_is_sound w ν h fits q args n goals e = (fact_sound w ν h q args n goals fits Cut e).1

pub carry_is_sound : CarryIsSound
carry_is_sound w ν h fits q args n goals e = (fact_sound w ν h q args n goals fits Carry e).1

pub split_is_sound : SplitIsSound
split_is_sound w ν h fits q args n goals e = (fact_sound w ν h q args n goals fits Split e).1

pub absurd_is_sound : AbsurdIsSound
absurd_is_sound w ν h fits q args n goals e = (fact_sound w ν h q args n goals fits Absurd e).1

pub void_is_sound : VoidIsSound
void_is_sound w ν h fits q args n goals e = (fact_sound w ν h q args n goals fits Void e).1

pub member_is_sound : MemberIsSound
member_is_sound w ν h fits q args n goals e = (fact_sound w ν h q args n goals fits Member e).1

pub lacks_is_sound : LacksIsSound
lacks_is_sound w ν h fits q args n goals e = (fact_sound w ν h q args n goals fits Lacks e).1

pub part_is_sound : PartIsSound
part_is_sound w ν h fits q args n goals e = (fact_sound w ν h q args n goals fits Part e).1

pub one_is_sound : OneIsSound
one_is_sound w ν h fits q args n goals e = (fact_sound w ν h q args n goals fits One e).1

pub distinct_is_sound : DistinctIsSound
distinct_is_sound w ν h fits q args n goals e = (fact_sound w ν h q args n goals fits Distinct e).1

pub bound_is_sound : BoundIsSound
bound_is_sound w ν h fits q args n goals e = (fact_sound w ν h q args n goals fits Bound e).1

pub label_is_sound : LabelIsSound
label_is_sound w ν h fits q args n goals e = (fact_sound w ν h q args n goals fits Label e).1
