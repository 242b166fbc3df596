-- Each rule for a fact is sound: where the goals of its children follow, under some values and on some memory, so does its own. These
-- are the laws, as statements, in the order of the table of rules.
use Rattle.std.specs.Prelude.{◌≡◌, ℕ, List, Ok}
use Rattle.bed_machine.specs.Memory.{Memory}
use Rattle.bed_lang.specs.Values.{Values}
use Rattle.bed_sat.specs.Assertions.{World}
use Rattle.bed_sat.specs.Valid.{LabelsFit}
use Rattle.bed_deriv.specs.declared.derivation.DArg.{DArg}
use Rattle.bed_deriv.specs.declared.derivation.Rule.{Rule}
use Rattle.bed_deriv.specs.declared.derivation.Rule.TheVariants as rule
use Rattle.bed_deriv.specs.declared.state.Sequent.{Sequent}
use Rattle.bed_deriv.specs.Derives.{fact_table}
use Rattle.bed_check_pure.specs.Sound.{FollowsAt, AllFollowAt}

abbrev pub IsSoundRule : Rule → Type 0
IsSoundRule r =
    (w : World) (ν : Values) (h : Memory) → LabelsFit w
    → (q : Sequent) (args : List DArg) (n : ℕ) (children : List Sequent) → fact_table w.decls r q args n ≡ Ok children
    → AllFollowAt w ν h children → FollowsAt w ν h q

abbrev pub HypIsSound : Type 0
HypIsSound = IsSoundRule rule.Hyp

abbrev pub NormIsSound : Type 0
NormIsSound = IsSoundRule rule.Norm

abbrev pub CombIsSound : Type 0
CombIsSound = IsSoundRule rule.Comb

abbrev pub SolveIsSound : Type 0
SolveIsSound = IsSoundRule rule.Solve

abbrev pub UnconsIsSound : Type 0
UnconsIsSound = IsSoundRule rule.Uncons

abbrev pub ChainIsSound : Type 0
ChainIsSound = IsSoundRule rule.Chain

abbrev pub OrderIsSound : Type 0
OrderIsSound = IsSoundRule rule.Order

abbrev pub CutIsSound : Type 0
CutIsSound = IsSoundRule rule.Cut

abbrev pub CarryIsSound : Type 0
CarryIsSound = IsSoundRule rule.Carry

abbrev pub SplitIsSound : Type 0
SplitIsSound = IsSoundRule rule.Split

abbrev pub AbsurdIsSound : Type 0
AbsurdIsSound = IsSoundRule rule.Absurd

abbrev pub VoidIsSound : Type 0
VoidIsSound = IsSoundRule rule.Void

abbrev pub MemberIsSound : Type 0
MemberIsSound = IsSoundRule rule.Member

abbrev pub LacksIsSound : Type 0
LacksIsSound = IsSoundRule rule.Lacks

abbrev pub PartIsSound : Type 0
PartIsSound = IsSoundRule rule.Part

abbrev pub OneIsSound : Type 0
OneIsSound = IsSoundRule rule.One

abbrev pub DistinctIsSound : Type 0
DistinctIsSound = IsSoundRule rule.Distinct

abbrev pub BoundIsSound : Type 0
BoundIsSound = IsSoundRule rule.Bound

abbrev pub LabelIsSound : Type 0
LabelIsSound = IsSoundRule rule.Label
