-- Laws of plain goals, as statements.
use Rattle.std.specs.Prelude.{◌≡◌, ℕ, List, Ok}
use Rattle.bed_lang.specs.declared.form.Form.{Form}
use Rattle.bed_lang.specs.declared.logic.Pure.{Pure}
use Rattle.bed_lang.specs.declared.condition.Decls.{Decls}
use Rattle.bed_deriv.specs.declared.derivation.Rule.TheVariants as rule
use Rattle.bed_deriv.specs.declared.derivation.DArg.{DArg}
use Rattle.bed_deriv.specs.declared.derivation.Deriv.{Deriv}
use Rattle.bed_deriv.specs.declared.state.SymState.{SymState}
use Rattle.bed_deriv.specs.Checks.{sequent}
use Rattle.bed_deriv.specs.Derives.{fact_table}
use Rattle.bed_deriv.specs.Walk.{walk}
use Rattle.bed_plain.specs.Chained.{Solves, Says}
use Rattle.bed_plain.specs.Plain.{Leaf, ClosesPlain}

-- a tree that closes a plain goal is accepted by the rules for facts, node by node from any number on
abbrev pub PlainTreesAreAccepted : Type 0
PlainTreesAreAccepted =
    (d : Decls) (s : SymState) (g : Pure) (t : Deriv) → ClosesPlain d s g t → (n : ℕ) → (m : ℕ) × (walk (fact_table d) t (sequent s g) n ≡ Ok m)

-- a goal that the rule chain closes is as every solution of the facts' constraints says
abbrev pub ChainsAreTrue : Type 0
ChainsAreTrue =
    (d : Decls) (s : SymState) (v : Form → ℕ) → Solves s v → (g : Pure) (args : List DArg) → Leaf d rule.Chain (sequent s g) args → Says v g
