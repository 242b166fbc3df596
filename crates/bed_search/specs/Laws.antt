-- Laws of nodes, as statements.
use Rattle.std.specs.Prelude.{◌≡◌, ℕ, List, Ok}
use Rattle.bed_lang.specs.declared.word.Name.{Name}
use Rattle.bed_lang.specs.declared.condition.Decls.{Decls}
use Rattle.bed_deriv.specs.declared.derivation.Rule.{Rule}
use Rattle.bed_deriv.specs.declared.derivation.DArg.{DArg}
use Rattle.bed_deriv.specs.declared.rest.Task.{Task}
use Rattle.bed_deriv.specs.Derives.{rules}

-- a node of one rule for one thing, with two numbers of children that both pass, leaves the same
abbrev pub CountsAgree : Type 0
CountsAgree =
    (d : Decls) (function : Name) (r : Rule) (t : Task) (args : List DArg) (m n : ℕ) (ts us : List Task)
    → rules d function r t args m ≡ Ok ts → rules d function r t args n ≡ Ok us → ts ≡ us
