-- The procedure that closes the rest of a condition, and the trees that it may give, over any ways of closing facts and of picking
-- steps.
use Rattle.std.specs.Prelude.{◌≡◌, ◌⊎◌, List, [], ◌∷◌, length, Option, Some, None, Ok}
use Rattle.bed_lang.specs.declared.word.Name.{Name}
use Rattle.bed_lang.specs.declared.word.Word.{Number}
use Rattle.bed_lang.specs.declared.logic.Arg.{Arg}
use Rattle.bed_lang.specs.declared.logic.Pure.{Pure}
use Rattle.bed_lang.specs.declared.logic.Pure.TheVariants.{Equal}
use Rattle.bed_lang.specs.declared.condition.Decls.{Decls}
use Rattle.bed_deriv.specs.declared.derivation.Rule.TheVariants as rule
use Rattle.bed_deriv.specs.declared.derivation.Deriv.{Deriv}
use Rattle.bed_deriv.specs.declared.state.SymState.{SymState}
use Rattle.bed_deriv.specs.declared.state.Sequent.{Sequent}
use Rattle.bed_deriv.specs.declared.rest.Rest.{Rest}
use Rattle.bed_deriv.specs.declared.rest.Task.{Task}
use Rattle.bed_deriv.specs.declared.rest.Task.TheVariants.{Proves, Closes}
use Rattle.bed_deriv.specs.Derives.{rules}
use Rattle.bed_search.specs.declared.ahead.Todo.{Todo}
use Rattle.bed_plain.specs.Trees.{Choice, AllOf, node}
use Rattle.bed_search.specs.Given.{Gives, given_in, given_by, gives_behind}

-- The ways of the procedure, for a function of declared things: when a tree closes a fact in a state, when a state is plainly false, and
-- which rule with which arguments a thing to do picks at the rest of a condition, by what was given before.
pub record Ways : Type 1 where
  pub decls : Decls
  pub function : Name
  pub closes : SymState → Pure → Deriv → Type 0
  pub is_false : SymState → Type 0
  pub picks : Todo → Gives → Rest → Choice → Type 0

-- `1 = 0`, which holds in a false state alone
abbrev pub one_is_zero : Pure
one_is_zero = Equal (Number 1) (Number 0)

module _ (w : Ways) where
  abbrev pub ClosesFact : Sequent → Deriv → Type 0
  ClosesFact q t = w.closes q.state q.goal t

  -- a child closes what it stands for: a fact by the ways for facts, a rest as is said of it
  abbrev pub ClosesTask : (Rest → Deriv → Type 0) → Task → Deriv → Type 0
  ClosesTask K (Proves q) t = ClosesFact q t
  ClosesTask K (Closes r) t = K r t

  -- a node of this rule with these arguments, whose children are closed
  pub record IsNode (K : Rest → Deriv → Type 0) (r : Rest) (k : Choice) (t : Deriv) : Type 0 where
    pub children : List Deriv
    pub is : t ≡ node k.0 k.1 children
    pub tasks : List Task
    pub accepted : rules w.decls w.function k.0 (Closes r) k.1 (length children) ≡ Ok tasks
    pub closed : AllOf (ClosesTask K) tasks children

  -- a thing is done: a hint `give` only gives; everything else makes a node of what it picks, whose rests are closed by what comes behind
  abbrev pub GoesBy : Option (Name × Arg) → Todo → (Gives → Rest → Deriv → Type 0) → Gives → Rest → Deriv → Type 0
  GoesBy (Some g) x K vs r t = K (given_in r.state vs g.0 g.1) r t
  GoesBy None x K vs r t = (k : Choice) × w.picks x vs r k × IsNode (K (gives_behind x r vs)) r k t

  abbrev pub Goes : Todo → (Gives → Rest → Deriv → Type 0) → Gives → Rest → Deriv → Type 0
  Goes x = GoesBy (given_by x) x

  -- a state that is plainly false is closed by never; in every other one the next thing is done
  abbrev pub NeverOr : Rest → Deriv → Type 0 → Type 0
  NeverOr r t go = (w.is_false r.state × IsNode (λ e u. ⊥) r (rule.Never, []) t) ⊎ ((w.is_false r.state → ⊥) × go)

  -- a tree closes the rest of a condition by the procedure, where these things are to be done and these names are given
  abbrev pub ClosesBy : List Todo → Gives → Rest → Deriv → Type 0
  ClosesBy [] vs r t = ⊥
  ClosesBy (x ∷ xs) vs r t = NeverOr r t (Goes x (ClosesBy xs) vs r t)
