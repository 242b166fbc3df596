-- Unknowns that hints `give` along a path: names with their values, in the order of the hints.
use Rattle.std.specs.Prelude.{List, [], ◌∷◌, ◌++◌, Option, Some, None}
use Rattle.bed_lang.specs.declared.word.Name.{Name}
use Rattle.bed_lang.specs.declared.logic.Arg.{Arg}
use Rattle.bed_lang.specs.declared.module.Action.{Action}
use Rattle.bed_lang.specs.declared.module.Hint.TheVariants as hint
use Rattle.bed_lang.specs.Instances.{Instance}
use Rattle.bed_forms.specs.Rewritten.{arg_by}
use Rattle.bed_deriv.specs.declared.state.SymState.{SymState}
use Rattle.bed_deriv.specs.declared.rest.Rest.{Rest}
use Rattle.bed_deriv.specs.Opening.{replacing, local_values, replaced_word, replaced_seq}
use Rattle.bed_search.specs.declared.ahead.Todo.{Todo}
use Rattle.bed_search.specs.declared.ahead.Todo.TheVariants.{Takes, Makes}

abbrev pub Gives : Type 0
Gives = List (Name × Arg)

-- how a hint is read in a state: locals give way to their terms
abbrev pub reading : SymState → Instance
reading s = replacing (local_values s.locals)

-- the value that a hint gives, read in the state at it, its terms written anew from their forms
abbrev pub given_value : SymState → Arg → Arg
given_value s a = arg_by (replaced_word (reading s)) (replaced_seq (reading s)) a

abbrev pub given_in : SymState → Gives → Name → Arg → Gives
given_in s vs v a = vs ++ (v, given_value s a) ∷ []

abbrev pub given_at : SymState → Option (Name × Arg) → Option (Name × Arg)
given_at s None = None
given_at s (Some g) = Some (g.0, given_value s g.1)

-- the name and the value of a hint `give`, which makes no step
abbrev pub given_by : Todo → Option (Name × Arg)
given_by (Takes (hint.Give v a)) = Some (v, a)
given_by _ = None

-- what is given behind a step: a call takes what was given before it
abbrev pub after_step : Gives → List Action → Gives
after_step vs [] = []
after_step vs (a ∷ more) = vs

abbrev pub gives_behind : Todo → Rest → Gives → Gives
gives_behind Makes r vs = after_step vs r.actions
gives_behind _ r vs = vs
