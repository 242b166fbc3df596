-- A match that is made step by step.
use Rattle.std.specs.Prelude.{◌≡◌, ℕ, Bool, true, false, List, ◌++◌, Option, Some, None}
use Rattle.bed_lang.specs.declared.logic.Atom.{Atom}
use Rattle.bed_lang.specs.declared.logic.Pure.{Pure}
use Rattle.bed_lang.specs.declared.logic.Term.{Term}
use Rattle.bed_deriv.specs.Matches.{match_goals}

-- items before those of a list, if there is one
abbrev pub prefixed : {A : Type 0} → List A → Option (List A) → Option (List A)
prefixed xs None = None
prefixed xs (Some ys) = Some (xs ++ ys)

-- the goals so far, and those of further terms with the choices that are left, if there are any
abbrev pub continued : List Pure → List Term → Option (List (ℕ × Atom)) → Option (List Pure)
continued goals ts None = None
continued goals ts (Some cs) = prefixed goals (match_goals ts cs)

-- the list is longer by these items; or there are none
abbrev pub AppendedIf : {A : Type 0} → Bool → List A → List A → Option (List A) → Type 0
AppendedIf true old new r = prefixed old r ≡ Some new
AppendedIf false old new r = r ≡ None
