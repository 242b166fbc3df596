-- Lists of faults, the first of which is the refusal.
use Rattle.std.specs.Prelude.{ℕ, Bool, not, if◌then◌else◌, List, [], ◌∷◌, ◌++◌, Option, None, Some, find, bytes_eq}
use Rattle.bed_lang.specs.declared.word.Name.{Name}
use Rattle.bed_link.specs.declared.error.LinkError.{LinkError}
use Rattle.bed_link.specs.declared.error.LinkError.TheVariants.{Differs}

abbrev pub refusal : List LinkError → Option LinkError
refusal [] = None
refusal (e ∷ es) = Some e

-- a fault where something is the case
abbrev pub fault_if : Bool → LinkError → List LinkError
fault_if b e = if b then (e ∷ []) else []

-- the faults of the items of a list
abbrev pub each : {T : Type 0} → (T → List LinkError) → List T → List LinkError
each faults [] = []
each faults (x ∷ xs) = faults x ++ each faults xs

-- the same where an item is judged beside those before it
abbrev pub each_after : {T : Type 0} → (List T → T → List LinkError) → List T → List T → List LinkError
each_after faults before [] = []
each_after faults before (x ∷ xs) = faults before x ++ each_after faults (before ++ x ∷ []) xs

module _ {T : Type 0} (name_of : T → Name) (module_of : T → ℕ) (same : T → T → Bool) where
  -- an item that isn't the same as the first of its name
  abbrev pub differs_from : Option T → T → List LinkError
  differs_from None t = []
  differs_from (Some first) t = fault_if (not (same first t)) (Differs (name_of t) (module_of first) (module_of t))

  abbrev pub first_named : List T → T → Option T
  first_named items t = find (λ u. bytes_eq (name_of u).bytes (name_of t).bytes) items

  -- the items of a list that aren't the same as the first of their name
  abbrev pub differing : List T → List LinkError
  differing items = each_after (λ before t. differs_from (first_named before t) t) [] items
