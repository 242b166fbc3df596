-- The faults of a text, and which of several is the refusal.
use Rattle.std.specs.Prelude.{ℕ, Bool, ◌&&◌, ◌||◌, ◌==◌, nat_lt, if◌then◌else◌, List, [], ◌∷◌, ◌++◌, Option, None, Some}
use Rattle.bed_names.specs.declared.error.NameError.{NameError}
use Rattle.bed_names.specs.declared.error.NameError.TheVariants.{Twice, Unknown, Sort, Arity, Dead, MissingJoin, FallsOff, StackRoom, Memory}

-- the place of a fault, in bytes from the start of the text
abbrev pub place : NameError → ℕ
place (Twice at) = at
place (Unknown at) = at
place (Sort at) = at
place (Arity at) = at
place (Dead at) = at
place (MissingJoin at) = at
place (FallsOff at) = at
place (StackRoom at needs has) = at
place Memory = 0

-- the order of the rules, which decides at one place
abbrev pub rank : NameError → ℕ
rank (Twice at) = 0
rank (Unknown at) = 1
rank (Sort at) = 2
rank (Arity at) = 3
rank (Dead at) = 4
rank (MissingJoin at) = 5
rank (FallsOff at) = 6
rank (StackRoom at needs has) = 7
rank Memory = 8

-- a fault goes before another one: it has a lesser place, or the same place and an earlier rule
abbrev pub goes_before : NameError → NameError → Bool
goes_before a b = nat_lt (place a) (place b) || ((place a == place b) && nat_lt (rank a) (rank b))

-- the one of two that goes before the other; the first of them where neither does
abbrev pub earlier : Option NameError → NameError → Option NameError
earlier None b = Some b
earlier (Some a) b = if goes_before b a then Some b else Some a

-- what is left of a fault that was found and of more faults
abbrev pub noted : Option NameError → List NameError → Option NameError
noted found [] = found
noted found (f ∷ fs) = noted (earlier found f) fs

-- the refusal: of all faults the one before which none goes
abbrev pub refusal : List NameError → Option NameError
refusal faults = noted None faults

-- a fault where something is the case
abbrev pub fault_if : Bool → NameError → List NameError
fault_if b f = if b then (f ∷ []) else []

-- the faults of the items of a list
abbrev pub all_faults : {T : Type 0} → (T → List NameError) → List T → List NameError
all_faults faults [] = []
all_faults faults (x ∷ xs) = faults x ++ all_faults faults xs
