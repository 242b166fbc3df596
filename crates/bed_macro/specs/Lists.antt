-- What a list that was only appended to still holds.
use Rattle.std.specs.Prelude.{◌≡◌, List, ◌++◌}

-- a list begins with another
abbrev pub Begins : {A : Type 0} → List A → List A → Type 0
Begins {A} xs front = (more : List A) × (xs ≡ front ++ more)
