-- What linked modules keep: statements of laws.
use Rattle.std.specs.Prelude.{◌≡◌, ◌⊎◌, ℕ, ◌+◌, ◌≤◌, ◌<◌, List, Contains}
use Rattle.bed_lang.specs.declared.word.Name.{Name}
use Rattle.bed_lang.specs.declared.module.Module.{Module}
use Rattle.bed_table.specs.Layout.{Placed, placed, label_address, code_length}
use Rattle.bed_link.specs.Linkable.{IsLinkable, outside}
use Rattle.bed_link.specs.Resolved.{resolved}

-- the name of each function of linked modules has the address at which the function stands
abbrev pub FunctionsStand : Type 0
FunctionsStand =
    (modules : List Module) (given : List (Name × ℕ)) (base : ℕ) → IsLinkable modules given base
    → (p : Placed) → Contains (placed modules base) p → label_address modules base given p.defined.function.name.bytes ≡ p.address

-- their code has at most 1,048,576 bytes and ends at or below 2^32
abbrev pub CodeFits : Type 0
CodeFits =
    (modules : List Module) (given : List (Name × ℕ)) (base : ℕ) → IsLinkable modules given base
    → (code_length modules ≤ 1048576) × (base + code_length modules ≤ 4294967296)

-- the outside imports have the addresses that are given for them
abbrev pub ImportsAreGiven : Type 0
ImportsAreGiven =
    (modules : List Module) (given : List (Name × ℕ)) (base : ℕ) → IsLinkable modules given base
    → (resolved modules given base).imports ≡ outside modules given

-- none of which lies in the code
abbrev pub ImportsLieOutside : Type 0
ImportsLieOutside =
    (modules : List Module) (given : List (Name × ℕ)) (base : ℕ) → IsLinkable modules given base
    → (i : Name × ℕ) → Contains (outside modules given) i → (i.1 < base) ⊎ (base + code_length modules ≤ i.1)
