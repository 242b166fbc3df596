-- Modules that break no rule of names, from their texts to sound code.
use Rattle.std.specs.Prelude.{◌≡◌, ℕ, ◌<◌, None, List, map, Contains}
use Rattle.bed_lang.specs.declared.word.Name.{Name}
use Rattle.bed_lang.specs.declared.module.Module.{Module}
use Rattle.bed_names.specs.Faults.{refusal}
use Rattle.bed_names.specs.Modules.{faults}
use Rattle.bed_names.specs.Resolved.{resolved}
use Rattle.bed_sat.specs.Linking.{linked}
use Rattle.bed_sat.specs.Sound.{IsSoundFromAll}
use Rattle.bed_link.specs.Linkable.{IsLinkable}
use Rattle.bed_whole.specs.Programs.{AreValid}
use Rattle.bed_fitting.specs.Fitting.{AreNamed}

-- no module breaks a rule of names
abbrev pub AreScoped : List Module → Type 0
AreScoped modules = (m : Module) → Contains modules m → refusal (faults m) ≡ None

-- so with no bare argument left they keep to the rules of names that the linker's laws ask for
abbrev pub ScopedAreNamed : Type 0
ScopedAreNamed = (modules : List Module) → AreScoped modules → AreNamed (map resolved modules)

-- And where they can be linked, with words as addresses, and each of their conditions is valid under what its own module declares,
-- their code is sound, from all its functions. Nothing is asked of the modules beside what the program itself judges.
abbrev pub ScopedIsSound : Type 0
ScopedIsSound =
    (modules : List Module) (given : List (Name × ℕ)) (base : ℕ) → AreScoped modules → IsLinkable (map resolved modules) given base
    → ((g : Name × ℕ) → Contains given g → g.1 < 4294967296) → AreValid (map resolved modules)
    → IsSoundFromAll (linked (map resolved modules) base given)
