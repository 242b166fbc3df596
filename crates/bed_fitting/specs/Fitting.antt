-- Modules that the linker accepts fit together.
use Rattle.std.specs.Prelude.{◌≡◌, ℕ, ◌<◌, false, IsTrue, List, Contains, bytes_eq}
use Rattle.bed_lang.specs.declared.word.Name.{Name}
use Rattle.bed_lang.specs.declared.module.Predicate.{Predicate}
use Rattle.bed_lang.specs.declared.module.Function.{Function}
use Rattle.bed_lang.specs.declared.module.Module.{Module}
use Rattle.bed_lang.specs.Declarations.{all_predicates}
use Rattle.bed_lang.specs.Prelude.{prelude}
use Rattle.bed_sat.specs.Declarations.{module_known}
use Rattle.bed_sat.specs.Linking.{linked}
use Rattle.bed_sat.specs.Sound.{IsSoundFromAll}
use Rattle.bed_link.specs.Linkable.{IsLinkable}
use Rattle.bed_whole.specs.Programs.{IsRegular, AreFitting, AreValid}

-- Modules keep to the rules of names: each function is regular, a module names no predicate that it doesn't declare, and none declares
-- a predicate by a name of the prelude's.
pub record AreNamed (modules : List Module) : Type 0 where
  pub regular : (m : Module) → Contains modules m → (f : Function) → Contains m.functions f → IsRegular m f
  pub known : (m : Module) → Contains modules m → IsTrue (module_known m)
  pub own : (p q : Predicate) → Contains prelude p → Contains (all_predicates modules) q → bytes_eq p.name.bytes q.name.bytes ≡ false

-- so they fit together where they can be linked, with words as addresses
abbrev pub LinkableFit : Type 0
LinkableFit =
    (modules : List Module) (given : List (Name × ℕ)) (base : ℕ) → AreNamed modules → IsLinkable modules given base
    → ((g : Name × ℕ) → Contains given g → g.1 < 4294967296) → AreFitting modules base given

-- and their code is sound, from all its functions, where their conditions are valid
abbrev pub LinkedIsSound : Type 0
LinkedIsSound =
    (modules : List Module) (given : List (Name × ℕ)) (base : ℕ) → AreNamed modules → IsLinkable modules given base
    → ((g : Name × ℕ) → Contains given g → g.1 < 4294967296) → AreValid modules → IsSoundFromAll (linked modules base given)
