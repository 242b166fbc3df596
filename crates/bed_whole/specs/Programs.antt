-- Whole programs: modules that are linked, and why their code is sound.
use Rattle.std.specs.Prelude.{◌≡◌, ℕ, ◌+◌, ◌≤◌, false, IsTrue, Some, List, length, Contains}
use Rattle.bed_lang.specs.declared.word.Name.{Name}
use Rattle.bed_lang.specs.declared.module.Signature.{Signature}
use Rattle.bed_lang.specs.declared.module.Function.{Function}
use Rattle.bed_lang.specs.declared.module.Module.{Module}
use Rattle.bed_lang.specs.declared.condition.Decls.{Decls}
use Rattle.bed_lang.specs.declared.condition.Cond.{Cond}
use Rattle.bed_lang.specs.Declarations.{declarations, all_declarations}
use Rattle.bed_lang.specs.Lookups.{first_signature}
use Rattle.bed_table.specs.Code.{body_piece}
use Rattle.bed_table.specs.Layout.{code}
use Rattle.bed_sat.specs.Runs.{Outside}
use Rattle.bed_sat.specs.Written.{written}
use Rattle.bed_sat.specs.Conditions.{site_of, conditions}
use Rattle.bed_sat.specs.Valid.{LabelsFit, IsValid}
use Rattle.bed_sat.specs.Declarations.{Extends, IsConsistent, module_known}
use Rattle.bed_sat.specs.Linking.{linked}
use Rattle.bed_sat.specs.Sound.{world_of, IsOutsideOf, IsSoundFromAll}
use Rattle.bed_laws.specs.Activations.{FunctionSite}
use Rattle.bed_bodies.specs.Demands.{AreMet}
use Rattle.bed_bodies.specs.Bodies.{body_built}
use Rattle.bed_layout.specs.Bodies.{IsScoped}

-- where the code of a function of a module stands, under a signature
abbrev pub site_in : Module → Function → Signature → FunctionSite
site_in m f S = record { site = site_of m f; signature = S }

-- What the text of a function keeps to; the rules of names see to it. Its signature is declared; its locals differ and its frame has
-- room for them, and the signature speaks of its own names alone; what its body demands is met, whatever else is declared beside; and
-- control doesn't come to the body's end.
pub record IsRegular (m : Module) (f : Function) : Type 0 where
  pub signature : Signature
  pub declared : first_signature m.signatures f.signature.bytes ≡ Some signature
  pub scoped : IsScoped (site_in m f signature) f.locals
  pub met : (d : Decls) → Extends (declarations m) d → AreMet d (site_in m f signature) (body_built (written f.body)).demands
  pub stops : (body_piece f.body).falls ≡ false

-- Modules fit together, with addresses for their imports, at a base. Each function is regular, and a module names no predicate that it
-- doesn't declare: the rules of names see to both. Of several declarations of one name each is the same, the code ends at or below 2^32,
-- and beside every outside the code map has each label's signature at its address: the linker sees to these.
pub record AreFitting (modules : List Module) (base : ℕ) (imports : List (Name × ℕ)) : Type 0 where
  pub regular : (m : Module) → Contains modules m → (f : Function) → Contains m.functions f → IsRegular m f
  pub known : (m : Module) → Contains modules m → IsTrue (module_known m)
  pub consistent : IsConsistent (all_declarations modules)
  pub end : base + length (code modules base imports) ≤ 4294967296
  pub labels : (X : Outside) → IsOutsideOf (linked modules base imports) X → LabelsFit (world_of (linked modules base imports) X)

-- each condition of each module is valid under what the module declares
abbrev pub AreValid : List Module → Type 0
AreValid modules = (m : Module) → Contains modules m → (c : Cond) → Contains (conditions m) c → IsValid (declarations m) c

-- the code of modules that fit together and whose conditions are valid is sound, from all its functions
abbrev pub ValidIsSound : Type 0
ValidIsSound =
    (modules : List Module) (base : ℕ) (imports : List (Name × ℕ)) → AreFitting modules base imports → AreValid modules
    → IsSoundFromAll (linked modules base imports)
