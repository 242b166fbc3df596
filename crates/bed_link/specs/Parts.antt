-- What modules declare, each with the number of its module, from 0, in the order of modules and texts.
use Rattle.std.specs.Prelude.{ℕ, ◌+◌, Bool, List, [], ◌∷◌, ◌++◌, map, filter}
use Rattle.bed_lang.specs.declared.word.Name.{Name}
use Rattle.bed_lang.specs.declared.module.Signature.{Signature}
use Rattle.bed_lang.specs.declared.module.Predicate.{Predicate}
use Rattle.bed_lang.specs.declared.module.Import.{Import}
use Rattle.bed_lang.specs.declared.module.Function.{Function}
use Rattle.bed_lang.specs.declared.module.Module.{Module}

abbrev pub numbered : {T : Type 0} → ℕ → T → T × ℕ
numbered number t = (t, number)

abbrev pub parts_from : {T : Type 0} → (Module → List T) → ℕ → List Module → List (T × ℕ)
parts_from listed number [] = []
parts_from listed number (m ∷ ms) = map (numbered number) (listed m) ++ parts_from listed (number + 1) ms

abbrev pub parts : {T : Type 0} → (Module → List T) → List Module → List (T × ℕ)
parts listed modules = parts_from listed 0 modules

abbrev pub signatures : List Module → List (Signature × ℕ)
signatures = parts (λ m. m.signatures)

abbrev pub predicates : List Module → List (Predicate × ℕ)
predicates = parts (λ m. m.predicates)

abbrev pub imports : List Module → List (Import × ℕ)
imports = parts (λ m. m.imports)

-- in layout order
abbrev pub functions : List Module → List (Function × ℕ)
functions = parts (λ m. m.functions)

abbrev pub is_exported : Function × ℕ → Bool
is_exported f = f.0.exported

-- A name that a module uses under a signature's name: an exported function, or an import.
pub record Claim : Type 0 where
  pub name : Name
  pub signature : Name
  pub «module» : ℕ

abbrev pub function_claim : Function × ℕ → Claim
function_claim f = record { name = f.0.name; signature = f.0.signature; «module» = f.1 }

abbrev pub import_claim : Import × ℕ → Claim
import_claim i = record { name = i.0.name; signature = i.0.signature; «module» = i.1 }

abbrev pub exported_claims : List Module → List Claim
exported_claims modules = map function_claim (filter is_exported (functions modules))

-- the exported functions, and then the imports
abbrev pub claims : List Module → List Claim
claims modules = exported_claims modules ++ map import_claim (imports modules)
