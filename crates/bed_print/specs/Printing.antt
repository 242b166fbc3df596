-- What printing a module promises.
use Rattle.std.specs.Prelude.{◌≡◌, ℕ, IsTrue, List, ◌++◌, None}
use Rattle.bed_lang.specs.declared.module.Module.{Module}
use Rattle.bed_lang.specs.Same.{same_module}
use Rattle.bed_names.specs.Faults.{refusal}
use Rattle.bed_names.specs.Modules.{faults}
use Rattle.bed_names.specs.Resolved.{resolved}
use Rattle.bed_read.specs.Reading.{IsModule}

-- the text has this module, wherever its parts stand
abbrev pub IsTextOf : List ℕ → Module → Type 0
IsTextOf text m = (back : Module) × (IsModule text back × IsTrue (same_module back m))

-- what was appended to these bytes is a text of the module, if some text is
abbrev pub ReadsBack : Module → List ℕ → List ℕ → Type 0
ReadsBack m old new = (source : List ℕ) → IsModule source m → (text : List ℕ) × ((new ≡ old ++ text) × IsTextOf text m)

-- the text has a module that keeps the rules of names, and without bare arguments that is this module, wherever its parts stand
abbrev pub ScopesTo : List ℕ → Module → Type 0
ScopesTo text m = (back : Module) × IsModule text back × (refusal (faults back) ≡ None) × IsTrue (same_module (resolved back) m)

-- what was appended to these bytes scopes to the module, where the module is what scoping makes of one that some text has
abbrev pub ScopesBack : Module → List ℕ → List ℕ → Type 0
ScopesBack m old new =
    (source : List ℕ) (before : Module) → IsModule source before → refusal (faults before) ≡ None → m ≡ resolved before
    → (text : List ℕ) × ((new ≡ old ++ text) × ScopesTo text m)
