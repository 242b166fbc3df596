-- Laws of the definitions that the promises speak of.
use Rattle.std.specs.Prelude.{◌≡◌, ℕ, List, map}
use Rattle.bed_lang.specs.declared.word.Name.{Name}
use Rattle.bed_lang.specs.declared.module.Module.{Module}
use Rattle.bed_names.specs.Resolved.{resolved}
use Rattle.bed_table.specs.Image.{image}

-- the image of modules with their names resolved is that of the modules as they were read
abbrev pub ResolvedHaveTheImage : Type 0
ResolvedHaveTheImage =
    (modules : List Module) (base : ℕ) (imports : List (Name × ℕ)) → image (map resolved modules) base imports ≡ image modules base imports
