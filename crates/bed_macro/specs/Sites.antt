-- The function in which a macro stands.
use Rattle.std.specs.Prelude.{Option, Some, None, List, [], slice_get}
use Rattle.bed_lang.specs.declared.word.Name.{Name}
use Rattle.bed_lang.specs.declared.module.Signature.{Signature}
use Rattle.bed_lang.specs.declared.module.Function.{Function}
use Rattle.bed_lang.specs.declared.module.Module.{Module}
use Rattle.bed_table.specs.Code.{locals_of}
use Rattle.bed_sat.specs.Conditions as conditions
use Rattle.bed_macro.specs.declared.sites.Site.{Site}

-- the module, and the function, if it has one of this number
abbrev pub module_of : Site → Module
module_of s = s.scoped.now.«module»

abbrev pub function_of : Site → Option Function
function_of s = slice_get (module_of s).functions s.function

-- its locals, the arguments first; none where there is no function
abbrev pub locals_if : List Signature → Option Function → List Name
locals_if signatures None = []
locals_if signatures (Some f) = locals_of signatures f

abbrev pub locals_in : Site → List Name
locals_in s = locals_if (module_of s).signatures (function_of s)

-- its name; of no bytes where there is no function
abbrev pub name_if : Option Function → Name
name_if None = record { bytes = []; at = 0 }
name_if (Some f) = f.name

-- the place of conditions
abbrev pub site_in : Site → conditions.Site
site_in s = record { «module» = (module_of s).name; function = name_if (function_of s); locals = locals_in s }
