-- What stands where in the code of modules, by the code table and the layout: the functions, loops and imports that the
-- soundness of an image speaks of. Nothing of this is read from an image.
use Rattle.std.specs.Prelude.{ℕ, List, [], ◌∷◌, ◌++◌, map, find, bytes_eq, Option, Some, None}
use Rattle.bed_lang.specs.declared.word.Name.{Name}
use Rattle.bed_lang.specs.declared.module.Signature.{Signature}
use Rattle.bed_lang.specs.declared.module.Import.{Import}
use Rattle.bed_lang.specs.declared.module.Module.{Module}
use Rattle.bed_table.specs.Pieces.{Head}
use Rattle.bed_table.specs.Layout.{Placed, placed, heads_at, label_address, outside_imports, code}
use Rattle.bed_lang.specs.Declarations.{all_signatures, all_imports, all_declarations}
use Rattle.bed_lang.specs.Lookups.{first_signature}
use Rattle.bed_sat.specs.Sound.{FunctionAt, LoopAt, ImportAt, Linked}

-- a function at its address with its signature, before others; nothing is said of one whose signature isn't declared
abbrev pub with_function : Option Signature → Placed → List FunctionAt → List FunctionAt
with_function None p rest = rest
with_function (Some S) p rest = record { address = p.address; signature = S; exported = p.defined.function.exported } ∷ rest

abbrev pub functions_at : List Signature → List Placed → List FunctionAt
functions_at signatures [] = []
functions_at signatures (p ∷ ps) =
    with_function (first_signature signatures p.defined.function.signature.bytes) p (functions_at signatures ps)

-- the loops of a function, in the order of the text
abbrev pub loop_at : Signature → List Name → Head → LoopAt
loop_at S locals h = record { address = h.address; signature = S; locals = locals; invariant = h.invariant }

abbrev pub with_loops : Option Signature → Placed → List LoopAt → List LoopAt
with_loops None p rest = rest
with_loops (Some S) p rest = map (loop_at S p.defined.locals) (heads_at p) ++ rest

abbrev pub loops_at : List Signature → List Placed → List LoopAt
loops_at signatures [] = []
loops_at signatures (p ∷ ps) =
    with_loops (first_signature signatures p.defined.function.signature.bytes) p (loops_at signatures ps)

-- the imports that no module exports: the address that is given for the name, and the signature of its first import
abbrev pub import_at : (List ℕ → ℕ) → Name → Option Import → List ImportAt → List ImportAt
import_at address name None rest = rest
import_at address name (Some i) rest = record { address = address name.bytes; signature = i.signature.bytes } ∷ rest

abbrev pub imports_at : (List ℕ → ℕ) → List Import → List Name → List ImportAt
imports_at address imports [] = []
imports_at address imports (n ∷ ns) =
    import_at address n (find (λ i. bytes_eq i.name.bytes n.bytes) imports) (imports_at address imports ns)

-- the code of modules at a base, with the addresses that are given for imports, and what stands where in it
abbrev pub linked : List Module → ℕ → List (Name × ℕ) → Linked
linked modules base imports = record {
  code = record { base = base; bytes = code modules base imports };
  functions = functions_at (all_signatures modules) (placed modules base);
  loops = loops_at (all_signatures modules) (placed modules base);
  imports = imports_at (label_address modules base imports) (all_imports modules) (outside_imports modules);
  decls = all_declarations modules;
  labels = label_address modules base imports;
}
