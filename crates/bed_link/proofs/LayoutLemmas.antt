-- The layout as the linker goes over it: by functions alone, in the order of modules and texts.
use Rattle.std.proofs.Common.{◌≡◌, ◌∙◌, sym, ap, ap₂, refl, ℕ, ◌+◌, ◌<◌, arith, Bool, true, false, cond, ◌&&◌, ◌||◌, List, [], ◌∷◌, ◌++◌, map, filter, length, drop, get_or, bytes_eq, append_assoc}
use Rattle.std.proofs.lemmas.List.{map-append}
use Rattle.bed_lang.specs.declared.word.Name.{Name}
use Rattle.bed_lang.specs.declared.module.Signature.{Signature}
use Rattle.bed_lang.specs.declared.module.Import.{Import}
use Rattle.bed_lang.specs.declared.module.Function.{Function}
use Rattle.bed_lang.specs.declared.module.Module.{Module}
use Rattle.bed_table.specs.Pieces.{Head}
use Rattle.bed_table.specs.Code.{function_piece}
use Rattle.bed_table.specs.Layout as layout
use Rattle.bed_table.specs.Layout.{Defined, define, all_defined, defined_in, Placed, placed_from, total_size, sum_of_sizes, code_length, imported, exports, is_among}
use Rattle.bed_names.specs.InScope.{InScope}
use Rattle.bed_link.specs.Parts.{numbered, parts_from, functions, imports, is_exported, function_claim}
use Rattle.bed_link.specs.Resolved.{function_entry, loop_entry}
use Rattle.bed_link.specs.Seen.{entries_from, loop_at, loops_from, module_of}
use Rattle.bed_link.proofs.FaultLemmas.{split}

-- ---- parts, module by module

pub parts_step : {T : Type 0} (listed : Module → List T) (modules : List InScope) (i : ℕ) (s : InScope) (m : Module) (before whole : List (T × ℕ))
    → i < length modules → s ≡ get_or modules i s → m ≡ module_of s
    → before ++ parts_from listed i (map module_of (drop i modules)) ≡ whole
    → (before ++ map (numbered i) (listed m)) ++ parts_from listed (i + 1) (map module_of (drop (i + 1) modules)) ≡ whole
parts_step listed modules i s m before whole lt is e h =
    append_assoc before (map (numbered i) (listed m)) _
    ∙ ap (λ m. before ++ (map (numbered i) (listed m) ++ parts_from listed (i + 1) (map module_of (drop (i + 1) modules)))) e
    ∙ ap (λ l. before ++ parts_from listed i (map module_of l)) (sym (split modules i s lt is))
    ∙ h

-- ---- functions

first : {T : Type 0} (n : ℕ) (ts : List T) → map (λ (p : T × ℕ). p.0) (map (numbered n) ts) ≡ ts
first n [] = refl
first n (t ∷ ts) = ap (λ l. t ∷ l) (first n ts)

defined_functions : (signatures : List Signature) (fs : List Function) → map (λ (d : Defined). d.function) (map (define signatures) fs) ≡ fs
defined_functions signatures [] = refl
defined_functions signatures (f ∷ fs) = ap (λ l. f ∷ l) (defined_functions signatures fs)

functions_from : (ms : List Module) (n : ℕ) → map (λ (d : Defined). d.function) (all_defined ms) ≡ map (λ (f : Function × ℕ). f.0) (parts_from (λ m. m.functions) n ms)
functions_from [] n = refl
functions_from (m ∷ ms) n =
    map-append (λ (d : Defined). d.function) (defined_in m) (all_defined ms)
    ∙ ap₂ (λ k l. k ++ l) (defined_functions m.signatures m.functions ∙ sym (first n m.functions)) (functions_from ms (n + 1))
    ∙ sym (map-append (λ (f : Function × ℕ). f.0) (map (numbered n) m.functions) (parts_from (λ m. m.functions) (n + 1) ms))

pub functions_are : (ms : List Module) → map (λ (d : Defined). d.function) (all_defined ms) ≡ map (λ (f : Function × ℕ). f.0) (functions ms)
functions_are ms = functions_from ms 0

pub total_is : (ds : List Defined) → total_size ds ≡ sum_of_sizes (map (λ (d : Defined). d.function) ds)
total_is [] = refl
total_is (d ∷ ds) = ap (λ n. (function_piece d.function).size + n) (total_is ds)

pub entries_are : (at : ℕ) (ds : List Defined) → map function_entry (placed_from at ds) ≡ entries_from at (map (λ (d : Defined). d.function) ds)
entries_are at [] = refl
entries_are at (d ∷ ds) =
    let here : Name × ℕ × Bool = (d.function.name, at, d.function.exported) in
    ap (λ l. here ∷ l) (entries_are (at + (function_piece d.function).size) ds)

heads_are : (number : ℕ) (hs : List Head)
    → map loop_entry (map (λ h. record { function = number; head = h }) hs) ≡ map (loop_at number) (map (λ h. h.address) hs)
heads_are number [] = refl
heads_are number (h ∷ hs) = ap (λ l. loop_at number h.address ∷ l) (heads_are number hs)

pub loops_are : (number at : ℕ) (ds : List Defined)
    → map loop_entry (layout.loops_from number (placed_from at ds)) ≡ loops_from number at (map (λ (d : Defined). d.function) ds)
loops_are number at [] = refl
loops_are number at (d ∷ ds) =
    let next : ℕ = at + (function_piece d.function).size in
    let one : 1 + number ≡ number + 1 = omega arith in
    map-append loop_entry (map (λ h. record { function = number; head = h }) ((function_piece d.function).heads at)) (layout.loops_from (1 + number) (placed_from next ds))
    ∙ ap₂ (λ k l. k ++ l) (heads_are number ((function_piece d.function).heads at))
    (loops_are (1 + number) next ds ∙ ap (λ n. loops_from n next (map (λ (d : Defined). d.function) ds)) one)

-- ---- imports

import_names_of : (n : ℕ) (is : List Import) → map (λ (i : Import × ℕ). i.0.name) (map (numbered n) is) ≡ map (λ (i : Import). i.name) is
import_names_of n [] = refl
import_names_of n (i ∷ is) = ap (λ l. i.name ∷ l) (import_names_of n is)

imported_from : (ms : List Module) (n : ℕ) → imported ms ≡ map (λ (i : Import × ℕ). i.0.name) (parts_from (λ m. m.imports) n ms)
imported_from [] n = refl
imported_from (m ∷ ms) n =
    ap₂ (λ k l. k ++ l) (sym (import_names_of n m.imports)) (imported_from ms (n + 1))
    ∙ sym (map-append (λ (i : Import × ℕ). i.0.name) (map (numbered n) m.imports) (parts_from (λ m. m.imports) (n + 1) ms))

pub imported_are : (ms : List Module) → imported ms ≡ map (λ (i : Import × ℕ). i.0.name) (imports ms)
imported_are ms = imported_from ms 0

-- ---- exported functions

module _ {A : Type 0} (g : A → Function × ℕ) where
  exported_step : (b : Bool) (p : A) (more : List A) (rest : List (Function × ℕ))
      → map (λ c. c.name) (map function_claim rest) ≡ map (λ p. (g p).0.name) more
      → map (λ c. c.name) (map function_claim (cond b (g p ∷ rest) rest)) ≡ map (λ p. (g p).0.name) (cond b (p ∷ more) more)
  exported_step true p more rest h = ap (λ l. (g p).0.name ∷ l) h
  exported_step false p more rest h = h

  pub exported_named : (ps : List A)
      → map (λ c. c.name) (map function_claim (filter is_exported (map g ps))) ≡ map (λ p. (g p).0.name) (filter (λ p. (g p).0.exported) ps)
  exported_named [] = refl
  exported_named (p ∷ ps) = exported_step (g p).0.exported p (filter (λ p. (g p).0.exported) ps) (filter is_exported (map g ps)) (exported_named ps)

exports_step : (b : Bool) (f : Function) (fs : List Function) (rest : Bool) (x : List ℕ)
    → rest ≡ is_among (map (λ f. f.name) fs) x
    → ((b && bytes_eq f.name.bytes x) || rest) ≡ is_among (map (λ f. f.name) (cond b (f ∷ fs) fs)) x
exports_step true f fs rest x h = ap (λ r. bytes_eq f.name.bytes x || r) h
exports_step false f fs rest x h = h

-- whether a function of a name is exported, by the names of the exported functions
pub exports_are : (ds : List Defined) (x : List ℕ)
    → exports ds x ≡ is_among (map (λ (f : Function). f.name) (filter (λ (f : Function). f.exported) (map (λ (d : Defined). d.function) ds))) x
exports_are [] x = refl
exports_are (d ∷ ds) x =
    exports_step d.function.exported d.function (filter (λ f. f.exported) (map (λ (d : Defined). d.function) ds)) (exports ds x) x (exports_are ds x)

module _ {A : Type 0} (g : A → Function) where
  names_step : (b : Bool) (p : A) (more : List A) (rest : List Function)
      → map (λ (f : Function). f.name) rest ≡ map (λ p. (g p).name) more
      → map (λ (f : Function). f.name) (cond b (g p ∷ rest) rest) ≡ map (λ p. (g p).name) (cond b (p ∷ more) more)
  names_step true p more rest h = ap (λ l. (g p).name ∷ l) h
  names_step false p more rest h = h

  pub exported_names_of : (ps : List A)
      → map (λ (f : Function). f.name) (filter (λ (f : Function). f.exported) (map g ps)) ≡ map (λ p. (g p).name) (filter (λ p. (g p).exported) ps)
  exported_names_of [] = refl
  exported_names_of (p ∷ ps) = names_step (g p).exported p (filter (λ p. (g p).exported) ps) (filter (λ f. f.exported) (map g ps)) (exported_names_of ps)
