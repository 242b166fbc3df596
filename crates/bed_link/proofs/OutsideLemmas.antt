-- The imports that no module exports, and the addresses that are given for them.
use Rattle.std.proofs.Common.{◌≡◌, ◌∙◌, sym, ap, ap₂, refl, ℕ, ◌+◌, ◌<◌, Bool, true, false, cond, not, ◌||◌, if◌then◌else◌, List, [], ◌∷◌, ◌++◌, map, filter, length, drop, get_or, bytes_eq, Option, None, Some, is_some, Result, Ok, Err, IfOk, Bor}
use Rattle.std.specs.Prelude.{find}
use Rattle.std.specs.Bool.{OnTrue}
use Rattle.std.proofs.lemmas.List.{map-append}
use Rattle.std.proofs.lemmas.Slice.Eq.{bytes_eq-Decides}
use Rattle.bed_lang.specs.declared.word.Name.{Name}
use Rattle.bed_lang.specs.declared.module.Import.{Import}
use Rattle.bed_lang.specs.declared.module.Function.{Function}
use Rattle.bed_lang.specs.declared.module.Module.{Module}
use Rattle.bed_names.specs.Tables.{number_of, IsIndex, item_at}
use Rattle.bed_names.proofs.TableLaws.{item_at-position_of, bytes_eq_turned}
use Rattle.bed_table.specs.Code.{function_piece}
use Rattle.bed_table.specs.Layout.{Defined, all_defined, placed_from, Label, address_of, function_label, import_label, label_address, exports, is_among, outside_names, outside_imports, imported, code_length}
use Rattle.bed_link.specs.declared.error.LinkError.{LinkError}
use Rattle.bed_link.specs.declared.error.LinkError.TheVariants.{Twice, Unresolved}
use Rattle.bed_link.specs.Parts.{functions, is_exported, function_claim}
use Rattle.bed_link.specs.Faults.{fault_if}
use Rattle.bed_link.specs.Linkable.{is_one_of, with_given, given_twice, missing, unused, repeated, twice_faults, unresolved_faults, differs_faults, length_faults, before_faults, module_names, function_names, exported_names, import_names, given_names, outside}
use Rattle.bed_link.specs.Resolved.{resolved}
use Rattle.bed_link.specs.Seen.{Knows, address_or_none, outside_of}
use Rattle.bed_link.specs.declared.parts.Part.{Part}
use Rattle.bed_link.specs.declared.outside.Outside.{Outside}
use Rattle.bed_link.proofs.FaultLemmas.{each_same, split}
use Rattle.bed_link.proofs.LayoutLemmas.{functions_are, exports_are, exported_names_of, imported_are}

-- ---- parts of an empty list

pub left_none : (xs ys : List LinkError) → xs ++ ys ≡ [] → xs ≡ []
left_none [] ys e = refl
left_none (x ∷ xs) ys e = cc

pub right_none : (xs ys : List LinkError) → xs ++ ys ≡ [] → ys ≡ []
right_none [] ys e = e
right_none (x ∷ xs) ys e = cc

-- ---- names of functions

claims_step : (b : Bool) (f : Function × ℕ) (rest : List (Function × ℕ)) (fs : List Function)
    → map (λ c. c.name) (map function_claim rest) ≡ map (λ (f : Function). f.name) fs
    → map (λ c. c.name) (map function_claim (cond b (f ∷ rest) rest)) ≡ map (λ (f : Function). f.name) (cond b (f.0 ∷ fs) fs)
claims_step true f rest fs h = ap (λ l. f.0.name ∷ l) h
claims_step false f rest fs h = h

claims_named : (fs : List (Function × ℕ))
    → map (λ c. c.name) (map function_claim (filter is_exported fs)) ≡ map (λ (f : Function). f.name) (filter (λ (f : Function). f.exported) (map (λ (f : Function × ℕ). f.0) fs))
claims_named [] = refl
claims_named (f ∷ fs) = claims_step f.0.exported f (filter is_exported fs) (filter (λ f. f.exported) (map (λ f. f.0) fs)) (claims_named fs)

pub exports_by_names : (ms : List Module) (x : List ℕ) → exports (all_defined ms) x ≡ is_among (exported_names ms) x
exports_by_names ms x =
    exports_are (all_defined ms) x
    ∙ ap (λ fs. is_among (map (λ (f : Function). f.name) (filter (λ (f : Function). f.exported) fs)) x) (functions_are ms)
    ∙ ap (λ ns. is_among ns x) (sym (claims_named (functions ms)))

pub names_twice : (fs : List (Function × ℕ)) → map (λ (f : Function). f.name) (map (λ (f : Function × ℕ). f.0) fs) ≡ map (λ (f : Function × ℕ). f.0.name) fs
names_twice [] = refl
names_twice (f ∷ fs) = ap (λ l. f.0.name ∷ l) (names_twice fs)

-- ---- an import's address isn't that of a function

skip : (at : ℕ) (ds : List Defined) (more : List Label) (x : List ℕ) → is_among (map (λ (f : Function). f.name) (map (λ (d : Defined). d.function) ds)) x ≡ false
    → address_of (map function_label (placed_from at ds) ++ more) x ≡ address_of more x
skip at [] more x e = refl
skip at (d ∷ ds) more x e = by_test (bytes_eq d.function.name.bytes x) (λ f. skip (at + (function_piece d.function).size) ds more x f) e
  where
    by_test : (b : Bool)
        → (is_among (map (λ (f : Function). f.name) (map (λ (d : Defined). d.function) ds)) x ≡ false
        → address_of (map function_label (placed_from (at + (function_piece d.function).size) ds) ++ more) x ≡ address_of more x)
        → (b || is_among (map (λ (f : Function). f.name) (map (λ (d : Defined). d.function) ds)) x) ≡ false
        → cond b at (address_of (map function_label (placed_from (at + (function_piece d.function).size) ds) ++ more) x) ≡ address_of more x
    by_test true later e = cc
    by_test false later e = later e

no_function : (given fs : List Name) (x : List ℕ) → given_twice (is_one_of given) fs ≡ [] → is_among given x ≡ true → is_among fs x ≡ false
no_function given [] x none is = refl
no_function given (f ∷ fs) x none is =
    by_test (bytes_eq f.bytes x) refl (is_among given f.bytes) refl none (λ h. no_function given fs x h is)
  where
    by_test : (b : Bool) → bytes_eq f.bytes x ≡ b → (g : Bool) → is_among given f.bytes ≡ g
        → fault_if g (Twice f) ++ given_twice (is_one_of given) fs ≡ []
        → (given_twice (is_one_of given) fs ≡ [] → is_among fs x ≡ false) → (b || is_among fs x) ≡ false
    by_test b eb true eg h later = cc
    by_test false eb false eg h later = later h
    by_test true eb false eg h later =
        let same : f.bytes ≡ x = (bytes_eq-Decides f.bytes x).0 eb in
        let there : is_among given f.bytes ≡ true = ap (is_among given) same ∙ is in
        cc

-- ---- each outside import has a given address

abbrev pub AllGiven : List Name → List Name → Type 0
AllGiven given [] = Unit {0}
AllGiven given (n ∷ ns) = (is_among given n.bytes ≡ true) × AllGiven given ns

given_more : (given ns : List Name) (n : Name) → AllGiven given ns → is_among given n.bytes ≡ true → AllGiven given (ns ++ n ∷ [])
given_more given [] n all is = (is, tt)
given_more given (m ∷ ns) n all is = (all.0, given_more given ns n all.1 is)

all_given : (ds : List Defined) (given seen ns : List Name) → missing (λ n. exports ds n.bytes) (is_one_of given) ns ≡ []
    → AllGiven given seen → AllGiven given (outside_names ds seen ns)
all_given ds given seen [] none all = all
all_given ds given seen (n ∷ ns) none all =
    by_test (exports ds n.bytes) (is_among given n.bytes) refl (is_among seen n.bytes) none (λ s h a. all_given ds given s ns h a)
  where
    by_test : (e g : Bool) → is_among given n.bytes ≡ g → (s : Bool)
        → fault_if (not (e || g)) (Unresolved n) ++ missing (λ n. exports ds n.bytes) (is_one_of given) ns ≡ []
        → ((seen : List Name) → missing (λ n. exports ds n.bytes) (is_one_of given) ns ≡ [] → AllGiven given seen → AllGiven given (outside_names ds seen ns))
        → AllGiven given (outside_names ds (if e || s then seen else (seen ++ n ∷ [])) ns)
    by_test true g eg s h later = later seen h all
    by_test false true eg true h later = later seen h all
    by_test false true eg false h later = later (seen ++ n ∷ []) h (given_more given seen n all eg)
    by_test false false eg s h later = cc

abbrev addressed : (Name → ℕ) → Name → Name × ℕ
addressed f x = (x, f x)

map_given : (given ns : List Name) (f g : Name → ℕ) → ((n : Name) → is_among given n.bytes ≡ true → f n ≡ g n) → AllGiven given ns
    → map (addressed f) ns ≡ map (addressed g) ns
map_given given [] f g same all = refl
map_given given (n ∷ ns) f g same all =
    ap (λ a. addressed (λ m. a) n ∷ map (addressed f) ns) (same n all.0) ∙ ap (λ l. addressed g n ∷ l) (map_given given ns f g same all.1)

-- where no rule before the last is broken, the outside imports have the addresses that are given for them
module _ (ms : List Module) (given : List (Name × ℕ)) (base : ℕ) (none : before_faults ms given base ≡ []) where
  abbrev twice : List LinkError
  twice = twice_faults (module_names ms) (function_names ms) (given_names given)

  abbrev lost : List LinkError
  lost = unresolved_faults (exported_names ms) (import_names ms) (given_names given)

  abbrev rest : List LinkError
  rest = differs_faults ms ++ length_faults base (code_length ms)

  not_twice : given_twice (is_one_of (given_names given)) (function_names ms) ≡ []
  not_twice =
      let twice_none : twice ≡ [] = left_none twice (lost ++ rest) none in
      right_none (repeated (given_names given)) _
      (right_none (repeated (function_names ms)) _ (right_none (repeated (module_names ms)) _ twice_none))

  not_missing : missing (λ n. exports (all_defined ms) n.bytes) (is_one_of (given_names given)) (imported ms) ≡ []
  not_missing =
      let lost_none : lost ≡ [] = left_none lost rest (right_none twice (lost ++ rest) none) in
      ap (missing (λ n. exports (all_defined ms) n.bytes) (is_one_of (given_names given))) (imported_are ms)
      ∙ each_same (λ x. fault_if (not (exports (all_defined ms) x.bytes || is_one_of (given_names given) x)) (Unresolved x))
      (λ x. fault_if (not (is_one_of (exported_names ms) x || is_one_of (given_names given) x)) (Unresolved x)) (import_names ms)
      (λ x. ap (λ b. fault_if (not (b || is_one_of (given_names given) x)) (Unresolved x)) (exports_by_names ms x.bytes))
      ∙ left_none _ (unused (is_one_of (import_names ms)) (given_names given)) lost_none

  pub label_given : (x : List ℕ) → is_among (given_names given) x ≡ true
      → label_address ms base given x ≡ address_of (map import_label given) x
  label_given x is =
      skip base (all_defined ms) (map import_label given) x
      (ap (λ fs. is_among (map (λ (f : Function). f.name) fs) x) (functions_are ms)
      ∙ ap (λ ns. is_among ns x) (names_twice (functions ms))
      ∙ no_function (given_names given) (function_names ms) x not_twice is)

  pub imports_given : (resolved ms given base).imports ≡ outside ms given
  imports_given =
      map_given (given_names given) (outside_imports ms) (λ x. label_address ms base given x.bytes) (λ x. address_of (map import_label given) x.bytes)
      (λ x is. label_given x.bytes is) (all_given (all_defined ms) (given_names given) [] (imported ms) not_missing tt)

-- ---- the address that is given for a name

address_step : (b : Bool) (g : Name × ℕ) (o : Option (Name × ℕ)) (rest : ℕ) → address_or_none o ≡ rest → address_or_none (cond b (Some g) o) ≡ cond b g.1 rest
address_step true g o rest h = refl
address_step false g o rest h = h

address_found : (given : List (Name × ℕ)) (x : List ℕ) → address_or_none (find (λ g. bytes_eq g.0.bytes x) given) ≡ address_of (map import_label given) x
address_found [] x = refl
address_found (g ∷ given) x =
    address_step (bytes_eq g.0.bytes x) g (find (λ g. bytes_eq g.0.bytes x) given) (address_of (map import_label given) x) (address_found given x)

pub address_by_table : (table : List (List ℕ × ℕ)) (given : List (Name × ℕ)) (x : List ℕ) → IsIndex table (map (λ g. g.0) given)
    → address_or_none (item_at given (number_of table x)) ≡ address_of (map import_label given) x
address_by_table table given x is = ap address_or_none (ap (item_at given) (is x) ∙ item_at-position_of (λ g. g.0) given x) ∙ address_found given x

-- ---- a name more

known_one : (b : Bool) (n : ℕ) → is_some (cond b (Some n) None) ≡ b
known_one true n = refl
known_one false n = refl

known_more : (b c : Bool) (n : ℕ) (p q : Option ℕ) → is_some p ≡ (is_some q || c) → is_some (cond b (Some n) p) ≡ (is_some (cond b (Some n) q) || c)
known_more true c n p q e = refl
known_more false c n p q e = e

known_push : (t : List (List ℕ × ℕ)) (x : List ℕ) (n : ℕ) (name : List ℕ) → is_some (number_of (t ++ (x, n) ∷ []) name) ≡ (is_some (number_of t name) || bytes_eq name x)
known_push [] x n name = known_one (bytes_eq name x) n
known_push (e ∷ t) x n name = known_more (bytes_eq name e.0) (bytes_eq name x) e.1 (number_of (t ++ (x, n) ∷ []) name) (number_of t name) (known_push t x n name)

among_one : (b : Bool) → (b || false) ≡ b
among_one true = refl
among_one false = refl

among_more : (a b c : Bool) → (a || (b || c)) ≡ ((a || b) || c)
among_more true b c = refl
among_more false b c = refl

among_push : (ns : List Name) (x : Name) (name : List ℕ) → is_among (ns ++ x ∷ []) name ≡ (is_among ns name || bytes_eq x.bytes name)
among_push [] x name = among_one (bytes_eq x.bytes name)
among_push (y ∷ ns) x name = ap (λ b. bytes_eq y.bytes name || b) (among_push ns x name) ∙ among_more (bytes_eq y.bytes name) (is_among ns name) (bytes_eq x.bytes name)

-- a table and a list that get the same new name
pub knows_new : (table next : List (List ℕ × ℕ)) (outs news : List (Bor Name)) (x : Bor Name) (bytes : List ℕ) (new : Bool) → bytes ≡ x.now.bytes
    → Knows table (map (λ (n : Bor Name). n.now) outs) → new ≡ true → OnTrue new (next ≡ table ++ (bytes, 0) ∷ []) → news ≡ outs ++ x ∷ []
    → Knows next (map (λ (n : Bor Name). n.now) news)
knows_new table next outs news x bytes false e knows is added pushed = absurd (cc)
knows_new table next outs news x bytes true e knows is added pushed = λ name.
    ap (λ t. is_some (number_of t name)) added ∙ known_push table bytes 0 name
    ∙ ap₂ (λ a b. a || b) (knows name) (ap (bytes_eq name) e ∙ bytes_eq_turned name x.now.bytes)
    ∙ sym (among_push (map (λ (n : Bor Name). n.now) outs) x.now name)
    ∙ ap (λ ns. is_among ns name) (sym (ap (map (λ (n : Bor Name). n.now)) pushed ∙ map-append (λ (n : Bor Name). n.now) outs (x ∷ [])))

-- ---- one more import, where the loop goes over them

pub outside_step : (ds : List Defined) (exported table : List (List ℕ × ℕ)) (seen next : List Name) (is : List (Part Import)) (i : ℕ) (p : Part Import) (whole : List Name)
    → i < length is → p ≡ get_or is i p → ((x : List ℕ) → is_some (number_of exported x) ≡ exports ds x) → Knows table seen
    → next ≡ cond (is_some (number_of exported p.item.now.name.bytes) || is_some (number_of table p.item.now.name.bytes)) seen (seen ++ p.item.now.name ∷ [])
    → outside_names ds seen (map (λ (p : Part Import). p.item.now.name) (drop i is)) ≡ whole
    → outside_names ds next (map (λ (p : Part Import). p.item.now.name) (drop (i + 1) is)) ≡ whole
outside_step ds exported table seen next is i p whole lt at ke ks en h =
    let x : Name = p.item.now.name in
    ap (λ l. outside_names ds l (map (λ (p : Part Import). p.item.now.name) (drop (i + 1) is)))
    (en ∙ ap₂ (λ a b. cond (a || b) seen (seen ++ x ∷ [])) (ke x.bytes) (ks x.bytes))
    ∙ ap (λ l. outside_names ds seen (map (λ (p : Part Import). p.item.now.name) l)) (sym (split is i p lt at)) ∙ h

-- ---- names with their addresses

given_mapped : (given : List (Name × ℕ)) (ns : List (Bor Name)) → map (λ (n : Bor Name). with_given given n.now) ns ≡ map (with_given given) (map (λ (n : Bor Name). n.now) ns)
given_mapped given [] = refl
given_mapped given (n ∷ ns) = ap (λ l. with_given given n.now ∷ l) (given_mapped given ns)

pub outside_if_ok : {V E : Type 0} (items_of : V → List Outside) (r : Result V E) (exported : List (List ℕ × ℕ)) (fs : List (Part Function))
    (is : List Name) (given : List (Name × ℕ)) (ns : List (Bor Name))
    → Knows exported (map (λ (p : Part Function). p.item.now.name) (filter (λ (p : Part Function). p.item.now.exported) fs))
    → ((ds : List Defined) → ((x : List ℕ) → is_some (number_of exported x) ≡ exports ds x) → map (λ (n : Bor Name). n.now) ns ≡ outside_names ds [] is)
    → IfOk r (λ v. map outside_of (items_of v) ≡ map (λ (n : Bor Name). with_given given n.now) ns)
    → IfOk r (λ v. (ds : List Defined) → map (λ (d : Defined). d.function) ds ≡ map (λ (p : Part Function). p.item.now) fs
    → map outside_of (items_of v) ≡ map (with_given given) (outside_names ds [] is))
outside_if_ok items_of (Ok v) exported fs is given ns ke en h = λ ds e.
    let same : (x : List ℕ) → is_some (number_of exported x) ≡ exports ds x =
    λ x.
    ke x ∙ ap (λ l. is_among l x) (sym (exported_names_of (λ (p : Part Function). p.item.now) fs))
    ∙ ap (λ l. is_among (map (λ (f : Function). f.name) (filter (λ (f : Function). f.exported) l)) x) (sym e) ∙ sym (exports_are ds x) in
    h ∙ given_mapped given ns ∙ ap (map (with_given given)) (en ds same)
outside_if_ok items_of (Err x) exported fs is given ns ke en h = tt
