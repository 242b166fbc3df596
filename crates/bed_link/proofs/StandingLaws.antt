-- Where the functions and imports of linked modules stand.
use Rattle.std.proofs.Common.{◌≡◌, ◌∙◌, sym, ap, subst, refl, ℕ, zero, suc, ◌+◌, ◌<◌, ◌≤◌, arith, Bool, true, false, cond, ◌&&◌, ◌||◌, ◌⊎◌, inl, inr, nat_le, nat_lt, List, [], ◌∷◌, ◌++◌, map, length, bytes_eq, Contains}
use Rattle.std.proofs.lemmas.Bool.{ltb-false, leb-false}
use Rattle.std.proofs.lemmas.Slice.Eq.{bytes_eq-Decides}
use Rattle.bed_lang.specs.declared.word.Name.{Name}
use Rattle.bed_lang.specs.declared.module.Function.{Function}
use Rattle.bed_table.specs.Code.{function_piece}
use Rattle.bed_table.specs.Layout.{Defined, all_defined, Placed, placed_from, Label, address_of, function_label, import_label, is_among, code_length}
use Rattle.bed_link.specs.declared.error.LinkError.{LinkError}
use Rattle.bed_link.specs.declared.error.LinkError.TheVariants.{Twice}
use Rattle.bed_link.specs.Parts.{functions}
use Rattle.bed_link.specs.Faults.{each, each_after, fault_if}
use Rattle.bed_link.specs.Linkable.{is_one_of, repeated, function_names, module_names, exported_names, import_names, given_names, twice_faults, unresolved_faults, differs_faults, length_faults, address_fault, address_faults, is_too_long, before_faults, outside, lies_in}
use Rattle.bed_link.specs.Laws.{FunctionsStand, CodeFits, ImportsAreGiven, ImportsLieOutside}
use Rattle.bed_link.proofs.TableLemmas.{among_more}
use Rattle.bed_link.proofs.LayoutLemmas.{functions_are}
use Rattle.bed_link.proofs.OutsideLemmas.{left_none, right_none, names_twice, imports_given}

-- ---- names that aren't repeated

abbrev repeats : List Name → List Name → List LinkError
repeats = each_after (λ before x. fault_if (is_one_of before x) (Twice x))

or_left : (a b : Bool) → (a || b) ≡ false → a ≡ false
or_left true b e = e
or_left false b e = refl

or_right : (a b : Bool) → (a || b) ≡ false → b ≡ false
or_right true b e = cc
or_right false b e = e

or_true : (b : Bool) → (b || true) ≡ true
or_true true = refl
or_true false = refl

-- no name of a list without repetitions is among those before it
not_before : (before names : List Name) (x : List ℕ) → repeats before names ≡ [] → is_among names x ≡ true → is_among before x ≡ false
not_before before [] x none is = cc
not_before before (n ∷ ns) x none is =
    by_test (bytes_eq n.bytes x) refl (is_among before n.bytes) refl none is (λ h i. not_before (before ++ n ∷ []) ns x h i)
  where
    by_test : (b : Bool) → bytes_eq n.bytes x ≡ b → (g : Bool) → is_among before n.bytes ≡ g
        → fault_if g (Twice n) ++ repeats (before ++ n ∷ []) ns ≡ [] → (b || is_among ns x) ≡ true
        → (repeats (before ++ n ∷ []) ns ≡ [] → is_among ns x ≡ true → is_among (before ++ n ∷ []) x ≡ false)
        → is_among before x ≡ false
    by_test b eb true eg h i later = cc
    by_test true eb false eg h i later = ap (is_among before) (sym ((bytes_eq-Decides n.bytes x).0 eb)) ∙ eg
    by_test false eb false eg h i later = or_left (is_among before x) (bytes_eq n.bytes x) (sym (among_more before n x) ∙ later h i)

-- ---- functions

abbrev names_of : List Defined → List Name
names_of ds = map (λ (f : Function). f.name) (map (λ (d : Defined). d.function) ds)

-- a function stands at its label's address, and its name is among the names
stands : (at : ℕ) (ds : List Defined) (more : List Label) (before : List Name) (p : Placed) → repeats before (names_of ds) ≡ []
    → Contains (placed_from at ds) p
    → (address_of (map function_label (placed_from at ds) ++ more) p.defined.function.name.bytes ≡ p.address)
    × (is_among (names_of ds) p.defined.function.name.bytes ≡ true)
stands at [] more before p none (k, lt, e) = absurd (omega (arith, lt))
stands at (d ∷ ds) more before p none (zero, lt, e) =
    let x = d.function.name.bytes in
    let same : bytes_eq x x ≡ true = (bytes_eq-Decides x x).1 refl in
    let next : ℕ = at + (function_piece d.function).size in
    subst
    (λ (q : Placed). (address_of (map function_label (placed_from at (d ∷ ds)) ++ more) q.defined.function.name.bytes ≡ q.address)
    × (is_among (names_of (d ∷ ds)) q.defined.function.name.bytes ≡ true))
    e
    (ap (λ b. cond b at (address_of (map function_label (placed_from next ds) ++ more) x)) same, ap (λ b. b || is_among (names_of ds) x) same)
stands at (d ∷ ds) more before p none (suc k, lt, e) =
    let x = p.defined.function.name.bytes in
    let next : ℕ = at + (function_piece d.function).size in
    let rest : repeats (before ++ d.function.name ∷ []) (names_of ds) ≡ [] =
    right_none (fault_if (is_one_of before d.function.name) (Twice d.function.name)) (repeats (before ++ d.function.name ∷ []) (names_of ds)) none in
    let there = stands next ds more (before ++ d.function.name ∷ []) p rest (k, omega (arith, lt), e) in
    let other : bytes_eq d.function.name.bytes x ≡ false =
    or_right (is_among before x) (bytes_eq d.function.name.bytes x)
    (sym (among_more before d.function.name x) ∙ not_before (before ++ d.function.name ∷ []) (names_of ds) x rest there.1) in (
      ap (λ b. cond b at (address_of (map function_label (placed_from next ds) ++ more) x)) other ∙ there.0,
      ap (λ b. bytes_eq d.function.name.bytes x || b) there.1 ∙ or_true (bytes_eq d.function.name.bytes x),
    )

pub functions_stand : FunctionsStand
functions_stand modules given base linkable p is =
    let before : before_faults modules given base ≡ [] = left_none _ (address_faults base (code_length modules) (outside modules given)) linkable in
    let twice : twice_faults (module_names modules) (function_names modules) (given_names given) ≡ [] =
    left_none _ (unresolved_faults (exported_names modules) (import_names modules) (given_names given)
    ++ (differs_faults modules ++ length_faults base (code_length modules))) before in
    let once : repeated (function_names modules) ≡ [] = left_none _ _ (right_none (repeated (module_names modules)) _ twice) in
    let named : names_of (all_defined modules) ≡ function_names modules =
    ap (λ fs. map (λ (f : Function). f.name) fs) (functions_are modules) ∙ names_twice (functions modules) in
    (stands base (all_defined modules) (map import_label given) [] p (ap (repeats []) named ∙ once) is).0

-- ---- the length

no_fault : (b : Bool) (e : LinkError) → fault_if b e ≡ [] → b ≡ false
no_fault true e h = cc
no_fault false e h = refl

pub code_fits : CodeFits
code_fits modules given base linkable =
    let before : before_faults modules given base ≡ [] = left_none _ (address_faults base (code_length modules) (outside modules given)) linkable in
    let rest = right_none (twice_faults (module_names modules) (function_names modules) (given_names given)) _ before in
    let more = right_none (unresolved_faults (exported_names modules) (import_names modules) (given_names given)) _ rest in
    let none : length_faults base (code_length modules) ≡ [] = right_none (differs_faults modules) _ more in
    let short : is_too_long base (code_length modules) ≡ false = no_fault _ _ none in (
      ltb-false 1048576 (code_length modules) (or_left (nat_lt 1048576 (code_length modules)) _ short),
      ltb-false 4294967296 (base + code_length modules) (or_right (nat_lt 1048576 (code_length modules)) _ short),
    )

-- ---- outside imports

pub imports_are_given : ImportsAreGiven
imports_are_given modules given base linkable =
    imports_given modules given base (left_none _ (address_faults base (code_length modules) (outside modules given)) linkable)

each_none : (F : Name × ℕ → List LinkError) (is : List (Name × ℕ)) (i : Name × ℕ) → each F is ≡ [] → Contains is i → F i ≡ []
each_none F [] i none (k, lt, e) = absurd (omega (arith, lt))
each_none F (j ∷ is) i none (zero, lt, e) = subst (λ x. F x ≡ []) e (left_none (F j) (each F is) none)
each_none F (j ∷ is) i none (suc k, lt, e) = each_none F is i (right_none (F j) (each F is) none) (k, omega (arith, lt), e)

apart : (base length a : ℕ) (b c : Bool) → nat_le base a ≡ b → nat_lt a (base + length) ≡ c → (b && c) ≡ false → (a < base) ⊎ (base + length ≤ a)
apart base length a true true eb ec e = cc
apart base length a true false eb ec e = inr (ltb-false a (base + length) ec)
apart base length a false c eb ec e = inl (leb-false base a eb)

pub imports_lie_outside : ImportsLieOutside
imports_lie_outside modules given base linkable i is =
    let none = right_none (before_faults modules given base) _ linkable in
    let mine =
    each_none (address_fault base (code_length modules) (outside modules given)) (outside modules given) i none is in
    apart base (code_length modules) i.1 (nat_le base i.1) (nat_lt i.1 (base + code_length modules)) refl refl
    (or_left (lies_in base (code_length modules) i.1) _ (no_fault _ _ mine))
