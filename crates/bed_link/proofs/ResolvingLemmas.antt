-- From the lists that the code goes over to the definitions of linking.
use Rattle.std.proofs.Common.{◌≡◌, ◌∙◌, sym, ap, ap₂, refl, ℕ, not, ◌||◌, List, [], ◌∷◌, ◌++◌, map, filter, Some}
use Rattle.bed_lang.specs.declared.word.Name.{Name}
use Rattle.bed_lang.specs.declared.module.Import.{Import}
use Rattle.bed_lang.specs.declared.module.Function.{Function}
use Rattle.bed_lang.specs.declared.module.Module.{Module}
use Rattle.bed_names.specs.InScope.{InScope}
use Rattle.bed_names.specs.Tables.{IsIndex}
use Rattle.bed_table.specs.Layout.{Defined, all_defined, sum_of_sizes, code_length, outside_names}
use Rattle.bed_link.specs.declared.error.LinkError.{LinkError}
use Rattle.bed_link.specs.declared.error.LinkError.TheVariants.{Twice, Unresolved}
use Rattle.bed_link.specs.declared.parts.Part.{Part}
use Rattle.bed_link.specs.declared.linked.Linked.{Linked}
use Rattle.bed_link.specs.Parts.{functions, imports, is_exported, function_claim}
use Rattle.bed_link.specs.Faults.{refusal, fault_if}
use Rattle.bed_link.specs.Linkable.{is_one_of, repeated, given_twice, missing, unused, module_names, function_names, exported_names, import_names, given_names, twice_faults, unresolved_faults, differs_faults, length_faults, address_faults, before_faults, faults, outside, with_given}
use Rattle.bed_link.specs.Resolved.{resolved}
use Rattle.bed_link.specs.Seen.{Knows, knows, module_of, pair_of, entries_from, loops_from}
use Rattle.bed_link.proofs.FaultLemmas.{append_none, refusal_first, refusal_later, each_same}
use Rattle.bed_link.proofs.TableLemmas.{knows_index}
use Rattle.bed_link.proofs.LayoutLemmas.{functions_are, total_is, entries_are, loops_are, imported_are, exported_named}
use Rattle.bed_link.proofs.OutsideLemmas.{imports_given}

-- ---- tables in place of lists

pub missing_is : (te tg : List (List ℕ × ℕ)) (es gs is : List Name) → Knows te es → Knows tg gs
    → missing (knows te) (knows tg) is ≡ missing (is_one_of es) (is_one_of gs) is
missing_is te tg es gs is ke kg =
    each_same (λ x. fault_if (not (knows te x || knows tg x)) (Unresolved x)) (λ x. fault_if (not (is_one_of es x || is_one_of gs x)) (Unresolved x)) is
    (λ x. ap₂ (λ a b. fault_if (not (a || b)) (Unresolved x)) (ke x.bytes) (kg x.bytes))

pub unused_is : (ti : List (List ℕ × ℕ)) (is gs : List Name) → Knows ti is → unused (knows ti) gs ≡ unused (is_one_of is) gs
unused_is ti is gs ki =
    each_same (λ x. fault_if (not (knows ti x)) (Unresolved x)) (λ x. fault_if (not (is_one_of is x)) (Unresolved x)) gs
    (λ x. ap (λ a. fault_if (not a) (Unresolved x)) (ki x.bytes))

module _ (fs : List (Part Function)) (is : List (Part Import)) (given : List (Name × ℕ)) (te tg : List (List ℕ × ℕ)) where
  abbrev es : List Name
  es = map (λ (p : Part Function). p.item.now.name) (filter (λ (p : Part Function). p.item.now.exported) fs)

  abbrev ns : List Name
  ns = map (λ (p : Part Import). p.item.now.name) is

  abbrev gs : List Name
  gs = map (λ (g : Name × ℕ). g.0) given

  module _ (ke : Knows te es) (kg : IsIndex tg gs) where
    found_is : missing (knows te) (knows tg) ns ≡ missing (is_one_of es) (is_one_of gs) ns
    found_is = missing_is te tg es gs ns ke (knows_index tg gs kg)

    pub found_refused : (e : LinkError) → refusal (missing (knows te) (knows tg) ns) ≡ Some e → refusal (unresolved_faults es ns gs) ≡ Some e
    found_refused e h = refusal_first (missing (is_one_of es) (is_one_of gs) ns) (unused (is_one_of ns) gs) e (ap refusal (sym found_is) ∙ h)

    module _ (ti : List (List ℕ × ℕ)) (ki : IsIndex ti ns) (none : missing (knows te) (knows tg) ns ≡ []) where
      pub used_refused : (e : LinkError) → refusal (unused (knows ti) gs) ≡ Some e → refusal (unresolved_faults es ns gs) ≡ Some e
      used_refused e h =
          refusal_later (missing (is_one_of es) (is_one_of gs) ns) (unused (is_one_of ns) gs) e (sym found_is ∙ none)
          (ap refusal (sym (unused_is ti ns gs (knows_index ti ns ki))) ∙ h)

      pub used_accepted : unused (knows ti) gs ≡ [] → unresolved_faults es ns gs ≡ []
      used_accepted h =
          append_none (missing (is_one_of es) (is_one_of gs) ns) (unused (is_one_of ns) gs) (sym found_is ∙ none)
          (sym (unused_is ti ns gs (knows_index ti ns ki)) ∙ h)

-- ---- names that are given and a function's

pub given_is : (tg : List (List ℕ × ℕ)) (gs ns : List Name) → IsIndex tg gs → given_twice (knows tg) ns ≡ given_twice (is_one_of gs) ns
given_is tg gs ns kg =
    each_same (λ x. fault_if (knows tg x) (Twice x)) (λ x. fault_if (is_one_of gs x) (Twice x)) ns
    (λ x. ap (λ a. fault_if a (Twice x)) (knows_index tg gs kg x.bytes))

module _ (ms fs gs : List Name) (tg : List (List ℕ × ℕ)) (once : repeated ms ≡ []) where
  pub second_refused : (e : LinkError) → refusal (repeated fs) ≡ Some e → refusal (twice_faults ms fs gs) ≡ Some e
  second_refused e h =
      refusal_later (repeated ms) (repeated fs ++ (repeated gs ++ given_twice (is_one_of gs) fs)) e once
      (refusal_first (repeated fs) (repeated gs ++ given_twice (is_one_of gs) fs) e h)

  module _ (alone : repeated fs ≡ []) (apart : repeated gs ≡ []) (kg : IsIndex tg gs) where
    pub given_refused : (e : LinkError) → refusal (given_twice (knows tg) fs) ≡ Some e → refusal (twice_faults ms fs gs) ≡ Some e
    given_refused e h =
        refusal_later (repeated ms) (repeated fs ++ (repeated gs ++ given_twice (is_one_of gs) fs)) e once
        (refusal_later (repeated fs) (repeated gs ++ given_twice (is_one_of gs) fs) e alone
        (refusal_later (repeated gs) (given_twice (is_one_of gs) fs) e apart (ap refusal (sym (given_is tg gs fs kg)) ∙ h)))

    pub given_accepted : given_twice (knows tg) fs ≡ [] → twice_faults ms fs gs ≡ []
    given_accepted h =
        append_none (repeated ms) (repeated fs ++ (repeated gs ++ given_twice (is_one_of gs) fs)) once
        (append_none (repeated fs) (repeated gs ++ given_twice (is_one_of gs) fs) alone
        (append_none (repeated gs) (given_twice (is_one_of gs) fs) apart (sym (given_is tg gs fs kg) ∙ h)))

-- ---- names and lengths of what was listed

module_names_are : (modules : List InScope) → map (λ (s : InScope). s.«module».name) modules ≡ module_names (map module_of modules)
module_names_are [] = refl
module_names_are (s ∷ modules) = ap (λ l. s.«module».name ∷ l) (module_names_are modules)

names_paired : (fs : List (Part Function)) → map (λ (p : Part Function). p.item.now.name) fs ≡ map (λ (f : Function × ℕ). f.0.name) (map pair_of fs)
names_paired [] = refl
names_paired (p ∷ fs) = ap (λ l. p.item.now.name ∷ l) (names_paired fs)

imports_paired : (is : List (Part Import)) → map (λ (p : Part Import). p.item.now.name) is ≡ map (λ (i : Import × ℕ). i.0.name) (map pair_of is)
imports_paired [] = refl
imports_paired (p ∷ is) = ap (λ l. p.item.now.name ∷ l) (imports_paired is)

items_paired : (fs : List (Part Function)) → map (λ (p : Part Function). p.item.now) fs ≡ map (λ (f : Function × ℕ). f.0) (map pair_of fs)
items_paired [] = refl
items_paired (p ∷ fs) = ap (λ l. p.item.now ∷ l) (items_paired fs)

module _ (modules : List InScope) (fs : List (Part Function)) (is : List (Part Import)) (given : List (Name × ℕ)) (base : ℕ)
    (ef : map pair_of fs ≡ functions (map module_of modules)) (ei : map pair_of is ≡ imports (map module_of modules)) where
  abbrev ms : List Module
  ms = map module_of modules

  abbrev items : List Function
  items = map (λ (p : Part Function). p.item.now) fs

  abbrev seen_modules : List Name
  seen_modules = map (λ (s : InScope). s.«module».name) modules

  abbrev seen_functions : List Name
  seen_functions = map (λ (p : Part Function). p.item.now.name) fs

  abbrev seen_exported : List Name
  seen_exported = map (λ (p : Part Function). p.item.now.name) (filter (λ (p : Part Function). p.item.now.exported) fs)

  abbrev seen_imports : List Name
  seen_imports = map (λ (p : Part Import). p.item.now.name) is

  functions_seen : seen_functions ≡ function_names ms
  functions_seen = names_paired fs ∙ ap (λ l. map (λ (f : Function × ℕ). f.0.name) l) ef

  imports_seen : seen_imports ≡ import_names ms
  imports_seen = imports_paired is ∙ ap (λ l. map (λ (i : Import × ℕ). i.0.name) l) ei

  exported_seen : seen_exported ≡ exported_names ms
  exported_seen = sym (exported_named pair_of fs) ∙ ap (λ l. map (λ c. c.name) (map function_claim (filter is_exported l))) ef

  pub defined_seen : map (λ (d : Defined). d.function) (all_defined ms) ≡ items
  defined_seen = functions_are ms ∙ ap (λ l. map (λ (f : Function × ℕ). f.0) l) (sym ef) ∙ sym (items_paired fs)

  pub length_seen : sum_of_sizes items ≡ code_length ms
  length_seen = ap sum_of_sizes (sym defined_seen) ∙ sym (total_is (all_defined ms))

  twice_seen : twice_faults seen_modules seen_functions (given_names given) ≡ twice_faults (module_names ms) (function_names ms) (given_names given)
  twice_seen = ap₂ (λ a b. twice_faults a b (given_names given)) (module_names_are modules) functions_seen

  unresolved_seen : unresolved_faults seen_exported seen_imports (given_names given)
      ≡ unresolved_faults (exported_names ms) (import_names ms) (given_names given)
  unresolved_seen = ap₂ (λ a b. unresolved_faults a b (given_names given)) exported_seen imports_seen

  abbrev after_twice : List LinkError
  after_twice = unresolved_faults (exported_names ms) (import_names ms) (given_names given) ++ (differs_faults ms ++ length_faults base (code_length ms))

  pub judged_twice : (e : LinkError) → refusal (twice_faults seen_modules seen_functions (given_names given)) ≡ Some e → refusal (before_faults ms given base) ≡ Some e
  judged_twice e h = refusal_first (twice_faults (module_names ms) (function_names ms) (given_names given)) after_twice e (ap refusal (sym twice_seen) ∙ h)

  module _ (no_twice : twice_faults seen_modules seen_functions (given_names given) ≡ []) where
    after_judged : (e : LinkError) → refusal after_twice ≡ Some e → refusal (before_faults ms given base) ≡ Some e
    after_judged e h = refusal_later (twice_faults (module_names ms) (function_names ms) (given_names given)) after_twice e (sym twice_seen ∙ no_twice) h

    pub judged_unresolved : (e : LinkError) → refusal (unresolved_faults seen_exported seen_imports (given_names given)) ≡ Some e
        → refusal (before_faults ms given base) ≡ Some e
    judged_unresolved e h =
        after_judged e (refusal_first (unresolved_faults (exported_names ms) (import_names ms) (given_names given)) (differs_faults ms ++ length_faults base (code_length ms)) e
        (ap refusal (sym unresolved_seen) ∙ h))

    module _ (no_lost : unresolved_faults seen_exported seen_imports (given_names given) ≡ []) where
      after_resolved : (e : LinkError) → refusal (differs_faults ms ++ length_faults base (code_length ms)) ≡ Some e → refusal (before_faults ms given base) ≡ Some e
      after_resolved e h =
          after_judged e (refusal_later (unresolved_faults (exported_names ms) (import_names ms) (given_names given)) (differs_faults ms ++ length_faults base (code_length ms)) e
          (sym unresolved_seen ∙ no_lost) h)

      pub judged_differs : (e : LinkError) → refusal (differs_faults ms) ≡ Some e → refusal (before_faults ms given base) ≡ Some e
      judged_differs e h = after_resolved e (refusal_first (differs_faults ms) (length_faults base (code_length ms)) e h)

      pub judged_long : (e : LinkError) → differs_faults ms ≡ [] → refusal (length_faults base (sum_of_sizes items)) ≡ Some e
          → refusal (before_faults ms given base) ≡ Some e
      judged_long e none h =
          after_resolved e (refusal_later (differs_faults ms) (length_faults base (code_length ms)) e none
          (ap (λ n. refusal (length_faults base n)) (sym length_seen) ∙ h))

      pub judged_none : differs_faults ms ≡ [] → length_faults base (sum_of_sizes items) ≡ [] → before_faults ms given base ≡ []
      judged_none none short =
          append_none (twice_faults (module_names ms) (function_names ms) (given_names given)) after_twice (sym twice_seen ∙ no_twice)
          (append_none (unresolved_faults (exported_names ms) (import_names ms) (given_names given)) (differs_faults ms ++ length_faults base (code_length ms))
          (sym unresolved_seen ∙ no_lost)
          (append_none (differs_faults ms) (length_faults base (code_length ms)) none (ap (length_faults base) (sym length_seen) ∙ short)))

  -- ---- outside imports, and the layout

  pub outside_seen : map (with_given given) (outside_names (all_defined ms) [] seen_imports) ≡ outside ms given
  outside_seen = ap (λ l. map (with_given given) (outside_names (all_defined ms) [] l)) (imports_seen ∙ sym (imported_are ms))

  pub placed_refused : (e : LinkError) (os : List (Name × ℕ)) (n : ℕ) → before_faults ms given base ≡ [] → n ≡ code_length ms → os ≡ outside ms given
      → refusal (address_faults base n os) ≡ Some e → refusal (faults ms given base) ≡ Some e
  placed_refused e os n none en eo h =
      refusal_later (before_faults ms given base) (address_faults base (code_length ms) (outside ms given)) e none
      (ap₂ (λ k o. refusal (address_faults base k o)) (sym en) (sym eo) ∙ h)

  pub placed_none : (os : List (Name × ℕ)) (n : ℕ) → before_faults ms given base ≡ [] → n ≡ code_length ms → os ≡ outside ms given
      → address_faults base n os ≡ [] → faults ms given base ≡ []
  placed_none os n none en eo h =
      append_none (before_faults ms given base) (address_faults base (code_length ms) (outside ms given)) none
      (ap₂ (λ k o. address_faults base k o) (sym en) (sym eo) ∙ h)

  pub placed_early : (e : LinkError) → refusal (before_faults ms given base) ≡ Some e → refusal (faults ms given base) ≡ Some e
  placed_early e h = refusal_first (before_faults ms given base) (address_faults base (code_length ms) (outside ms given)) e h

  pub linked_is : (l : Linked) → before_faults ms given base ≡ [] → l.base ≡ base → l.length ≡ code_length ms
      → l.functions ≡ entries_from base items → l.loops ≡ loops_from 0 base items → l.imports ≡ outside ms given → l ≡ resolved ms given base
  linked_is l none eb el ef' eo ei' i = record {
    base = eb i;
    length = el i;
    functions = (ef' ∙ ap (entries_from base) (sym defined_seen) ∙ sym (entries_are base (all_defined ms))) i;
    loops = (eo ∙ ap (loops_from 0 base) (sym defined_seen) ∙ sym (loops_are 0 base (all_defined ms))) i;
    imports = (ei' ∙ sym (imports_given ms given base none)) i;
  }
