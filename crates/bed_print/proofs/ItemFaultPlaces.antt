-- The faults of a module are the same, each at place 0, where every place is set to 0.
use Rattle.std.proofs.Common.{◌≡◌, ◌∙◌, sym, ap, ap₂, refl, subst, ℕ, Bool, true, false, List, [], ◌++◌, map, length, nat_lt, Option, None, Some}
use Rattle.std.proofs.lemmas.List.{length-map, map-append}
use Rattle.bed_lang.specs.declared.word.Name.{Name}
use Rattle.bed_lang.specs.declared.logic.Assertion.{Assertion}
use Rattle.bed_lang.specs.declared.module.Signature.{Signature}
use Rattle.bed_lang.specs.declared.module.Predicate.{Predicate}
use Rattle.bed_lang.specs.declared.module.Import.{Import}
use Rattle.bed_lang.specs.declared.module.Function.{Function}
use Rattle.bed_lang.specs.declared.module.Module.{Module}
use Rattle.bed_lang.specs.declared.condition.Decls.{Decls}
use Rattle.bed_names.specs.declared.error.NameError.TheVariants.{FallsOff, StackRoom}
use Rattle.bed_names.specs.Faults.{fault_if}
use Rattle.bed_lang.specs.Declarations.{declarations}
use Rattle.bed_lang.specs.Lookups.{signature_named}
use Rattle.bed_names.specs.Names.{words}
use Rattle.bed_names.specs.Terms.{Visible, bind_names, assertion_faults}
use Rattle.bed_names.specs.Statements.{Surroundings, body_falls, body_faults}
use Rattle.bed_names.specs.Modules.{plain, signature_names, signature_faults, predicate_faults, params_of, logical_of, area_of, locals_room_faults, function_visible, inside, faults_under, function_faults, import_faults, name_spaces_faults, items_faults, faults}
use Rattle.bed_print.proofs.Places.{bare_option, bare_name, bare_bind, bare_assertion, bare_signature, bare_predicate, bare_import, bare_stmt, bare_function, bare_module}
use Rattle.bed_print.proofs.NamesPlaces.{bare_label, bare_decls, bare_visible, maps_agree, words_bare, bind_names_bare}
use Rattle.bed_print.proofs.FaultPlaces.{unplaced, Unplaced, none, joined, tested, all_joined, signature_name_bare, twice_bare, assertion_bare_in}
use Rattle.bed_print.proofs.StmtFaultPlaces.{bare_surroundings, body_falls_bare, body_faults_bare}
use Rattle.bed_print.proofs.ScopePlaces.{declarations_bare, plain_bare, signature_names_bare, params_bare, logical_bare, area_bare, function_visible_bare, own_signature_bare}

module _ (d : Decls) where
  abbrev d' : Decls
  d' = bare_decls d

  signature_bare : (s : Signature) → Unplaced (signature_faults d' (bare_signature s)) (signature_faults d s)
  signature_bare s =
      joined (twice_bare [] s.params refl refl)
      (joined (twice_bare (words s.params) (bind_names s.logical) (words_bare s.params) (bind_names_bare s.logical))
      (joined (seen false s.pre) (seen true s.post)))
    where
      seen : (answer : Bool) (a : Assertion)
          → Unplaced (assertion_faults (plain d' (signature_names (bare_signature s)) answer) (bare_assertion a))
          (assertion_faults (plain d (signature_names s) answer) a)
      seen answer a =
          assertion_bare_in (plain d (signature_names s) answer) _ a
          (plain_bare d (signature_names s) (signature_names (bare_signature s)) answer (signature_names_bare s))

  predicate_bare : (p : Predicate) → Unplaced (predicate_faults d' (bare_predicate p)) (predicate_faults d p)
  predicate_bare p =
      joined (twice_bare [] (bind_names p.params) refl (bind_names_bare p.params))
      (all_joined bare_assertion _ _ (λ a. assertion_bare_in (plain d p.params false) (plain d' (map bare_bind p.params) false) a refl) p.cases)

  import_bare : (i : Import) → Unplaced (import_faults d' (bare_import i)) (import_faults d i)
  import_bare i = signature_name_bare (plain d [] false) i.signature

  room_bare : (s : Option Signature) (f : Function) → Unplaced (locals_room_faults (bare_option bare_signature s) (bare_function f)) (locals_room_faults s f)
  room_bare None f = none
  room_bare (Some s) f =
      subst (λ n. Unplaced (fault_if (nat_lt s.reserve n) (StackRoom 0 n s.reserve)) (locals_room_faults (Some s) f)) (sym (length-map f.locals bare_name))
      (tested refl (StackRoom f.name.at (length f.locals) s.reserve))

  inside_bare : (s : Option Signature) (f : Function)
      → inside d' (bare_option bare_signature s) (bare_function f) ≡ bare_surroundings (inside d s f)
  inside_bare s f =
      ap (λ v. made v (params_of (bare_option bare_signature s) ++ map bare_name f.locals) (area_of (bare_option bare_signature s) (map bare_name f.locals)))
      (function_visible_bare d s f)
      ∙ ap₂ (λ ls n. made (bare_visible (function_visible d s f)) ls n)
      (ap (λ ps. ps ++ map bare_name f.locals) (params_bare s) ∙ sym (map-append bare_name (params_of s) f.locals)) (area_bare s f.locals)
    where
      made : Visible → List Name → Option ℕ → Surroundings
      made v ls n = record { visible = v; locals = ls; area = n }

  under_bare : (s : Option Signature) (f : Function)
      → Unplaced (faults_under d' (bare_option bare_signature s) (bare_function f)) (faults_under d s f)
  under_bare s f =
      joined (room_bare s f)
      (joined
      (twice_bare (words (params_of s) ++ logical_of s) f.locals
      (ap₂ (λ ps ls. words ps ++ ls) (params_bare s) (logical_bare s)
      ∙ ap (λ ns. ns ++ map bare_bind (logical_of s)) (words_bare (params_of s))
      ∙ sym (map-append bare_bind (words (params_of s)) (logical_of s))) refl)
      (subst (λ i. Unplaced (body_faults i (map bare_stmt f.body) ++ fault_if (body_falls i (map bare_stmt f.body)) (FallsOff 0))
      (body_faults (inside d s f) f.body ++ fault_if (body_falls (inside d s f) f.body) (FallsOff f.end)))
      (sym (inside_bare s f))
      (joined (body_faults_bare (inside d s f) f.body) (tested (body_falls_bare (inside d s f) f.body) (FallsOff f.end)))))

  function_bare : (f : Function) → Unplaced (function_faults d' (bare_function f)) (function_faults d f)
  function_bare f =
      joined (signature_name_bare (plain d [] false) f.signature)
      (subst (λ s. Unplaced (faults_under d' s (bare_function f)) (faults_under d (signature_named d f.signature.bytes) f)) (sym (own_signature_bare d f))
      (under_bare (signature_named d f.signature.bytes) f))

  name_spaces_bare : Unplaced (name_spaces_faults d') (name_spaces_faults d)
  name_spaces_bare =
      joined (twice_bare [] (map (λ s. s.name) d.signatures) refl (maps_agree bare_signature _ _ bare_name (λ s. refl) d.signatures))
      (joined (twice_bare [] (map (λ p. p.name) d.predicates) refl (maps_agree bare_predicate _ _ bare_name (λ p. refl) d.predicates))
      (twice_bare [] (map (λ l. l.0) d.labels) refl (maps_agree bare_label _ _ bare_name (λ l. refl) d.labels)))

  items_bare : (m : Module) → Unplaced (items_faults d' (bare_module m)) (items_faults d m)
  items_bare m =
      joined (all_joined bare_signature _ _ signature_bare m.signatures)
      (joined (all_joined bare_predicate _ _ predicate_bare m.predicates)
      (joined (all_joined bare_import _ _ import_bare m.imports) (all_joined bare_function _ _ function_bare m.functions)))

pub faults_bare : (m : Module) → faults (bare_module m) ≡ map unplaced (faults m)
faults_bare m =
    (subst (λ d. Unplaced (name_spaces_faults d ++ items_faults d (bare_module m)) (faults m)) (sym (declarations_bare m))
    (joined (name_spaces_bare (declarations m)) (items_bare (declarations m) m))).is
