-- Wording changes no fault of a module.
use Rattle.std.proofs.Common.{◌≡◌, ℕ, true, false, List, [], ◌∷◌, ◌++◌, map, Option, None, Some, refl, ap, ◌∙◌}
use Rattle.bed_lang.specs.declared.word.Name.{Name}
use Rattle.bed_lang.specs.declared.logic.Assertion.{Assertion}
use Rattle.bed_lang.specs.declared.module.Signature.{Signature}
use Rattle.bed_lang.specs.declared.module.Predicate.{Predicate}
use Rattle.bed_lang.specs.declared.module.Import.{Import}
use Rattle.bed_lang.specs.declared.module.Function.{Function}
use Rattle.bed_lang.specs.declared.module.Module.{Module}
use Rattle.bed_lang.specs.declared.condition.Decls.{Decls}
use Rattle.bed_lang.specs.Prelude.{prelude}
use Rattle.bed_names.specs.declared.error.NameError.{NameError}
use Rattle.bed_names.specs.declared.error.NameError.TheVariants.{FallsOff}
use Rattle.bed_names.specs.Faults.{fault_if, all_faults}
use Rattle.bed_lang.specs.Declarations.{labels_of, declarations}
use Rattle.bed_lang.specs.Lookups.{signature_named}
use Rattle.bed_names.specs.Names.{words}
use Rattle.bed_names.specs.Terms.{Visible, twice_faults, bind_names, assertion_faults, signature_name_faults}
use Rattle.bed_names.specs.Statements.{Judged, falls_through, list_faults, judged}
use Rattle.bed_names.specs.Modules.{plain, without_labels, signature_names, signature_faults, predicate_faults, params_of, logical_of, locals_room_faults, inside, faults_under, function_faults, import_faults, name_spaces_faults, items_faults, faults}
use Rattle.bed_names.proofs.ArgumentLaws.{kept_by}
use Rattle.bed_print.proofs.Worded.{worded_assertion, worded_signature, worded_predicate, worded_function, worded_with, worded}
use Rattle.bed_print.proofs.WordedScopes.{SameDeclarations, SameSignatures, without_labels_same, labels_worded, declarations_worded}
use Rattle.bed_print.proofs.WordedFaults.{both, all_same, under, assertion_under, assertion_worded, signature_name_under}
use Rattle.bed_print.proofs.WordedBodies.{around, body_same}

-- items with the same faults where they are changed
all_items : {T : Type 0} (f g : T → List NameError) (change : T → T) → ((t : T) → f (change t) ≡ g t) → (ts : List T)
    → all_faults f (map change ts) ≡ all_faults g ts
all_items f g change each [] = refl
all_items f g change each (t ∷ ts) =
    both (f (change t)) (all_faults f (map change ts)) (g t) (all_faults g ts) (each t) (all_items f g change each ts)

assertion_same : (d : Decls) (v : Visible) → SameDeclarations d v.decls → (a : Assertion) → assertion_faults (under d v) (worded_assertion v a) ≡ assertion_faults v a
assertion_same d v same a = assertion_under d v same (worded_assertion v a) ∙ assertion_worded v a

-- the faults of a body, of which the statements are judged
abbrev judged_faults : ℕ → List Judged → List NameError
judged_faults end js = list_faults js ++ fault_if (falls_through js) (FallsOff end)

module _ (d e : Decls) (same : SameDeclarations d e) where
  signature_same : (s : Signature) → signature_faults d (worded_signature e s) ≡ signature_faults e s
  signature_same s =
      let before : Visible = plain e (signature_names s) false in
      let behind : Visible = plain e (signature_names s) true in
      ap (λ l. twice_faults [] s.params ++ (twice_faults (words s.params) (bind_names s.logical) ++ l))
      (both (assertion_faults (under (without_labels d) before) (worded_assertion before s.pre))
      (assertion_faults (under (without_labels d) behind) (worded_assertion behind s.post))
      (assertion_faults before s.pre) (assertion_faults behind s.post)
      (assertion_same (without_labels d) before (without_labels_same d e same) s.pre)
      (assertion_same (without_labels d) behind (without_labels_same d e same) s.post))

  predicate_same : (p : Predicate) → predicate_faults d (worded_predicate e p) ≡ predicate_faults e p
  predicate_same p =
      let v : Visible = plain e p.params false in
      ap (λ l. twice_faults [] (bind_names p.params) ++ l)
      (all_items (assertion_faults (under (without_labels d) v)) (assertion_faults v) (worded_assertion v)
      (assertion_same (without_labels d) v (without_labels_same d e same)) p.cases)

  name_same : (x : Name) → signature_name_faults (plain d [] false) x ≡ signature_name_faults (plain e [] false) x
  name_same x = signature_name_under (without_labels d) (plain e [] false) (without_labels_same d e same) x

  import_same : (i : Import) → import_faults d i ≡ import_faults e i
  import_same i = name_same i.signature

  -- a function under its signature, whose assertions don't count
  under_same : (s t : Option Signature) (f : Function) → SameSignatures s t → faults_under d s f ≡ faults_under d t f
  under_same None None f h = refl
  under_same None (Some t) f h = absurd h
  under_same (Some s) None f h = absurd h
  under_same (Some s) (Some t) f h =
      ap (λ x. faults_under d (Some (record s { params = x })) f) h.0
      ∙ ap (λ x. faults_under d (Some (record s { params = t.params; logical = x })) f) h.1
      ∙ ap (λ x. faults_under d (Some (record s { params = t.params; logical = t.logical; reserve = x })) f) h.2

  room_same : (s : Option Signature) (f : Function) → locals_room_faults s (worded_function e f) ≡ locals_room_faults s f
  room_same None f = refl
  room_same (Some s) f = refl

  inside_same : (f : Function) → faults_under d (signature_named e f.signature.bytes) (worded_function e f) ≡ faults_under e (signature_named e f.signature.bytes) f
  inside_same f =
      let s : Option Signature = signature_named e f.signature.bytes in
      both (locals_room_faults s (worded_function e f))
      (twice_faults (words (params_of s) ++ logical_of s) f.locals ++ judged_faults f.end (map (judged (around d (inside e s f))) (worded_function e f).body))
      (locals_room_faults s f)
      (twice_faults (words (params_of s) ++ logical_of s) f.locals ++ judged_faults f.end (map (judged (inside e s f)) f.body))
      (room_same s f)
      (ap (λ js. twice_faults (words (params_of s) ++ logical_of s) f.locals ++ judged_faults f.end js) (body_same d (inside e s f) same f.body))

  function_same : (f : Function) → function_faults d (worded_function e f) ≡ function_faults e f
  function_same f =
      both (signature_name_faults (plain d [] false) f.signature) (faults_under d (signature_named d f.signature.bytes) (worded_function e f))
      (signature_name_faults (plain e [] false) f.signature) (faults_under e (signature_named e f.signature.bytes) f)
      (name_same f.signature)
      (under_same (signature_named d f.signature.bytes) (signature_named e f.signature.bytes) (worded_function e f) (same.signature f.signature) ∙ inside_same f)

  items_same : (m : Module) → items_faults d (worded_with e m) ≡ items_faults e m
  items_same m =
      both (all_faults (signature_faults d) (map (worded_signature e) m.signatures))
      (all_faults (predicate_faults d) (map (worded_predicate e) m.predicates)
      ++ (all_faults (import_faults d) m.imports ++ all_faults (function_faults d) (map (worded_function e) m.functions)))
      (all_faults (signature_faults e) m.signatures)
      (all_faults (predicate_faults e) m.predicates ++ (all_faults (import_faults e) m.imports ++ all_faults (function_faults e) m.functions))
      (all_items (signature_faults d) (signature_faults e) (worded_signature e) signature_same m.signatures)
      (both (all_faults (predicate_faults d) (map (worded_predicate e) m.predicates))
      (all_faults (import_faults d) m.imports ++ all_faults (function_faults d) (map (worded_function e) m.functions))
      (all_faults (predicate_faults e) m.predicates)
      (all_faults (import_faults e) m.imports ++ all_faults (function_faults e) m.functions)
      (all_items (predicate_faults d) (predicate_faults e) (worded_predicate e) predicate_same m.predicates)
      (both (all_faults (import_faults d) m.imports) (all_faults (function_faults d) (map (worded_function e) m.functions))
      (all_faults (import_faults e) m.imports) (all_faults (function_faults e) m.functions)
      (all_same (import_faults d) (import_faults e) import_same m.imports)
      (all_items (function_faults d) (function_faults e) (worded_function e) function_same m.functions)))

-- the names of the items stay
predicate_names : (d : Decls) (front items : List Predicate)
    → map (λ (p : Predicate). p.name) (front ++ map (worded_predicate d) items) ≡ map (λ (p : Predicate). p.name) (front ++ items)
predicate_names d [] items = kept_by (λ (p : Predicate). p.name) (worded_predicate d) (λ p. refl) items
predicate_names d (p ∷ front) items = ap (λ ps. p.name ∷ ps) (predicate_names d front items)

name_spaces_same : (d : Decls) (m : Module) → name_spaces_faults (declarations (worded_with d m)) ≡ name_spaces_faults (declarations m)
name_spaces_same d m =
    both (twice_faults [] (map (λ (s : Signature). s.name) (map (worded_signature d) m.signatures)))
    (twice_faults [] (map (λ (p : Predicate). p.name) (prelude ++ map (worded_predicate d) m.predicates))
    ++ twice_faults [] (map (λ (l : Name × Name). l.0) (labels_of (worded_with d m))))
    (twice_faults [] (map (λ (s : Signature). s.name) m.signatures))
    (twice_faults [] (map (λ (p : Predicate). p.name) (prelude ++ m.predicates)) ++ twice_faults [] (map (λ (l : Name × Name). l.0) (labels_of m)))
    (ap (twice_faults []) (kept_by (λ (s : Signature). s.name) (worded_signature d) (λ s. refl) m.signatures))
    (both (twice_faults [] (map (λ (p : Predicate). p.name) (prelude ++ map (worded_predicate d) m.predicates)))
    (twice_faults [] (map (λ (l : Name × Name). l.0) (labels_of (worded_with d m))))
    (twice_faults [] (map (λ (p : Predicate). p.name) (prelude ++ m.predicates))) (twice_faults [] (map (λ (l : Name × Name). l.0) (labels_of m)))
    (ap (twice_faults []) (predicate_names d prelude m.predicates))
    (ap (λ ls. twice_faults [] (map (λ (l : Name × Name). l.0) ls)) (labels_worded d m)))

pub faults_worded : (m : Module) → faults (worded m) ≡ faults m
faults_worded m =
    let d : Decls = declarations (worded m) in
    let e : Decls = declarations m in
    both (name_spaces_faults d) (items_faults d (worded m)) (name_spaces_faults e) (items_faults e m)
    (name_spaces_same e m)
    (items_same d e (declarations_worded e m) m)
