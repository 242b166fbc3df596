-- What names stand for in a worded module: its declarations have other assertions inside, and the same names, parameters,
-- logical variables, reserved words and numbers of cases.
use Rattle.std.proofs.Common.{◌≡◌, ℕ, suc, ◌==◌, nat_lt, Bool, true, false, not, ◌||◌, if◌then◌else◌, List, [], ◌∷◌, ◌++◌, map, length, bytes_eq, find, Option, None, Some, is_none, refl, ap, ◌∙◌}
use Rattle.std.proofs.lemmas.List.{length-map}
use Rattle.bed_lang.specs.declared.word.Name.{Name}
use Rattle.bed_lang.specs.declared.logic.Arg.{Arg}
use Rattle.bed_lang.specs.declared.logic.Bind.{Bind}
use Rattle.bed_lang.specs.declared.module.Signature.{Signature}
use Rattle.bed_lang.specs.declared.module.Predicate.{Predicate}
use Rattle.bed_lang.specs.declared.module.Function.{Function}
use Rattle.bed_lang.specs.declared.module.Module.{Module}
use Rattle.bed_lang.specs.declared.condition.Decls.{Decls}
use Rattle.bed_lang.specs.Prelude.{prelude}
use Rattle.bed_lang.specs.Declarations.{labels_of, declarations}
use Rattle.bed_lang.specs.Lookups.{first_signature, signature_named, predicate_named, label_signature}
use Rattle.bed_names.specs.Terms.{Visible, asked_by, behind_first, has_other_number, has_no_case}
use Rattle.bed_names.specs.Modules.{plain, without_labels}
use Rattle.bed_names.proofs.ArgumentLaws.{kept_by}
use Rattle.bed_print.proofs.Worded.{worded_signature, worded_predicate, worded_function, worded_assertion, worded_args, worded_with}

-- predicates with the same parameters and as many cases, or none
abbrev pub SamePredicates : Option Predicate → Option Predicate → Type 0
SamePredicates None None = Unit {0}
SamePredicates None (Some q) = ⊥
SamePredicates (Some p) None = ⊥
SamePredicates (Some p) (Some q) = (p.params ≡ q.params) × (length p.cases ≡ length q.cases)

-- signatures with the same parameters, logical variables and reserved words, or none
abbrev pub SameSignatures : Option Signature → Option Signature → Type 0
SameSignatures None None = Unit {0}
SameSignatures None (Some t) = ⊥
SameSignatures (Some s) None = ⊥
SameSignatures (Some s) (Some t) = (s.params ≡ t.params) × (s.logical ≡ t.logical) × (s.reserve ≡ t.reserve)

-- declarations under which names stand for the same, assertions aside
pub record SameDeclarations (d e : Decls) : Type 0 where
  pub signature : (x : Name) → SameSignatures (signature_named d x.bytes) (signature_named e x.bytes)
  pub predicate : (x : Name) → SamePredicates (predicate_named d x.bytes) (predicate_named e x.bytes)
  pub label : (x : Name) → label_signature d x.bytes ≡ label_signature e x.bytes

pub without_labels_same : (d e : Decls) → SameDeclarations d e → SameDeclarations (without_labels d) (without_labels e)
without_labels_same d e same = record { signature = same.signature; predicate = same.predicate; label = λ x. refl }

-- ---- what is asked of a predicate that is found

pub unknown_predicate : (o q : Option Predicate) → SamePredicates o q → is_none o ≡ is_none q
unknown_predicate None None h = refl
unknown_predicate None (Some q) h = absurd h
unknown_predicate (Some p) None h = absurd h
unknown_predicate (Some p) (Some q) h = refl

pub asked_same : (o q : Option Predicate) (as' : List Arg) → SamePredicates o q → asked_by o as' ≡ asked_by q as'
asked_same None None as' h = refl
asked_same None (Some q) as' h = absurd h
asked_same (Some p) None as' h = absurd h
asked_same (Some p) (Some q) as' h = ap (λ ps. if length ps == length as' then ps else []) h.0

pub other_number_same : (o q : Option Predicate) (as' : List Arg) → SamePredicates o q → has_other_number o as' ≡ has_other_number q as'
other_number_same None None as' h = refl
other_number_same None (Some q) as' h = absurd h
other_number_same (Some p) None as' h = absurd h
other_number_same (Some p) (Some q) as' h = ap (λ ps. not (length {A = Bind} ps == length as')) h.0

pub no_case_same : (o q : Option Predicate) (n : ℕ) → SamePredicates o q → has_no_case o n ≡ has_no_case q n
no_case_same None None n h = refl
no_case_same None (Some q) n h = absurd h
no_case_same (Some p) None n h = absurd h
no_case_same (Some p) (Some q) n h = ap (λ k. (n == 0) || nat_lt k n) h.1

pub unknown_signature : (o q : Option Signature) → SameSignatures o q → is_none o ≡ is_none q
unknown_signature None None h = refl
unknown_signature None (Some q) h = absurd h
unknown_signature (Some p) None h = absurd h
unknown_signature (Some p) (Some q) h = refl

-- arguments of the same number are asked for the same
pub asked_length : (o : Option Predicate) (as' bs : List Arg) → length as' ≡ length bs → asked_by o as' ≡ asked_by o bs
asked_length None as' bs e = refl
asked_length (Some p) as' bs e = ap (λ n. if length p.params == n then p.params else []) e

pub other_number_length : (o : Option Predicate) (as' bs : List Arg) → length as' ≡ length bs → has_other_number o as' ≡ has_other_number o bs
other_number_length None as' bs e = refl
other_number_length (Some p) as' bs e = ap (λ n. not (length p.params == n)) e

-- as many arguments as there were
pub worded_length : (v : Visible) (ps : List Bind) (as' : List Arg) → length (worded_args v ps as') ≡ length as'
worded_length v ps [] = refl
worded_length v ps (a ∷ more) = ap (λ n. suc n) (worded_length v (behind_first ps) more)

-- ---- what is found in a worded module

-- the first of two lists of items is found where the first of the others is
by_signature : (b : Bool) (s t : Signature) (o q : Option Signature) → SameSignatures (Some s) (Some t) → SameSignatures o q
    → SameSignatures (if b then Some s else o) (if b then Some t else q)
by_signature true s t o q h more = h
by_signature false s t o q h more = more

by_predicate : (b : Bool) (p q : Predicate) (o r : Option Predicate) → SamePredicates (Some p) (Some q) → SamePredicates o r
    → SamePredicates (if b then Some p else o) (if b then Some q else r)
by_predicate true p q o r h more = h
by_predicate false p q o r h more = more

abbrev first_predicate : List Predicate → List ℕ → Option Predicate
first_predicate items name = find (λ p. bytes_eq p.name.bytes name) items

signature_found : (d : Decls) (items : List Signature) (name : List ℕ)
    → SameSignatures (first_signature (map (worded_signature d) items) name) (first_signature items name)
signature_found d [] name = tt
signature_found d (s ∷ more) name =
    by_signature (bytes_eq s.name.bytes name) (worded_signature d s) s
    (first_signature (map (worded_signature d) more) name) (first_signature more name)
    (refl, refl, refl) (signature_found d more name)

predicate_found : (d : Decls) (items : List Predicate) (name : List ℕ)
    → SamePredicates (first_predicate (map (worded_predicate d) items) name) (first_predicate items name)
predicate_found d [] name = tt
predicate_found d (p ∷ more) name =
    by_predicate (bytes_eq p.name.bytes name) (worded_predicate d p) p
    (first_predicate (map (worded_predicate d) more) name) (first_predicate more name)
    (refl, length-map p.cases (worded_assertion (plain d p.params false))) (predicate_found d more name)

-- the predicates in front of those of the module stay as they are
predicate_found_behind : (d : Decls) (front items : List Predicate) (name : List ℕ)
    → SamePredicates (first_predicate (front ++ map (worded_predicate d) items) name) (first_predicate (front ++ items) name)
predicate_found_behind d [] items name = predicate_found d items name
predicate_found_behind d (p ∷ front) items name =
    by_predicate (bytes_eq p.name.bytes name) p p
    (first_predicate (front ++ map (worded_predicate d) items) name) (first_predicate (front ++ items) name)
    (refl, refl) (predicate_found_behind d front items name)

abbrev label_of : Function → Name × Name
label_of f = (f.name, f.signature)

pub labels_worded : (d : Decls) (m : Module) → labels_of (worded_with d m) ≡ labels_of m
labels_worded d m = ap (λ ls. map (λ i. (i.name, i.signature)) m.imports ++ ls) (kept_by label_of (worded_function d) (λ f. refl) m.functions)

pub declarations_worded : (d : Decls) (m : Module) → SameDeclarations (declarations (worded_with d m)) (declarations m)
declarations_worded d m = record {
  signature = λ x. signature_found d m.signatures x.bytes;
  predicate = λ x. predicate_found_behind d prelude m.predicates x.bytes;
  label = λ x. ap (λ ls. label_signature (record (declarations m) { labels = ls }) x.bytes) (labels_worded d m);
}
