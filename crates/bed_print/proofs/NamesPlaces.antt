-- What a module declares, what is in scope, and what is found under a name, where every place is set to 0.
use Rattle.std.proofs.Common.{◌≡◌, ◌∙◌, sym, ap, ap₂, refl, ℕ, Bool, true, false, List, [], ◌∷◌, map, length, Option, None, Some, bytes_eq}
use Rattle.std.specs.Prelude.{if◌then◌else◌, ◌||◌, ◌==◌, find}
use Rattle.std.proofs.lemmas.List.{length-map, map-append}
use Rattle.bed_lang.specs.declared.word.Name.{Name}
use Rattle.bed_lang.specs.declared.logic.Arg.{Arg}
use Rattle.bed_lang.specs.declared.logic.Bind.{Bind}
use Rattle.bed_lang.specs.declared.module.Signature.{Signature}
use Rattle.bed_lang.specs.declared.module.Predicate.{Predicate}
use Rattle.bed_lang.specs.declared.condition.Decls.{Decls}
use Rattle.bed_lang.specs.Lookups.{first_signature, signature_named, predicate_named, second_of, label_signature}
use Rattle.bed_names.specs.Names.{is_among, sort_of, words, sequences}
use Rattle.bed_names.specs.Terms.{Visible, with_names, bind_names, asked_by, first_sort, behind_first}
use Rattle.bed_print.proofs.Places.{bare_option, bare_name, bare_arg, bare_bind, bare_signature, bare_predicate}

abbrev pub bare_label : Name × Name → Name × Name
bare_label l = (bare_name l.0, bare_name l.1)

abbrev pub bare_decls : Decls → Decls
bare_decls d = record {
  signatures = map bare_signature d.signatures;
  predicates = map bare_predicate d.predicates;
  labels = map bare_label d.labels;
}

abbrev pub bare_visible : Visible → Visible
bare_visible v = record { decls = bare_decls v.decls; names = map bare_bind v.names; olds = map bare_name v.olds; answer = v.answer }

-- ---- lists

-- two ways from one list to another that agree at each item
pub maps_agree : {X Y Z W : Type 0} (f : X → Y) (g : Y → W) (h : X → Z) (k : Z → W) → ((x : X) → g (f x) ≡ k (h x)) → (xs : List X)
    → map g (map f xs) ≡ map k (map h xs)
maps_agree f g h k e [] = refl
maps_agree f g h k e (x ∷ xs) = ap (λ y. y ∷ map g (map f xs)) (e x) ∙ ap (λ ys. k (h x) ∷ ys) (maps_agree f g h k e xs)

pub words_bare : (xs : List Name) → words (map bare_name xs) ≡ map bare_bind (words xs)
words_bare xs = maps_agree bare_name _ _ bare_bind (λ x. refl) xs

pub sequences_bare : (xs : List Name) → sequences (map bare_name xs) ≡ map bare_bind (sequences xs)
sequences_bare xs = maps_agree bare_name _ _ bare_bind (λ x. refl) xs

pub bind_names_bare : (bs : List Bind) → bind_names (map bare_bind bs) ≡ map bare_name (bind_names bs)
bind_names_bare bs = maps_agree bare_bind _ _ bare_name (λ b. refl) bs

pub with_names_bare : (v : Visible) (bs : List Bind) → with_names (bare_visible v) (map bare_bind bs) ≡ bare_visible (with_names v bs)
with_names_bare v bs = ap (λ ns. record (bare_visible v) { names = ns }) (sym (map-append bare_bind v.names bs))

-- ---- lookups

if_found : {T : Type 0} (bare : T → T) (b : Bool) (x : T) (r q : Option T) → r ≡ bare_option bare q
    → (if b then Some (bare x) else r) ≡ bare_option bare (if b then Some x else q)
if_found bare true x r q e = refl
if_found bare false x r q e = e

signatures_found : (ss : List Signature) (x : List ℕ)
    → first_signature (map bare_signature ss) x ≡ bare_option bare_signature (first_signature ss x)
signatures_found [] x = refl
signatures_found (s ∷ ss) x = if_found bare_signature (bytes_eq s.name.bytes x) s _ _ (signatures_found ss x)

predicates_found : (ps : List Predicate) (x : List ℕ)
    → find (λ p. bytes_eq p.name.bytes x) (map bare_predicate ps) ≡ bare_option bare_predicate (find (λ p. bytes_eq p.name.bytes x) ps)
predicates_found [] x = refl
predicates_found (p ∷ ps) x = if_found bare_predicate (bytes_eq p.name.bytes x) p _ _ (predicates_found ps x)

if_second : (b : Bool) (l : Name × Name) (r q : Option (Name × Name)) → second_of r ≡ bare_option bare_name (second_of q)
    → second_of (if b then Some (bare_label l) else r) ≡ bare_option bare_name (second_of (if b then Some l else q))
if_second true l r q e = refl
if_second false l r q e = e

labels_found : (ls : List (Name × Name)) (x : List ℕ)
    → second_of (find (λ l. bytes_eq l.0.bytes x) (map bare_label ls)) ≡ bare_option bare_name (second_of (find (λ l. bytes_eq l.0.bytes x) ls))
labels_found [] x = refl
labels_found (l ∷ ls) x = if_second (bytes_eq l.0.bytes x) l _ _ (labels_found ls x)

pub signature_named_bare : (d : Decls) (x : Name) → signature_named (bare_decls d) x.bytes ≡ bare_option bare_signature (signature_named d x.bytes)
signature_named_bare d x = signatures_found d.signatures x.bytes

pub predicate_named_bare : (d : Decls) (x : Name) → predicate_named (bare_decls d) x.bytes ≡ bare_option bare_predicate (predicate_named d x.bytes)
predicate_named_bare d x = predicates_found d.predicates x.bytes

pub label_signature_bare : (d : Decls) (x : Name) → label_signature (bare_decls d) x.bytes ≡ bare_option bare_name (label_signature d x.bytes)
label_signature_bare d x = labels_found d.labels x.bytes

pub is_among_bare : (ys : List Name) (x : Name) → is_among (map bare_name ys) (bare_name x) ≡ is_among ys x
is_among_bare [] x = refl
is_among_bare (y ∷ ys) x = ap (λ b. bytes_eq x.bytes y.bytes || b) (is_among_bare ys x)

pub sort_of_bare : (bs : List Bind) (x : Name) → sort_of (map bare_bind bs) (bare_name x) ≡ sort_of bs x
sort_of_bare [] x = refl
sort_of_bare (b ∷ bs) x = ap (λ o. if bytes_eq x.bytes b.name.bytes then Some b.sort else o) (sort_of_bare bs x)

-- ---- arguments and their parameters

pub asked_by_bare : (o : Option Predicate) (as' : List Arg)
    → asked_by (bare_option bare_predicate o) (map bare_arg as') ≡ map bare_bind (asked_by o as')
asked_by_bare None as' = refl
asked_by_bare (Some p) as' =
    ap₂ (λ n m. if n == m then map bare_bind p.params else []) (length-map p.params bare_bind) (length-map as' bare_arg)
    ∙ either (length p.params == length as')
  where
    either : (b : Bool) → (if b then map bare_bind p.params else []) ≡ map bare_bind (if b then p.params else [])
    either true = refl
    either false = refl

pub first_sort_bare : (ps : List Bind) → first_sort (map bare_bind ps) ≡ first_sort ps
first_sort_bare [] = refl
first_sort_bare (p ∷ ps) = refl

pub behind_first_bare : (ps : List Bind) → behind_first (map bare_bind ps) ≡ map bare_bind (behind_first ps)
behind_first_bare [] = refl
behind_first_bare (p ∷ ps) = refl
