-- What a module declares and what its items see, where every place is set to 0.
use Rattle.std.proofs.Common.{◌≡◌, ◌∙◌, sym, ap, ap₂, refl, ◌-◌, Bool, List, [], ◌∷◌, ◌++◌, map, Option, None, Some}
use Rattle.std.proofs.lemmas.List.{length-map, map-append}
use Rattle.bed_lang.specs.declared.word.Name.{Name}
use Rattle.bed_lang.specs.declared.logic.Bind.{Bind}
use Rattle.bed_lang.specs.declared.module.Signature.{Signature}
use Rattle.bed_lang.specs.declared.module.Predicate.{Predicate}
use Rattle.bed_lang.specs.declared.module.Function.{Function}
use Rattle.bed_lang.specs.declared.module.Module.{Module}
use Rattle.bed_lang.specs.declared.condition.Decls.{Decls}
use Rattle.bed_lang.specs.Prelude.{prelude, lseg, lst}
use Rattle.bed_lang.specs.Declarations.{labels_of, declarations}
use Rattle.bed_lang.specs.Lookups.{signature_named}
use Rattle.bed_names.specs.Names.{words}
use Rattle.bed_names.specs.Terms.{Visible}
use Rattle.bed_names.specs.Modules.{plain, signature_names, params_of, logical_of, area_of, visible_inside, function_visible}
use Rattle.bed_print.proofs.Places.{bare_option, bare_name, bare_bind, bare_signature, bare_predicate, bare_import, bare_function, bare_module}
use Rattle.bed_print.proofs.WordTrees.{bare_word-Number, bare_word-Var, bare_word-Add, bare_seq-Var, bare_seq-Nil, bare_seq-Cons}
use Rattle.bed_print.proofs.NamesPlaces.{bare_label, bare_decls, bare_visible, maps_agree, words_bare, signature_named_bare}

-- ---- the prelude has no places

lseg_bare : bare_predicate lseg ≡ lseg
lseg_bare = simp (bare_word-Number, bare_word-Var, bare_word-Add, bare_seq-Var, bare_seq-Nil, bare_seq-Cons) refl

lst_bare : bare_predicate lst ≡ lst
lst_bare = simp (bare_word-Number, bare_word-Var, bare_seq-Var) refl

pub prelude_bare : map bare_predicate prelude ≡ prelude
prelude_bare = ap₂ (λ p q. p ∷ q ∷ []) lseg_bare lst_bare

-- ---- declarations

labels_bare : (m : Module) → labels_of (bare_module m) ≡ map bare_label (labels_of m)
labels_bare m =
    ap₂ (λ xs ys. xs ++ ys) (maps_agree bare_import _ _ bare_label (λ i. refl) m.imports) (maps_agree bare_function _ _ bare_label (λ f. refl) m.functions)
    ∙ sym (map-append bare_label (map (λ i. (i.name, i.signature)) m.imports) (map (λ f. (f.name, f.signature)) m.functions))

predicates_bare : (ps : List Predicate) → prelude ++ map bare_predicate ps ≡ map bare_predicate (prelude ++ ps)
predicates_bare ps = ap (λ qs. qs ++ map bare_predicate ps) (sym prelude_bare) ∙ sym (map-append bare_predicate prelude ps)

pub declarations_bare : (m : Module) → declarations (bare_module m) ≡ bare_decls (declarations m)
declarations_bare m = ap₂ made (predicates_bare m.predicates) (labels_bare m)
  where
    made : List Predicate → List (Name × Name) → Decls
    made ps ls = record { signatures = map bare_signature m.signatures; predicates = ps; labels = ls }

-- ---- scopes

pub plain_bare : (d : Decls) (names names' : List Bind) (answer : Bool) → names' ≡ map bare_bind names
    → plain (bare_decls d) names' answer ≡ bare_visible (plain d names answer)
plain_bare d names names' answer e = ap (λ ns. plain (bare_decls d) ns answer) e

pub signature_names_bare : (s : Signature) → signature_names (bare_signature s) ≡ map bare_bind (signature_names s)
signature_names_bare s = ap (λ ns. ns ++ map bare_bind s.logical) (words_bare s.params) ∙ sym (map-append bare_bind (words s.params) s.logical)

pub params_bare : (s : Option Signature) → params_of (bare_option bare_signature s) ≡ map bare_name (params_of s)
params_bare None = refl
params_bare (Some s) = refl

pub logical_bare : (s : Option Signature) → logical_of (bare_option bare_signature s) ≡ map bare_bind (logical_of s)
logical_bare None = refl
logical_bare (Some s) = refl

pub area_bare : (s : Option Signature) (locals : List Name) → area_of (bare_option bare_signature s) (map bare_name locals) ≡ area_of s locals
area_bare None locals = refl
area_bare (Some s) locals = ap (λ n. Some (s.reserve - n)) (length-map locals bare_name)

inside_names_bare : (params : List Name) (logical : List Bind) (locals : List Name)
    → words (map bare_name params) ++ (map bare_bind logical ++ words (map bare_name locals)) ≡ map bare_bind (words params ++ (logical ++ words locals))
inside_names_bare params logical locals =
    ap₂ (λ xs ys. xs ++ (map bare_bind logical ++ ys)) (words_bare params) (words_bare locals)
    ∙ ap (λ ys. map bare_bind (words params) ++ ys) (sym (map-append bare_bind logical (words locals)))
    ∙ sym (map-append bare_bind (words params) (logical ++ words locals))

visible_inside_bare : (d : Decls) (params : List Name) (logical : List Bind) (locals : List Name)
    → visible_inside (bare_decls d) (map bare_name params) (map bare_bind logical) (map bare_name locals)
    ≡ bare_visible (visible_inside d params logical locals)
visible_inside_bare d params logical locals = ap seen (inside_names_bare params logical locals)
  where
    seen : List Bind → Visible
    seen ns = record { decls = bare_decls d; names = ns; olds = map bare_name params; answer = Bool.false }

pub function_visible_bare : (d : Decls) (s : Option Signature) (f : Function)
    → function_visible (bare_decls d) (bare_option bare_signature s) (bare_function f) ≡ bare_visible (function_visible d s f)
function_visible_bare d s f =
    ap₂ (λ ps ls. visible_inside (bare_decls d) ps ls (map bare_name f.locals)) (params_bare s) (logical_bare s)
    ∙ visible_inside_bare d (params_of s) (logical_of s) f.locals

-- the signature of a function
pub own_signature_bare : (d : Decls) (f : Function)
    → signature_named (bare_decls d) f.signature.bytes ≡ bare_option bare_signature (signature_named d f.signature.bytes)
own_signature_bare d f = signature_named_bare d f.signature
