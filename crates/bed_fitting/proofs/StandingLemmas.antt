-- Where functions and imports of modules stand, and what the code map has there.
use Rattle.std.proofs.Common.{◌≡◌, ◌≢◌, ℕ, zero, suc, ◌+◌, ◌<◌, ◌≤◌, Bool, true, false, ◌&&◌, ◌||◌, cond, nat_eq, if◌then◌else◌, Option, Some, None, List, [], ◌∷◌, ◌++◌, map, find, bytes_eq, inl, inr, ◌⊎◌, Contains, refl, sym, ◌∙◌, ap, subst, arith}
use Rattle.std.proofs.lemmas.Bool.Decides.{nat_tests}
use Rattle.std.proofs.lemmas.List.Elements.{Contains-append_left, Contains-append_right, Contains-append_cases}
use Rattle.bed_lang.specs.declared.word.Name.{Name}
use Rattle.bed_lang.specs.declared.module.Signature.{Signature}
use Rattle.bed_lang.specs.declared.module.Import.{Import}
use Rattle.bed_lang.specs.declared.module.Function.{Function}
use Rattle.bed_lang.specs.declared.module.Module.{Module}
use Rattle.bed_lang.specs.Declarations.{all_imports}
use Rattle.bed_lang.specs.Lookups.{first_signature}
use Rattle.bed_table.specs.Layout.{Defined, define, defined_in, all_defined, Placed, placed_from, function_size, total_size, address_of, import_label, exports, imported, is_among, outside_names}
use Rattle.bed_sat.specs.Runs.{Outside}
use Rattle.bed_sat.specs.Sound.{FunctionAt, codes_of}
use Rattle.bed_sat.specs.Linking.{with_function, functions_at, import_at, imports_at}
use Rattle.bed_sat.proofs.FrameLaws.{bytes_eq_is}
use Rattle.bed_fitting.proofs.ConsistentLemmas.{first_one, later, map_in, map_back}

no : {A : Type 0} → ◌≡◌ {A = Bool} false true → A
no e = absurd cc

-- ---- functions

pub defined_listed : (ks : List Module) (m : Module) (f : Function) → Contains ks m → Contains m.functions f → Contains (all_defined ks) (define m.signatures f)
defined_listed [] m f (k, lt, e) has = absurd (omega arith)
defined_listed (n ∷ ks) m f (zero, lt, e) has =
    Contains-append_left (defined_in n) (all_defined ks) (define m.signatures f) (subst (λ (x : Module). Contains (defined_in x) (define m.signatures f)) (sym e) (map_in (define m.signatures) m.functions f has))
defined_listed (n ∷ ks) m f (suc k, lt, e) has = Contains-append_right (defined_in n) (all_defined ks) (define m.signatures f) (defined_listed ks m f (k, omega arith, e) has)

pub defined_back : (ks : List Module) (d : Defined) → Contains (all_defined ks) d → (m : Module) × Contains ks m × Contains m.functions d.function
defined_back [] d (k, lt, e) = absurd (omega arith)
defined_back (n ∷ ks) d is = elim (Contains-append_cases (defined_in n) (all_defined ks) d is) [
  | inl here ↦
      let f = map_back (define n.signatures) n.functions d here in
      (n, first_one n ks, subst (λ (x : Function). Contains n.functions x) (ap (λ (x : Defined). x.function) f.2) f.1)
  | inr more ↦ let r = defined_back ks d more in (r.0, later n ks r.0 r.1, r.2)
]

pub placed_has : (at : ℕ) (ds : List Defined) (d : Defined) → Contains ds d → (q : Placed) × Contains (placed_from at ds) q × (q.defined ≡ d)
placed_has at [] d (k, lt, e) = absurd (omega arith)
placed_has at (c ∷ ds) d (zero, lt, e) = (record { defined = c; address = at }, first_one _ _, e)
placed_has at (c ∷ ds) d (suc k, lt, e) = let r = placed_has (at + function_size c) ds d (k, omega arith, e) in (r.0, later _ (placed_from (at + function_size c) ds) r.0 r.1, r.2)

pub placed_within : (at : ℕ) (ds : List Defined) (q : Placed) → Contains (placed_from at ds) q → (at ≤ q.address) × (q.address < at + total_size ds)
placed_within at [] q (k, lt, e) = absurd (omega arith)
placed_within at (c ∷ ds) q (zero, lt, e) = let same : at ≡ q.address = ap (λ (x : Placed). x.address) e in (omega arith, omega arith)
placed_within at (c ∷ ds) q (suc k, lt, e) = let r = placed_within (at + function_size c) ds q (k, omega arith, e) in (omega (arith, r.0), omega (arith, r.1))

equal : (n m : ℕ) → n ≡ m → nat_eq n m ≡ true
equal n m e = grind (arith, nat_tests)

unequal : (n m : ℕ) → n ≢ m → nat_eq n m ≡ false
unequal n m ne = grind (arith, nat_tests)

module _ (sigs : List Signature) (X : Outside) where
  passed_by : (o : Option Signature) (p : Placed) (rest : List FunctionAt) (a : ℕ) → a ≢ p.address → codes_of (with_function o p rest) X a ≡ codes_of rest X a
  passed_by None p rest a out = refl
  passed_by (Some S) p rest a out = ap (λ b. cond b (Some S.name.bytes) (codes_of rest X a)) (unequal a p.address out)

  -- at a function's address the code map has the name of its signature
  pub codes_at : (at : ℕ) (ds : List Defined) (q : Placed) (S : Signature) → Contains (placed_from at ds) q → first_signature sigs q.defined.function.signature.bytes ≡ Some S
      → codes_of (functions_at sigs (placed_from at ds)) X q.address ≡ Some S.name.bytes
  codes_at at [] q S (k, lt, is) e = absurd (omega arith)
  codes_at at (c ∷ ds) q S (zero, lt, is) e =
      let first : first_signature sigs c.function.signature.bytes ≡ Some S = subst (λ (x : Placed). first_signature sigs x.defined.function.signature.bytes ≡ Some S) (sym is) e in
      let same : at ≡ q.address = ap (λ (x : Placed). x.address) is in
      ap (λ o. codes_of (with_function o (record { defined = c; address = at }) (functions_at sigs (placed_from (at + function_size c) ds))) X q.address) first
      ∙ ap (λ b. cond b (Some S.name.bytes) (codes_of (functions_at sigs (placed_from (at + function_size c) ds)) X q.address)) (equal q.address at (sym same))
  codes_at at (c ∷ ds) q S (suc k, lt, is) e =
      let w = placed_within (at + function_size c) ds q (k, omega arith, is) in
      passed_by (first_signature sigs c.function.signature.bytes) (record { defined = c; address = at }) (functions_at sigs (placed_from (at + function_size c) ds)) q.address (λ z. omega (arith, w.0))
      ∙ codes_at (at + function_size c) ds q S (k, omega arith, is) e

  -- outside the code it is the outside's
  pub codes_out : (at : ℕ) (ds : List Defined) (a : ℕ) → (a < at) ⊎ (at + total_size ds ≤ a) → codes_of (functions_at sigs (placed_from at ds)) X a ≡ X a
  codes_out at [] a out = refl
  codes_out at (c ∷ ds) a out =
      passed_by (first_signature sigs c.function.signature.bytes) (record { defined = c; address = at }) (functions_at sigs (placed_from (at + function_size c) ds)) a (λ z. here z out)
      ∙ codes_out (at + function_size c) ds a (behind out)
    where
      here : a ≡ at → (a < at) ⊎ (at + total_size (c ∷ ds) ≤ a) → ⊥
      here z (inl l) = omega arith
      here z (inr g) = omega arith

      behind : (a < at) ⊎ (at + total_size (c ∷ ds) ≤ a) → (a < at + function_size c) ⊎ (at + function_size c + total_size ds ≤ a)
      behind (inl l) = inl (omega arith)
      behind (inr g) = inr (omega arith)

-- ---- imports

pub exports_has : (ds : List Defined) (x : List ℕ) → exports ds x ≡ true → (d : Defined) × Contains ds d × (d.function.name.bytes ≡ x)
exports_has [] x e = no e
exports_has (d ∷ ds) x e = by (d.function.exported) (bytes_eq d.function.name.bytes x) refl e (exports_has ds x)
  where
    by : (a b : Bool) → bytes_eq d.function.name.bytes x ≡ b → ((a && b) || exports ds x) ≡ true → (exports ds x ≡ true → (c : Defined) × Contains ds c × (c.function.name.bytes ≡ x))
        → (c : Defined) × Contains (d ∷ ds) c × (c.function.name.bytes ≡ x)
    by true true is e more = (d, first_one d ds, bytes_eq_is d.function.name.bytes x is)
    by true false is e more = let r = more e in (r.0, later d ds r.0 r.1, r.2)
    by false b is e more = let r = more e in (r.0, later d ds r.0 r.1, r.2)

pub imported_has : (ms : List Module) (m : Module) (i : Import) → Contains ms m → Contains m.imports i → Contains (imported ms) i.name
imported_has [] m i (k, lt, e) has = absurd (omega arith)
imported_has (n ∷ ms) m i (zero, lt, e) has =
    Contains-append_left (map (λ (j : Import). j.name) n.imports) (imported ms) i.name (subst (λ (x : Module). Contains (map (λ (j : Import). j.name) x.imports) i.name) (sym e) (map_in (λ (j : Import). j.name) m.imports i has))
imported_has (n ∷ ms) m i (suc k, lt, e) has = Contains-append_right (map (λ (j : Import). j.name) n.imports) (imported ms) i.name (imported_has ms m i (k, omega arith, e) has)

pub import_listed : (ms : List Module) (m : Module) (i : Import) → Contains ms m → Contains m.imports i → Contains (all_imports ms) i
import_listed [] m i (k, lt, e) has = absurd (omega arith)
import_listed (n ∷ ms) m i (zero, lt, e) has = Contains-append_left n.imports (all_imports ms) i (subst (λ (x : Module). Contains x.imports i) (sym e) has)
import_listed (n ∷ ms) m i (suc k, lt, e) has = Contains-append_right n.imports (all_imports ms) i (import_listed ms m i (k, omega arith, e) has)

pub import_back : (ms : List Module) (i : Import) → Contains (all_imports ms) i → (m : Module) × Contains ms m × Contains m.imports i
import_back [] i (k, lt, e) = absurd (omega arith)
import_back (n ∷ ms) i is = elim (Contains-append_cases n.imports (all_imports ms) i is) [
  | inl here ↦ (n, first_one n ms, here)
  | inr more ↦ let r = import_back ms i more in (r.0, later n ms r.0 r.1, r.2)
]

-- a name that is among others is one of them, by its bytes
among_one : (xs : List Name) (n : List ℕ) → is_among xs n ≡ true → (y : Name) × Contains xs y × (y.bytes ≡ n)
among_one [] n e = no e
among_one (x ∷ xs) n e = by (bytes_eq x.bytes n) refl e (among_one xs n)
  where
    by : (b : Bool) → bytes_eq x.bytes n ≡ b → (b || is_among xs n) ≡ true → (is_among xs n ≡ true → (y : Name) × Contains xs y × (y.bytes ≡ n)) → (y : Name) × Contains (x ∷ xs) y × (y.bytes ≡ n)
    by true is e more = (x, first_one x xs, bytes_eq_is x.bytes n is)
    by false is e more = let r = more e in (r.0, later x xs r.0 r.1, r.2)

module _ (fs : List Defined) where
  seen_stay : (seen ns : List Name) (y : Name) → Contains seen y → Contains (outside_names fs seen ns) y
  seen_stay seen [] y is = is
  seen_stay seen (n ∷ ns) y is = by (exports fs n.bytes || is_among seen n.bytes) (seen_stay seen ns y is) (seen_stay (seen ++ n ∷ []) ns y (Contains-append_left seen (n ∷ []) y is))
    where
      by : (b : Bool) → Contains (outside_names fs seen ns) y → Contains (outside_names fs (seen ++ n ∷ []) ns) y → Contains (outside_names fs (if b then seen else (seen ++ n ∷ [])) ns) y
      by true old new = old
      by false old new = new

  pub outside_has : (seen ns : List Name) (x : Name) → Contains ns x → exports fs x.bytes ≡ false → (y : Name) × Contains (outside_names fs seen ns) y × (y.bytes ≡ x.bytes)
  outside_has seen [] x (k, lt, e) none = absurd (omega arith)
  outside_has seen (n ∷ ns) x (zero, lt, e) none =
      by (exports fs n.bytes) (is_among seen n.bytes) (subst (λ (z : Name). exports fs z.bytes ≡ false) (sym e) none) refl
    where
      by : (a b : Bool) → a ≡ false → is_among seen n.bytes ≡ b → (y : Name) × Contains (outside_names fs (if a || b then seen else (seen ++ n ∷ [])) ns) y × (y.bytes ≡ x.bytes)
      by true b out is = no (sym out)
      by false true out is = let r = among_one seen n.bytes is in (r.0, seen_stay seen ns r.0 r.1, r.2 ∙ ap (λ (z : Name). z.bytes) e)
      by false false out is = (n, seen_stay (seen ++ n ∷ []) ns n (Contains-append_right seen (n ∷ []) n (first_one n [])), ap (λ (z : Name). z.bytes) e)
  outside_has seen (n ∷ ns) x (suc k, lt, e) none = outside_has (if exports fs n.bytes || is_among seen n.bytes then seen else (seen ++ n ∷ [])) ns x (k, omega arith, e) none

-- the import of an outside name is at the name's address
pub import_stands : (address : List ℕ → ℕ) (imports : List Import) (ns : List Name) (y : Name) (j : Import) → Contains ns y → find (λ (i : Import). bytes_eq i.name.bytes y.bytes) imports ≡ Some j
    → Contains (imports_at address imports ns) (record { address = address y.bytes; signature = j.signature.bytes })
import_stands address imports [] y j (k, lt, e) is = absurd (omega arith)
import_stands address imports (n ∷ ns) y j (zero, lt, e) is =
    subst (λ (z : Name). Contains (import_at address z (find (λ (i : Import). bytes_eq i.name.bytes z.bytes) imports) (imports_at address imports ns)) (record { address = address y.bytes; signature = j.signature.bytes })) (sym e)
    (subst (λ o. Contains (import_at address y o (imports_at address imports ns)) (record { address = address y.bytes; signature = j.signature.bytes })) (sym is) (first_one _ _))
import_stands address imports (n ∷ ns) y j (suc k, lt, e) is =
    behind (find (λ (i : Import). bytes_eq i.name.bytes n.bytes) imports) (import_stands address imports ns y j (k, omega arith, e) is)
  where
    behind : (o : Option Import) → Contains (imports_at address imports ns) (record { address = address y.bytes; signature = j.signature.bytes })
        → Contains (import_at address n o (imports_at address imports ns)) (record { address = address y.bytes; signature = j.signature.bytes })
    behind None is = is
    behind (Some i) is = later _ (imports_at address imports ns) _ is

-- addresses that are given are words, and so is 0
pub given_small : (given : List (Name × ℕ)) → ((g : Name × ℕ) → Contains given g → g.1 < 4294967296) → (x : List ℕ) → address_of (map import_label given) x < 4294967296
given_small [] words x = omega arith
given_small (g ∷ gs) words x = by (bytes_eq g.0.bytes x) (given_small gs (λ h is. words h (later g gs h is)) x)
  where
    by : (b : Bool) → address_of (map import_label gs) x < 4294967296 → cond b g.1 (address_of (map import_label gs) x) < 4294967296
    by true more = words g (first_one g gs)
    by false more = more
