-- What modules that can be linked declare is consistent.
use Rattle.std.proofs.Common.{◌≡◌, ℕ, zero, suc, ◌+◌, Bool, true, false, not, ◌||◌, IsTrue, List, [], ◌∷◌, ◌++◌, map, filter, cond, bytes_eq, inl, inr, ◌⊎◌, Contains, refl, sym, ◌∙◌, ap, subst, arith}
use Rattle.std.proofs.lemmas.List.Elements.{Contains-append_left, Contains-append_right, Contains-append_cases}
use Rattle.bed_lang.specs.declared.word.Name.{Name}
use Rattle.bed_lang.specs.declared.module.Signature.{Signature}
use Rattle.bed_lang.specs.declared.module.Predicate.{Predicate}
use Rattle.bed_lang.specs.declared.module.Import.{Import}
use Rattle.bed_lang.specs.declared.module.Function.{Function}
use Rattle.bed_lang.specs.declared.module.Module.{Module}
use Rattle.bed_lang.specs.Declarations.{labels_of, all_signatures, all_predicates, all_labels, all_declarations}
use Rattle.bed_lang.specs.Prelude.{lseg, lst, prelude}
use Rattle.bed_lang.specs.Same.{same_name, same_signature, same_predicate}
use Rattle.bed_table.specs.Layout.{is_among}
use Rattle.bed_sat.specs.Declarations.{IsConsistent}
use Rattle.bed_sat.proofs.FrameLaws.{bytes_eq_is, bytes_eq_same}
use Rattle.bed_link.specs.declared.error.LinkError.{LinkError}
use Rattle.bed_link.specs.declared.error.LinkError.TheVariants.{Twice, Unresolved}
use Rattle.bed_link.specs.Parts.{parts_from, signatures, predicates, imports, functions, is_exported, Claim, claims, exported_claims, function_claim, import_claim}
use Rattle.bed_link.specs.Faults.{fault_if, each_after, differing}
use Rattle.bed_link.specs.Linkable.{module_names, function_names, exported_names, import_names, given_names, is_one_of, repeated, given_twice, twice_faults, missing, unresolved_faults, same_signature_part, same_predicate_part, same_claim, differs_faults, before_faults, IsLinkable}
use Rattle.bed_fitting.proofs.EquivalenceLemmas.{Itself, Alike, names_itself, names_alike, signatures_itself, signatures_alike, predicates_itself, predicates_alike}
use Rattle.bed_fitting.proofs.AgreementLemmas.{nil_parts, not_so, is_so, none_each, all_agree}

no : {A : Type 0} → ◌≡◌ {A = Bool} false true → A
no e = absurd cc

-- ---- lists

pub first_one : {A : Type 0} (x : A) (xs : List A) → Contains (x ∷ xs) x
first_one x xs = (0, omega arith, refl)

pub later : {A : Type 0} (x : A) (xs : List A) (y : A) → Contains xs y → Contains (x ∷ xs) y
later x xs y is = Contains-append_right (x ∷ []) xs y is

pub map_in : {A B : Type 0} (g : A → B) (xs : List A) (x : A) → Contains xs x → Contains (map g xs) (g x)
map_in g [] x (k, lt, e) = absurd (omega arith)
map_in g (y ∷ xs) x (zero, lt, e) = (0, omega arith, ap g e)
map_in g (y ∷ xs) x (suc k, lt, e) = later (g y) (map g xs) (g x) (map_in g xs x (k, omega arith, e))

pub map_back : {A B : Type 0} (g : A → B) (xs : List A) (y : B) → Contains (map g xs) y → (x : A) × Contains xs x × (g x ≡ y)
map_back g [] y (k, lt, e) = absurd (omega arith)
map_back g (x ∷ xs) y (zero, lt, e) = (x, (0, omega arith, refl), e)
map_back g (x ∷ xs) y (suc k, lt, e) = let r = map_back g xs y (k, omega arith, e) in (r.0, later x xs r.0 r.1, r.2)

filter_back : {A : Type 0} (p : A → Bool) (xs : List A) (x : A) → Contains (filter p xs) x → Contains xs x
filter_back p [] x (k, lt, e) = absurd (omega arith)
filter_back p (y ∷ xs) x is = kept (p y) is (filter_back p xs x)
  where
    kept : (b : Bool) → Contains (cond b (y ∷ filter p xs) (filter p xs)) x → (Contains (filter p xs) x → Contains xs x) → Contains (y ∷ xs) x
    kept true (zero, lt, e) more = (0, omega arith, e)
    kept true (suc k, lt, e) more = later y xs x (more (k, omega arith, e))
    kept false is more = later y xs x (more is)

-- ---- names

either : (a b : Bool) → (a || b) ≡ false → (a ≡ false) × (b ≡ false)
either true b e = no (sym e)
either false b e = (refl, e)

one_of : (a b : Bool) → (a || b) ≡ true → (a ≡ true) ⊎ (b ≡ true)
one_of true b e = inl refl
one_of false b e = inr e

among_append : (xs ys : List Name) (n : List ℕ) → is_among (xs ++ ys) n ≡ (is_among xs n || is_among ys n)
among_append [] ys n = refl
among_append (x ∷ xs) ys n = ap (λ b. bytes_eq x.bytes n || b) (among_append xs ys n) ∙ group (bytes_eq x.bytes n) (is_among xs n) (is_among ys n)
  where
    group : (a b c : Bool) → (a || (b || c)) ≡ ((a || b) || c)
    group true b c = refl
    group false b c = refl

among_has : {A : Type 0} (name : A → Name) (xs : List A) (n : List ℕ) → is_among (map name xs) n ≡ true → (x : A) × Contains xs x × ((name x).bytes ≡ n)
among_has name [] n e = no e
among_has name (x ∷ xs) n e = by (one_of (bytes_eq (name x).bytes n) (is_among (map name xs) n) e) (among_has name xs n)
  where
    by : (bytes_eq (name x).bytes n ≡ true) ⊎ (is_among (map name xs) n ≡ true) → (is_among (map name xs) n ≡ true → (y : _) × Contains xs y × ((name y).bytes ≡ n))
        → (y : _) × Contains (x ∷ xs) y × ((name y).bytes ≡ n)
    by (inl here) more = (x, first_one x xs, bytes_eq_is (name x).bytes n here)
    by (inr there) more = let r = more there in (r.0, later x xs r.0 r.1, r.2)

has_among : {A : Type 0} (name : A → Name) (xs : List A) (x : A) → Contains xs x → is_among (map name xs) (name x).bytes ≡ true
has_among name [] x (k, lt, e) = absurd (omega arith)
has_among name (y ∷ xs) x (zero, lt, e) = ap (λ b. b || is_among (map name xs) (name x).bytes) (subst (λ z. bytes_eq (name y).bytes (name z).bytes ≡ true) e (bytes_eq_same (name y).bytes))
has_among name (y ∷ xs) x (suc k, lt, e) = or_true (bytes_eq (name y).bytes (name x).bytes) _ (has_among name xs x (k, omega arith, e))
  where
    or_true : (a b : Bool) → b ≡ true → (a || b) ≡ true
    or_true true b e = refl
    or_true false b e = e

-- items of a list none of whose names is repeated
module _ {A : Type 0} (name : A → Name) where
  abbrev again : List Name → Name → List LinkError
  again before x = fault_if (is_one_of before x) (Twice x)

  new : (before : List Name) (xs : List A) → each_after again before (map name xs) ≡ [] → (x : A) → Contains xs x → is_among before (name x).bytes ≡ false
  new before [] e x (k, lt, is) = absurd (omega arith)
  new before (y ∷ xs) e x (zero, lt, is) =
      subst (λ z. is_among before (name z).bytes ≡ false) is (not_so (is_one_of before (name y)) _ (nil_parts (again before (name y)) (each_after again (before ++ name y ∷ []) (map name xs)) e).0)
  new before (y ∷ xs) e x (suc k, lt, is) =
      (either (is_among before (name x).bytes) (is_among (name y ∷ []) (name x).bytes)
      (sym (among_append before (name y ∷ []) (name x).bytes)
      ∙ new (before ++ name y ∷ []) xs (nil_parts (again before (name y)) (each_after again (before ++ name y ∷ []) (map name xs)) e).1 x (k, omega arith, is))).0

  apart : (before : List Name) (y : A) (xs : List A) → each_after again before (map name (y ∷ xs)) ≡ [] → (x : A) → Contains xs x → bytes_eq (name y).bytes (name x).bytes ≡ false
  apart before y xs e x is =
      let rest = (nil_parts (again before (name y)) (each_after again (before ++ name y ∷ []) (map name xs)) e).1 in
      let both = either (is_among before (name x).bytes) (is_among (name y ∷ []) (name x).bytes) (sym (among_append before (name y ∷ []) (name x).bytes) ∙ new (before ++ name y ∷ []) xs rest x is) in
      (either (bytes_eq (name y).bytes (name x).bytes) false both.1).0

  differ : (x y : A) → (name x).bytes ≡ (name y).bytes → bytes_eq (name x).bytes (name y).bytes ≡ false → ⊥
  differ x y e is = no (sym is ∙ subst (λ n. bytes_eq (name x).bytes n ≡ true) e (bytes_eq_same (name x).bytes))

  one_each : (before : List Name) (xs : List A) → each_after again before (map name xs) ≡ [] → (x y : A) → Contains xs x → Contains xs y → (name x).bytes ≡ (name y).bytes → x ≡ y
  one_each before [] e x y (k, lt, is) has names = absurd (omega arith)
  one_each before (z ∷ xs) e x y (zero, lt, is) (zero, lt2, is2) names = sym is ∙ is2
  one_each before (z ∷ xs) e x y (zero, lt, is) (suc k, lt2, is2) names =
      absurd (differ x y names (subst (λ u. bytes_eq (name u).bytes (name y).bytes ≡ false) is (apart before z xs e y (k, omega arith, is2))))
  one_each before (z ∷ xs) e x y (suc k, lt, is) (zero, lt2, is2) names =
      absurd (differ y x (sym names) (subst (λ u. bytes_eq (name u).bytes (name x).bytes ≡ false) is2 (apart before z xs e x (k, omega arith, is))))
  one_each before (z ∷ xs) e x y (suc k, lt, is) (suc j, lt2, is2) names =
      one_each (before ++ name z ∷ []) xs (nil_parts (again before (name z)) (each_after again (before ++ name z ∷ []) (map name xs)) e).1 x y (k, omega arith, is) (j, omega arith, is2) names

-- ---- what all modules declare, with the numbers of their modules

module _ {A : Type 0} (listed : Module → List A) where
  part_here : (k : ℕ) (m : Module) (ms : List Module) (x : A) → Contains (listed m) x → Contains (parts_from listed k (m ∷ ms)) (x, k)
  part_here k m ms x is = Contains-append_left (map (λ (t : A). (t, k)) (listed m)) (parts_from listed (k + 1) ms) (x, k) (map_in (λ (t : A). (t, k)) (listed m) x is)

  part_later : (k : ℕ) (m : Module) (ms : List Module) (p : A × ℕ) → Contains (parts_from listed (k + 1) ms) p → Contains (parts_from listed k (m ∷ ms)) p
  part_later k m ms p is = Contains-append_right (map (λ (t : A). (t, k)) (listed m)) (parts_from listed (k + 1) ms) p is

-- back from a part to its module
pub part_back : {A : Type 0} (listed : Module → List A) (k : ℕ) (ms : List Module) (x : A) (n : ℕ) → Contains (parts_from listed k ms) (x, n) → (m : Module) × Contains ms m × Contains (listed m) x
part_back listed k [] x n (j, lt, e) = absurd (omega arith)
part_back {A = A} listed k (m ∷ ms) x n is = elim (Contains-append_cases (map (λ (t : A). (t, k)) (listed m)) (parts_from listed (k + 1) ms) (x, n) is) [
  | inl own ↦ let r = map_back (λ (t : A). (t, k)) (listed m) (x, n) own in (m, first_one m ms, subst (λ (y : A). Contains (listed m) y) (ap (λ (q : A × ℕ). q.0) r.2) r.1)
  | inr more ↦ let r = part_back listed (k + 1) ms x n more in (r.0, later m ms r.0 r.1, r.2)
]

signature_part : (k : ℕ) (ms : List Module) (S : Signature) → Contains (all_signatures ms) S → (n : ℕ) × Contains (parts_from (λ m. m.signatures) k ms) (S, n)
signature_part k [] S (j, lt, e) = absurd (omega arith)
signature_part k (m ∷ ms) S is = elim (Contains-append_cases m.signatures (all_signatures ms) S is) [
  | inl own ↦ (k, part_here (λ n. n.signatures) k m ms S own)
  | inr more ↦ let r = signature_part (k + 1) ms S more in (r.0, part_later (λ n. n.signatures) k m ms (S, r.0) r.1)
]

predicate_part : (k : ℕ) (ms : List Module) (p : Predicate) → Contains (all_predicates ms) p → (n : ℕ) × Contains (parts_from (λ m. m.predicates) k ms) (p, n)
predicate_part k [] p (j, lt, e) = absurd (omega arith)
predicate_part k (m ∷ ms) p is = elim (Contains-append_cases m.predicates (all_predicates ms) p is) [
  | inl own ↦ (k, part_here (λ n. n.predicates) k m ms p own)
  | inr more ↦ let r = predicate_part (k + 1) ms p more in (r.0, part_later (λ n. n.predicates) k m ms (p, r.0) r.1)
]

-- a label is that of an import or of a function
pub data IsLabel (k : ℕ) (ms : List Module) (l : Name × Name) : Type 0 where
  of_import : (i : Import) (n : ℕ) → Contains (parts_from (λ m. m.imports) k ms) (i, n) → i.name ≡ l.0 → i.signature ≡ l.1 → IsLabel k ms l
  of_function : (f : Function) (n : ℕ) → Contains (parts_from (λ m. m.functions) k ms) (f, n) → f.name ≡ l.0 → f.signature ≡ l.1 → IsLabel k ms l

label_later : (k : ℕ) (m : Module) (ms : List Module) (l : Name × Name) → IsLabel (k + 1) ms l → IsLabel k (m ∷ ms) l
label_later k m ms l (of_import i n is a b) = of_import i n (part_later (λ x. x.imports) k m ms (i, n) is) a b
label_later k m ms l (of_function f n is a b) = of_function f n (part_later (λ x. x.functions) k m ms (f, n) is) a b

label_here : (k : ℕ) (m : Module) (ms : List Module) (l : Name × Name) → Contains (labels_of m) l → IsLabel k (m ∷ ms) l
label_here k m ms l is = elim (Contains-append_cases (map (λ (i : Import). (i.name, i.signature)) m.imports) (map (λ (f : Function). (f.name, f.signature)) m.functions) l is) [
  | inl own ↦
      let i = map_back (λ (i : Import). (i.name, i.signature)) m.imports l own in
      of_import i.0 k (part_here (λ x. x.imports) k m ms i.0 i.1) (ap (λ (p : Name × Name). p.0) i.2) (ap (λ (p : Name × Name). p.1) i.2)
  | inr own ↦
      let f = map_back (λ (f : Function). (f.name, f.signature)) m.functions l own in
      of_function f.0 k (part_here (λ x. x.functions) k m ms f.0 f.1) (ap (λ (p : Name × Name). p.0) f.2) (ap (λ (p : Name × Name). p.1) f.2)
]

pub label_part : (k : ℕ) (ms : List Module) (l : Name × Name) → Contains (all_labels ms) l → IsLabel k ms l
label_part k [] l (j, lt, e) = absurd (omega arith)
label_part k (m ∷ ms) l is = elim (Contains-append_cases (labels_of m) (all_labels ms) l is) [
  | inl own ↦ label_here k m ms l own
  | inr more ↦ label_later k m ms l (label_part (k + 1) ms l more)
]

-- ---- linkable modules

module _ (ms : List Module) (given : List (Name × ℕ)) (base : ℕ) (linkable : IsLinkable ms given base)
    (own : (p q : Predicate) → Contains prelude p → Contains (all_predicates ms) q → bytes_eq p.name.bytes q.name.bytes ≡ false) where
  abbrev twice : List LinkError
  twice = twice_faults (module_names ms) (function_names ms) (given_names given)

  abbrev unresolved : List LinkError
  unresolved = unresolved_faults (exported_names ms) (import_names ms) (given_names given)

  before : before_faults ms given base ≡ []
  before = (nil_parts (before_faults ms given base) _ linkable).0

  no_twice : twice ≡ []
  no_twice = (nil_parts twice _ before).0

  no_unresolved : unresolved ≡ []
  no_unresolved = (nil_parts unresolved _ (nil_parts twice _ before).1).0

  no_differs : differs_faults ms ≡ []
  no_differs = (nil_parts (differs_faults ms) _ (nil_parts unresolved _ (nil_parts twice _ before).1).1).0

  functions_once : repeated (function_names ms) ≡ []
  functions_once = (nil_parts (repeated (function_names ms)) _ (nil_parts (repeated (module_names ms)) _ no_twice).1).0

  not_given : given_twice (is_one_of (given_names given)) (function_names ms) ≡ []
  not_given = (nil_parts (repeated (given_names given)) _ (nil_parts (repeated (function_names ms)) _ (nil_parts (repeated (module_names ms)) _ no_twice).1).1).1

  one_function : (f g : Function × ℕ) → Contains (functions ms) f → Contains (functions ms) g → f.0.name.bytes ≡ g.0.name.bytes → f ≡ g
  one_function f g is it names = one_each (λ (h : Function × ℕ). h.0.name) [] (functions ms) functions_once f g is it names

  -- the claims: each import, and each function whose name is imported
  import_claimed : (i : Import × ℕ) → Contains (imports ms) i → Contains (claims ms) (import_claim i)
  import_claimed i is = Contains-append_right (exported_claims ms) (map import_claim (imports ms)) (import_claim i) (map_in import_claim (imports ms) i is)

  imported_claimed : (f : Function × ℕ) (i : Import × ℕ) → Contains (functions ms) f → Contains (imports ms) i → f.0.name.bytes ≡ i.0.name.bytes → Contains (claims ms) (function_claim f)
  imported_claimed f i is it names =
      let none = none_each (λ x. fault_if (not (is_one_of (exported_names ms) x || is_one_of (given_names given) x)) (Unresolved x)) (import_names ms)
      (nil_parts (missing (is_one_of (exported_names ms)) (is_one_of (given_names given)) (import_names ms)) _ no_unresolved).0 i.0.name (map_in (λ (j : Import × ℕ). j.0.name) (imports ms) i it) in
      by (one_of (is_one_of (exported_names ms) i.0.name) (is_one_of (given_names given) i.0.name) (is_so (is_one_of (exported_names ms) i.0.name || is_one_of (given_names given) i.0.name) _ none))
    where
      by : (is_one_of (exported_names ms) i.0.name ≡ true) ⊎ (is_one_of (given_names given) i.0.name ≡ true) → Contains (claims ms) (function_claim f)
      by (inl exported) =
          let c = among_has (λ (x : Claim). x.name) (exported_claims ms) i.0.name.bytes exported in
          let g = map_back function_claim (filter is_exported (functions ms)) c.0 c.1 in
          let same : g.0 ≡ f = one_function g.0 f (filter_back is_exported (functions ms) g.0 g.1) is (ap (λ (x : Claim). x.name.bytes) g.2 ∙ c.2 ∙ sym names) in
          Contains-append_left (exported_claims ms) (map import_claim (imports ms)) (function_claim f) (subst (λ x. Contains (exported_claims ms) x) (sym g.2 ∙ ap function_claim same) c.1)
      by (inr given_it) =
          let none = none_each (λ x. fault_if (is_one_of (given_names given) x) (Twice x)) (function_names ms) not_given f.0.name (map_in (λ (h : Function × ℕ). h.0.name) (functions ms) f is) in
          no (sym (not_so (is_one_of (given_names given) f.0.name) _ none) ∙ subst (λ n. is_among (given_names given) n ≡ true) (sym names) given_it)

  claims_itself : Itself same_claim
  claims_itself c = names_itself c.signature

  claims_alike : Alike same_claim
  claims_alike a b t c = names_alike a.signature b.signature t c.signature

  claims_agree : (a b : Claim) → Contains (claims ms) a → Contains (claims ms) b → a.name.bytes ≡ b.name.bytes → same_name a.signature b.signature ≡ true
  claims_agree = all_agree (λ (c : Claim). c.name) (λ (c : Claim). c.«module») same_claim claims_itself claims_alike (claims ms) (nil_parts (differing (λ (p : Predicate × ℕ). p.0.name) (λ p. p.1) same_predicate_part (predicates ms)) _ (nil_parts (differing (λ (s : Signature × ℕ). s.0.name) (λ s. s.1) same_signature_part (signatures ms)) _ no_differs).1).1

  signatures_agree : (S T : Signature) → Contains (all_signatures ms) S → Contains (all_signatures ms) T → IsTrue (same_name S.name T.name) → IsTrue (same_signature S T)
  signatures_agree S T is it names =
      let s = signature_part 0 ms S is in
      let t = signature_part 0 ms T it in
      all_agree (λ (x : Signature × ℕ). x.0.name) (λ x. x.1) same_signature_part (λ x. signatures_itself x.0) (λ a b e c. signatures_alike a.0 b.0 e c.0) (signatures ms)
      (nil_parts (differing (λ (x : Signature × ℕ). x.0.name) (λ x. x.1) same_signature_part (signatures ms)) _ no_differs).0 (S, s.0) (T, t.0) s.1 t.1 (bytes_eq_is S.name.bytes T.name.bytes names)

  own_agree : (p q : Predicate) → Contains (all_predicates ms) p → Contains (all_predicates ms) q → IsTrue (same_name p.name q.name) → IsTrue (same_predicate p q)
  own_agree p q is it names =
      let s = predicate_part 0 ms p is in
      let t = predicate_part 0 ms q it in
      all_agree (λ (x : Predicate × ℕ). x.0.name) (λ x. x.1) same_predicate_part (λ x. predicates_itself x.0) (λ a b e c. predicates_alike a.0 b.0 e c.0) (predicates ms)
      (nil_parts (differing (λ (x : Predicate × ℕ). x.0.name) (λ x. x.1) same_predicate_part (predicates ms)) _ (nil_parts (differing (λ (x : Signature × ℕ). x.0.name) (λ x. x.1) same_signature_part (signatures ms)) _ no_differs).1).0
      (p, s.0) (q, t.0) s.1 t.1 (bytes_eq_is p.name.bytes q.name.bytes names)

  prelude_agrees : (p q : Predicate) → Contains prelude p → Contains prelude q → IsTrue (same_name p.name q.name) → IsTrue (same_predicate p q)
  prelude_agrees p q (zero, lt, e) (zero, lt2, e2) names = subst (λ z. same_predicate z q ≡ true) e (subst (λ z. same_predicate lseg z ≡ true) e2 (predicates_itself lseg))
  prelude_agrees p q (zero, lt, e) (suc zero, lt2, e2) names = no (subst (λ z. same_name lseg.name z.name ≡ true) (sym e2) (subst (λ z. same_name z.name q.name ≡ true) (sym e) names))
  prelude_agrees p q (suc zero, lt, e) (zero, lt2, e2) names = no (subst (λ z. same_name lst.name z.name ≡ true) (sym e2) (subst (λ z. same_name z.name q.name ≡ true) (sym e) names))
  prelude_agrees p q (suc zero, lt, e) (suc zero, lt2, e2) names = subst (λ z. same_predicate z q ≡ true) e (subst (λ z. same_predicate lst z ≡ true) e2 (predicates_itself lst))
  prelude_agrees p q (suc (suc k), lt, e) is names = absurd (omega arith)
  prelude_agrees p q (zero, lt0, e0) (suc (suc k), lt, e) names = absurd (omega arith)
  prelude_agrees p q (suc zero, lt0, e0) (suc (suc k), lt, e) names = absurd (omega arith)

  predicates_agree : (p q : Predicate) → Contains (prelude ++ all_predicates ms) p → Contains (prelude ++ all_predicates ms) q → IsTrue (same_name p.name q.name) → IsTrue (same_predicate p q)
  predicates_agree p q is it names = by (Contains-append_cases prelude (all_predicates ms) p is) (Contains-append_cases prelude (all_predicates ms) q it)
    where
      by : Contains prelude p ⊎ Contains (all_predicates ms) p → Contains prelude q ⊎ Contains (all_predicates ms) q → IsTrue (same_predicate p q)
      by (inl a) (inl b) = prelude_agrees p q a b names
      by (inl a) (inr b) = no (sym (own p q a b) ∙ names)
      by (inr a) (inl b) = no (sym (own q p b a) ∙ subst (λ n. bytes_eq n p.name.bytes ≡ true) (bytes_eq_is p.name.bytes q.name.bytes names) (bytes_eq_same p.name.bytes))
      by (inr a) (inr b) = own_agree p q a b names

  labels_agree : (k l : Name × Name) → IsLabel 0 ms k → IsLabel 0 ms l → k.0.bytes ≡ l.0.bytes → same_name k.1 l.1 ≡ true
  labels_agree k l (of_import i n is a b) (of_import j m it c d) names =
      subst (λ z. same_name z l.1 ≡ true) b (subst (λ z. same_name i.signature z ≡ true) d
      (claims_agree (import_claim (i, n)) (import_claim (j, m)) (import_claimed (i, n) is) (import_claimed (j, m) it) (ap (λ (x : Name). x.bytes) a ∙ names ∙ ap (λ (x : Name). x.bytes) (sym c))))
  labels_agree k l (of_import i n is a b) (of_function g m it c d) names =
      let e : i.name.bytes ≡ g.name.bytes = ap (λ (x : Name). x.bytes) a ∙ names ∙ ap (λ (x : Name). x.bytes) (sym c) in
      subst (λ z. same_name z l.1 ≡ true) b (subst (λ z. same_name i.signature z ≡ true) d
      (claims_agree (import_claim (i, n)) (function_claim (g, m)) (import_claimed (i, n) is) (imported_claimed (g, m) (i, n) it is (sym e)) e))
  labels_agree k l (of_function f n is a b) (of_import j m it c d) names =
      let e : f.name.bytes ≡ j.name.bytes = ap (λ (x : Name). x.bytes) a ∙ names ∙ ap (λ (x : Name). x.bytes) (sym c) in
      subst (λ z. same_name z l.1 ≡ true) b (subst (λ z. same_name f.signature z ≡ true) d
      (claims_agree (function_claim (f, n)) (import_claim (j, m)) (imported_claimed (f, n) (j, m) is it e) (import_claimed (j, m) it) e))
  labels_agree k l (of_function f n is a b) (of_function g m it c d) names =
      let e : f.name.bytes ≡ g.name.bytes = ap (λ (x : Name). x.bytes) a ∙ names ∙ ap (λ (x : Name). x.bytes) (sym c) in
      let same : (f, n) ≡ (g, m) = one_function (f, n) (g, m) is it e in
      subst (λ z. same_name z l.1 ≡ true) b (subst (λ z. same_name f.signature z ≡ true) d
      (subst (λ (x : Function × ℕ). same_name f.signature x.0.signature ≡ true) same (names_itself f.signature)))

  pub consistent : IsConsistent (all_declarations ms)
  consistent = record {
    signatures = signatures_agree;
    predicates = predicates_agree;
    labels = λ k l is it names. labels_agree k l (label_part 0 ms k is) (label_part 0 ms l it) (bytes_eq_is k.0.bytes l.0.bytes names);
  }
