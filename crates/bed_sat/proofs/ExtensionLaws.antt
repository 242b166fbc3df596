-- Declarations of one module among those of all: what holds under the ones holds under the others.
use Rattle.std.proofs.Common.{◌≡◌, ℕ, zero, suc, Bool, true, false, IsTrue, cond, Option, Some, None, is_some, List, [], ◌∷◌, ◌++◌, map, take, find, bytes_eq, slice_get, inl, inr, Contains, refl, sym, ◌∙◌, ap, ap₂, subst, arith}
use Rattle.std.specs.List.{list_all}
use Rattle.std.specs.Cmp.Lexicographic.{pointwise}
use Rattle.std.proofs.lemmas.Bool.{and_parts}
use Rattle.std.proofs.lemmas.List.Elements.{Contains-append_left, Contains-append_right, Contains-append_cases}
use Rattle.bed_machine.proofs.WordLaws.{some_same}
use Rattle.bed_machine.specs.Memory.{Memory}
use Rattle.bed_lang.specs.declared.word.Name.{Name}
use Rattle.bed_lang.specs.declared.logic.Atom.TheVariants as atom
use Rattle.bed_lang.specs.declared.logic.Term.{Term}
use Rattle.bed_lang.specs.declared.logic.Term.TheVariants as term
use Rattle.bed_lang.specs.declared.logic.Assertion.{Assertion}
use Rattle.bed_lang.specs.declared.module.Operand.{Operand}
use Rattle.bed_lang.specs.declared.module.Operand.TheVariants.{Number, Local, Label}
use Rattle.bed_lang.specs.declared.module.Signature.{Signature}
use Rattle.bed_lang.specs.declared.module.Predicate.{Predicate}
use Rattle.bed_lang.specs.declared.module.Module.{Module}
use Rattle.bed_lang.specs.declared.module.Action.{Action}
use Rattle.bed_lang.specs.declared.module.Action.TheVariants.{Assign, Compute, Load, LoadByte, Store, StoreByte, Assume}
use Rattle.bed_lang.specs.declared.condition.Decls.{Decls}
use Rattle.bed_lang.specs.declared.condition.Goal.{Goal}
use Rattle.bed_lang.specs.declared.condition.Goal.TheVariants.{Meets, Calls, Returns}
use Rattle.bed_lang.specs.declared.condition.Cond.{Cond}
use Rattle.bed_lang.specs.Prelude.{prelude}
use Rattle.bed_lang.specs.Declarations.{labels_of, declarations, all_signatures, all_predicates, all_labels, all_declarations}
use Rattle.bed_lang.specs.Lookups.{signature_named, predicate_named, second_of, label_signature, named_signature, function_signature, count_of_params}
use Rattle.bed_lang.specs.Same.{same_name, same_bind, same_assertion, same_signature, same_predicate}
use Rattle.bed_lang.specs.Values.{Values, Old, Answer, set_word}
use Rattle.bed_sat.specs.Assertions.{Meaning, blank, set_params, IsTrueTerm, AreTrueTerms, IsTrueWith, World, meaning, Holds}
use Rattle.bed_sat.specs.Frames.{set_words}
use Rattle.bed_sat.specs.Valid.{callee_name, operand_value, Does, After, CallHolds, GoalHolds, Starts, LabelsFit}
use Rattle.bed_sat.specs.Declarations.{KeepsPredicates, Extends, IsConsistent, term_known, assertion_known, signature_known, predicate_known, signatures_known, predicates_known}
use Rattle.bed_sat.specs.DeclarationLaws.{FewAreEnough, ConditionsStayValid, ModulesAreExtended}
use Rattle.bed_sat.proofs.FrameLaws.{bytes_eq_is}
use Rattle.bed_sat.proofs.SatLaws.{some_values_more}
use Rattle.bed_sat.proofs.SameLaws.{true_same, params_same, holds_same, holds_extends}
use Rattle.bed_sat.proofs.SignatureLaws.{names_long, names_set, SameParts, parts_of}

no : {A : Type 0} → ◌≡◌ {A = Bool} false true → A
no e = absurd cc

-- ---- look-ups

-- what is found is in the list and passes the test
pub found : {A : Type 0} (p : A → Bool) (xs : List A) (x : A) → find p xs ≡ Some x → Contains xs x × IsTrue (p x)
found p [] x e = absurd cc
found p (y ∷ xs) x e = by (p y) refl e (λ more. found p xs x more)
  where
    by : (b : Bool) → p y ≡ b → cond b (Some y) (find p xs) ≡ Some x → (find p xs ≡ Some x → Contains xs x × IsTrue (p x)) → Contains (y ∷ xs) x × IsTrue (p x)
    by true is e more = let same : y ≡ x = some_same e in ((0, omega arith, same), subst (λ z. IsTrue (p z)) same is)
    by false is e more = let r = more e in (Contains-append_right (y ∷ []) xs x r.0, r.1)

-- and something is found where an item passes
pub finds : {A : Type 0} (p : A → Bool) (xs : List A) (x : A) → Contains xs x → IsTrue (p x) → (y : A) × (find p xs ≡ Some y)
finds p [] x (k, lt, e) is = absurd (omega arith)
finds p (y ∷ xs) x (zero, lt, e) is = by (p y) refl
  where
    by : (b : Bool) → p y ≡ b → (z : _) × (cond b (Some y) (find p xs) ≡ Some z)
    by true at = (y, refl)
    by false at = no (sym at ∙ subst (λ z. IsTrue (p z)) (sym e) is)
finds p (y ∷ xs) x (suc k, lt, e) is = by (p y) (finds p xs x (k, omega arith, e) is)
  where
    by : (b : Bool) → (z : _) × (find p xs ≡ Some z) → (z : _) × (cond b (Some y) (find p xs) ≡ Some z)
    by true more = (y, refl)
    by false more = more

-- what all items pass each one does
pub passed : {A : Type 0} (f : A → Bool) (xs : List A) (x : A) → IsTrue (list_all f xs) → Contains xs x → IsTrue (f x)
passed f [] x all (k, lt, e) = absurd (omega arith)
passed f (y ∷ xs) x all (zero, lt, e) = subst (λ z. IsTrue (f z)) e (and_parts (f y) (list_all f xs) all).0
passed f (y ∷ xs) x all (suc k, lt, e) = passed f xs x (and_parts (f y) (list_all f xs) all).1 (k, omega arith, e)

passed_at : {A : Type 0} (f : A → Bool) (xs : List A) (n : ℕ) (x : A) → IsTrue (list_all f xs) → slice_get xs n ≡ Some x → IsTrue (f x)
passed_at f [] n x all at = absurd cc
passed_at f (y ∷ xs) zero x all at = subst (λ z. IsTrue (f z)) (some_same at) (and_parts (f y) (list_all f xs) all).0
passed_at f (y ∷ xs) (suc n) x all at = passed_at f xs n x (and_parts (f y) (list_all f xs) all).1 at

-- two names that are both found under one are the same
both_named : (x y n : List ℕ) → IsTrue (bytes_eq x n) → IsTrue (bytes_eq y n) → IsTrue (bytes_eq x y)
both_named x y n a b = subst (λ z. IsTrue (bytes_eq x z)) (sym (bytes_eq_is y n b)) a

-- ---- the declarations of a module are among those of all

pub signature_among : (ms : List Module) (m : Module) (S : Signature) → Contains ms m → Contains m.signatures S → Contains (all_signatures ms) S
signature_among [] m S (k, lt, e) h = absurd (omega arith)
signature_among (n ∷ ms) m S (zero, lt, e) h = Contains-append_left n.signatures (all_signatures ms) S (subst (λ k. Contains k.signatures S) (sym e) h)
signature_among (n ∷ ms) m S (suc k, lt, e) h = Contains-append_right n.signatures (all_signatures ms) S (signature_among ms m S (k, omega arith, e) h)

predicate_among : (ms : List Module) (m : Module) (p : Predicate) → Contains ms m → Contains m.predicates p → Contains (all_predicates ms) p
predicate_among [] m p (k, lt, e) h = absurd (omega arith)
predicate_among (n ∷ ms) m p (zero, lt, e) h = Contains-append_left n.predicates (all_predicates ms) p (subst (λ k. Contains k.predicates p) (sym e) h)
predicate_among (n ∷ ms) m p (suc k, lt, e) h = Contains-append_right n.predicates (all_predicates ms) p (predicate_among ms m p (k, omega arith, e) h)

pub label_among : (ms : List Module) (m : Module) (l : Name × Name) → Contains ms m → Contains (labels_of m) l → Contains (all_labels ms) l
label_among [] m l (k, lt, e) h = absurd (omega arith)
label_among (n ∷ ms) m l (zero, lt, e) h = Contains-append_left (labels_of n) (all_labels ms) l (subst (λ k. Contains (labels_of k) l) (sym e) h)
label_among (n ∷ ms) m l (suc k, lt, e) h = Contains-append_right (labels_of n) (all_labels ms) l (label_among ms m l (k, omega arith, e) h)

-- the prelude's are among those of all
declared_among : (ms : List Module) (m : Module) (p : Predicate) → Contains ms m → Contains (prelude ++ m.predicates) p → Contains (prelude ++ all_predicates ms) p
declared_among ms m p among h =
    elim (Contains-append_cases prelude m.predicates p h) [
      | inl own ↦ Contains-append_left prelude (all_predicates ms) p own
      | inr more ↦ Contains-append_right prelude (all_predicates ms) p (predicate_among ms m p among more)
    ]

-- the pair of a label's look-up
second : (o : Option (Name × Name)) (x : Name) → second_of o ≡ Some x → (l : Name × Name) × (o ≡ Some l) × (l.1 ≡ x)
second None x e = absurd cc
second (Some l) x e = (l, refl, some_same e)

module _ (ms : List Module) (m : Module) (among : Contains ms m) (one : IsConsistent (all_declarations ms)) where
  abbrev few : Decls
  few = declarations m

  abbrev more : Decls
  more = all_declarations ms

  predicates_kept : KeepsPredicates few more
  predicates_kept = record {
    keeps = λ name d e.
        let here = found (λ p. bytes_eq p.name.bytes name) few.predicates d e in
        let there = declared_among ms m d among here.0 in
        let other = finds (λ p. bytes_eq p.name.bytes name) more.predicates d there here.1 in
        let is = found (λ p. bytes_eq p.name.bytes name) more.predicates other.0 other.1 in
        (other.0, other.1, one.predicates d other.0 there is.0 (both_named d.name.bytes other.0.name.bytes name here.1 is.1));
  }

  pub module_extends : Extends few more
  module_extends = record {
    predicates = predicates_kept;
    signatures = λ name S e.
        let here = found (λ T. bytes_eq T.name.bytes name) few.signatures S e in
        let there = signature_among ms m S among here.0 in
        let other = finds (λ T. bytes_eq T.name.bytes name) more.signatures S there here.1 in
        let is = found (λ T. bytes_eq T.name.bytes name) more.signatures other.0 other.1 in
        (other.0, other.1, one.signatures S other.0 there is.0 (both_named S.name.bytes other.0.name.bytes name here.1 is.1));
    labels = λ f name e.
        let pair = second (find (λ l. bytes_eq l.0.bytes f) few.labels) name e in
        let here = found (λ l. bytes_eq l.0.bytes f) few.labels pair.0 pair.1 in
        let there = label_among ms m pair.0 among here.0 in
        let other = finds (λ l. bytes_eq l.0.bytes f) more.labels pair.0 there here.1 in
        let is = found (λ l. bytes_eq l.0.bytes f) more.labels other.0 other.1 in
        let same = one.labels pair.0 other.0 there is.0 (both_named pair.0.0.bytes other.0.0.bytes f here.1 is.1) in
        (other.0.1, ap second_of other.1, subst (λ x. IsTrue (same_name x other.0.1)) pair.2 same);
  }

pub modules_are_extended : ModulesAreExtended
modules_are_extended ms m among one = module_extends ms m among one

-- ---- truth under fewer declarations

-- the case at a place of the second list is the same as the first's
case_back : (As Bs : List Assertion) (n : ℕ) (B : Assertion) → IsTrue (pointwise same_assertion As Bs) → slice_get Bs n ≡ Some B
    → (A : Assertion) × (slice_get As n ≡ Some A) × IsTrue (same_assertion A B)
case_back [] [] n B is at = absurd cc
case_back [] (D ∷ Bs) n B is at = no is
case_back (C ∷ As) [] n B is at = no is
case_back (C ∷ As) (D ∷ Bs) zero B is at =
    let g = and_parts (same_assertion C D) _ is in
    (C, refl, subst (λ x. IsTrue (same_assertion C x)) (some_same at) g.0)
case_back (C ∷ As) (D ∷ Bs) (suc n) B is at = case_back As Bs n B (and_parts (same_assertion C D) _ is).1 at

-- what there is
there_is : {A : Type 0} (o : Option A) → IsTrue (is_some o) → (x : A) × (o ≡ Some x)
there_is None is = no is
there_is (Some x) is = (x, refl)

module _ (few more : Decls) (codes : ℕ → Option (List ℕ)) (labels : List ℕ → ℕ) where
  abbrev one : World
  one = record { decls = few; codes = codes; labels = labels }

  abbrev all : World
  all = record { decls = more; codes = codes; labels = labels }

  -- a meaning is within another for the predicates that the few declarations have
  abbrev KnownWithin : Meaning → Meaning → Type 0
  KnownWithin P Q = (name : List ℕ) (vs : _) (h : Memory) → IsTrue (is_some (predicate_named few name)) → P name vs h → Q name vs h

  term_fewer : (P Q : Meaning) → KnownWithin P Q → (ν : Values) (t : Term) (h : Memory) → IsTrue (term_known few t)
      → IsTrueTerm codes labels P ν t h → IsTrueTerm codes labels Q ν t h
  term_fewer P Q f ν term.Emp h known is = is
  term_fewer P Q f ν (term.Pure φ) h known is = is
  term_fewer P Q f ν (term.Atom (atom.Cell a v)) h known is = is
  term_fewer P Q f ν (term.Atom (atom.Byte a v)) h known is = is
  term_fewer P Q f ν (term.Atom (atom.Block a n)) h known is = is
  term_fewer P Q f ν (term.Atom (atom.Pred x args)) h known is = f x.bytes _ h known is

  terms_fewer : (P Q : Meaning) → KnownWithin P Q → (ν : Values) (ts : List Term) (h : Memory) → IsTrue (list_all (term_known few) ts)
      → AreTrueTerms codes labels P ν ts h → AreTrueTerms codes labels Q ν ts h
  terms_fewer P Q f ν [] h known is = is
  terms_fewer P Q f ν (t ∷ ts) h known is =
      let k = and_parts (term_known few t) (list_all (term_known few) ts) known in
      (is.0, is.1, is.2, term_fewer P Q f ν t is.0 k.0 is.3, terms_fewer P Q f ν ts is.1 k.1 is.4)

  true_fewer : (P Q : Meaning) → KnownWithin P Q → (ν : Values) (A : Assertion) (h : Memory) → IsTrue (assertion_known few A)
      → IsTrueWith codes labels P ν A h → IsTrueWith codes labels Q ν A h
  true_fewer P Q f ν A h known is = some_values_more A.binders ν _ _ (λ μ. terms_fewer P Q f μ A.terms h known) is

  module _ (x : KeepsPredicates few more) (closed : IsTrue (predicates_known few)) where
    meaning_fewer : (k : ℕ) → KnownWithin (meaning all k) (meaning one k)
    meaning_fewer zero p vs h known is = absurd is
    meaning_fewer (suc k) p vs h known is =
        let d = there_is (predicate_named few p) known in
        let e = x.keeps p d.0 d.1 in
        let same : IsTrue (same_predicate d.0 is.0) = subst (λ q. IsTrue (same_predicate d.0 q)) (some_same (sym e.1 ∙ is.1)) e.2 in
        let g = and_parts (same_name d.0.name is.0.name) _ same in
        let q = and_parts (pointwise same_bind d.0.params is.0.params) _ g.1 in
        let c = case_back d.0.cases is.0.cases is.2 is.3 q.1 is.4 in
        let own = passed (predicate_known few) few.predicates d.0 closed (found (λ r. bytes_eq r.name.bytes p) few.predicates d.0 d.1).0 in
        let known_case = passed_at (assertion_known few) d.0.cases is.2 c.0 own c.1 in (
          d.0,
          d.1,
          is.2,
          c.0,
          c.1,
          true_fewer _ _ (meaning_fewer k) (set_params blank d.0.params vs) c.0 h known_case
              ((true_same codes labels (meaning all k) (set_params blank d.0.params vs) c.0 is.3 h c.2).1
              (subst (λ μ. IsTrueWith codes labels (meaning all k) μ is.3 h) (sym (params_same blank d.0.params is.0.params vs q.0)) is.5)),
        )

    -- what holds under more declarations holds under the few, where these have each predicate that is named
    pub holds_fewer : (ν : Values) (h : Memory) (A : Assertion) → IsTrue (assertion_known few A) → Holds all ν h A → Holds one ν h A
    holds_fewer ν h A known is = (is.0, true_fewer _ _ (meaning_fewer is.0) ν A h known is.1)

pub few_are_enough : FewAreEnough
few_are_enough few more codes labels x closed ν h A known is = holds_fewer few more codes labels x closed ν h A known is

-- ---- validity

-- what follows from what holds after actions holds after them
does_more : (labels : List ℕ → ℕ) (a : Action) (P Q : Values → Memory → Type 0) → ((ν : Values) (h : Memory) → P ν h → Q ν h)
    → (ν : Values) (h : Memory) → Does labels a P ν h → Does labels a Q ν h
does_more labels (Assign x a) P Q f ν h is = f _ h is
does_more labels (Compute x op a b) P Q f ν h is = f _ h is
does_more labels (Load x p) P Q f ν h is = (is.0, is.1, f _ h is.2)
does_more labels (LoadByte x p) P Q f ν h is = (is.0, is.1, f _ h is.2)
does_more labels (Store p a) P Q f ν h is = (is.0, f ν _ is.1)
does_more labels (StoreByte p a) P Q f ν h is = (is.0, f ν _ is.1)
does_more labels (Assume t) P Q f ν h is = λ true'. f ν h (is true')

after_more : (labels : List ℕ → ℕ) (actions : List Action) (P Q : Values → Memory → Type 0) → ((ν : Values) (h : Memory) → P ν h → Q ν h)
    → (ν : Values) (h : Memory) → After labels actions P ν h → After labels actions Q ν h
after_more labels [] P Q f ν h is = f ν h is
after_more labels (a ∷ more) P Q f ν h is = does_more labels a (After labels more P) (After labels more Q) (after_more labels more P Q f) ν h is

-- a function's signature under more declarations is the same, if it has one under the few
abbrev Grows : Option Signature → Option Signature → Type 0
Grows None T = Unit {0}
Grows (Some S) None = ⊥
Grows (Some S) (Some T) = IsTrue (same_signature S T)

grows_to : (o n : Option Signature) → ((S : Signature) → o ≡ Some S → (T : Signature) × (n ≡ Some T) × IsTrue (same_signature S T)) → Grows o n
grows_to None n f = tt
grows_to (Some S) None f = let r = f S refl in absurd (let e : ◌≡◌ {A = Option Signature} None (Some r.0) = r.1 in cc)
grows_to (Some S) (Some T) f = let r = f S refl in subst (λ z. IsTrue (same_signature S z)) (sym (some_same r.1)) r.2

-- names that are the same have the same values
pub names_map : (g : List ℕ → ℕ) (xs ys : List Name) → IsTrue (pointwise same_name xs ys) → map (λ x. g x.bytes) xs ≡ map (λ x. g x.bytes) ys
names_map g [] [] is = refl
names_map g (x ∷ xs) (y ∷ ys) is =
    let h = and_parts (same_name x y) _ is in
    ap₂ (λ v vs. v ∷ vs) (ap g (bytes_eq_is x.bytes y.bytes h.0)) (names_map g xs ys h.1)
names_map g [] (y ∷ ys) is = no is
names_map g (x ∷ xs) [] is = no is

module _ (few more : Decls) (x : Extends few more) (closed : IsTrue (predicates_known few)) (signed : IsTrue (signatures_known few))
    (codes : ℕ → Option (List ℕ)) (labels : List ℕ → ℕ) where
  abbrev one_world : World
  one_world = record { decls = few; codes = codes; labels = labels }

  abbrev all_world : World
  all_world = record { decls = more; codes = codes; labels = labels }

  up : (ν : Values) (h : Memory) (A : Assertion) → Holds one_world ν h A → Holds all_world ν h A
  up = holds_extends few more x.predicates codes labels

  down : (ν : Values) (h : Memory) (A : Assertion) → IsTrue (assertion_known few A) → Holds all_world ν h A → Holds one_world ν h A
  down = holds_fewer few more codes labels x.predicates closed

  labels_fit : LabelsFit all_world → LabelsFit one_world
  labels_fit fit f name e =
      let other = x.labels f name e in
      fit f other.0 other.1 ∙ ap Some (sym (bytes_eq_is name.bytes other.0.bytes other.2))

  named_grows : (o n : Option Name) → ((a : Name) → o ≡ Some a → (b : Name) × (n ≡ Some b) × IsTrue (same_name a b))
      → Grows (named_signature few o) (named_signature more n)
  named_grows None n f = tt
  named_grows (Some a) n f =
      let r = f a refl in
      subst (λ z. Grows (signature_named few a.bytes) (named_signature more z)) (sym r.1)
      (subst (λ z. Grows (signature_named few a.bytes) (signature_named more z)) (bytes_eq_is a.bytes r.0.bytes r.2)
      (grows_to (signature_named few a.bytes) (signature_named more a.bytes) (x.signatures a.bytes)))

  signature_grows : (f : Name) → Grows (function_signature few f) (function_signature more f)
  signature_grows f = named_grows (label_signature few f.bytes) (label_signature more f.bytes) (x.labels f.bytes)

  callee_grows : (target : Operand) (via : Option Name) (name : Name) → callee_name few target via ≡ Some name
      → (other : Name) × (callee_name more target via ≡ Some other) × (name.bytes ≡ other.bytes)
  callee_grows target (Some v) name e = (name, e, refl)
  callee_grows (Label f) None name e = let r = x.labels f.bytes name e in (r.0, r.1, bytes_eq_is name.bytes r.0.bytes r.2)
  callee_grows (Number n) None name e = absurd cc
  callee_grows (Local y) None name e = absurd cc

  call_grows : (target : Operand) (via : Option Name) (args : List Operand) (into : Name) (after : Assertion) (ν : Values) (h : Memory)
      → CallHolds one_world target via args into after ν h → CallHolds all_world target via args into after ν h
  call_grows target via args into after ν h k =
      let n = callee_grows target via k.name k.named in
      let s = x.signatures k.name.bytes k.callee k.declared in
      let p : SameParts k.callee s.0 = parts_of k.callee s.0 s.2 in
      let own = passed (signature_known few) few.signatures k.callee signed (found (λ T. bytes_eq T.name.bytes k.name.bytes) few.signatures k.callee k.declared).0 in
      let post = (and_parts (assertion_known few k.callee.pre) (assertion_known few k.callee.post) own).1 in
      let words : List ℕ = map (operand_value labels ν) args in
      let set : set_words k.values k.callee.params words ≡ set_words k.values s.0.params words = names_set k.values k.callee.params s.0.params words p.params in
      record {
        name = n.0;
        callee = s.0;
        named = n.1;
        declared = subst (λ z. signature_named more z ≡ Some s.0) n.2 s.1;
        count = k.count ∙ names_long k.callee.params s.0.params p.params;
        code = k.code ∙ ap Some n.2;
        values = k.values;
        given = k.given;
        rest = k.rest;
        parts = k.parts;
        pre = subst (λ μ. Holds all_world μ k.given s.0.pre) set
            (holds_same all_world _ k.callee.pre s.0.pre k.given p.pre (up _ k.given k.callee.pre k.pre));
        goes_on = λ answer back whole small joins is.
            let μ : Values = set_word (set_words k.values k.callee.params words) Answer answer in
            let is' : Holds all_world μ back s.0.post = subst (λ κ. Holds all_world (set_word κ Answer answer) back s.0.post) (sym set) is in
            let under : Holds all_world μ back k.callee.post =
            (is'.0, (true_same codes labels (meaning all_world is'.0) μ k.callee.post s.0.post back p.post).1 is'.1) in
            up _ whole after (k.goes_on answer back whole small joins (down μ back k.callee.post post under));
      }

  goal_grows : (S T : Option Signature) → Grows S T → (goal : Goal) (ν : Values) (h : Memory) → GoalHolds one_world S goal ν h → GoalHolds all_world T goal ν h
  goal_grows None T g (Meets A) ν h is = up ν h A is
  goal_grows (Some S) T g (Meets A) ν h is = up ν h A is
  goal_grows None T g (Calls target via args into after) ν h is = call_grows target via args into after ν h is
  goal_grows (Some S) T g (Calls target via args into after) ν h is = call_grows target via args into after ν h is
  goal_grows None T g (Returns a) ν h is = absurd is
  goal_grows (Some S) None g (Returns a) ν h is = absurd g
  goal_grows (Some S) (Some T) g (Returns a) ν h is =
      let p : SameParts S T = parts_of S T g in
      let olds : List Name → List ℕ = λ xs. map (λ y. ν.words (Old y.bytes)) xs in
      let set : set_words ν S.params (olds S.params) ≡ set_words ν T.params (olds T.params) =
      names_set ν S.params T.params (olds S.params) p.params ∙ ap (set_words ν T.params) (names_map (λ b. ν.words (Old b)) S.params T.params p.params) in
      subst (λ μ. Holds all_world (set_word μ Answer (operand_value labels ν a)) h T.post) set
      (holds_same all_world _ S.post T.post h p.post (up _ h S.post is))

  -- an argument by the few declarations is one by all
  arguments_grow : (S T : Option Signature) → Grows S T → (locals : List Name) (y : Name) → Contains (take (count_of_params S) locals) y → Contains (take (count_of_params T) locals) y
  arguments_grow None T g locals y (k, lt, e) = absurd (omega (arith, lt))
  arguments_grow (Some S) None g locals y is = absurd g
  arguments_grow (Some S) (Some T) g locals y is =
      subst (λ n. Contains (take n locals) y) (names_long S.params T.params (parts_of S T g).params) is

  starts_shrink : (S T : Option Signature) → Grows S T → (c : Cond) → IsTrue (assertion_known few c.start) → (ν : Values) (h : Memory)
      → Starts all_world T c ν h → Starts one_world S c ν h
  starts_shrink S T g c known ν h is = record {
    holds = down ν h c.start known is.holds;
    entry = λ at y listed. is.entry at y (arguments_grow S T g c.locals y listed);
  }

pub conditions_stay_valid : ConditionsStayValid
conditions_stay_valid few more c x closed signed known valid = record {
  holds = λ codes labels fit ν h starts.
      let g = signature_grows few more x closed signed codes labels c.function in
      let S : Option Signature = function_signature few c.function in
      let T : Option Signature = function_signature more c.function in
      after_more labels c.actions _ _ (goal_grows few more x closed signed codes labels S T g c.goal) ν h
      (valid.holds codes labels (labels_fit few more x closed signed codes labels fit) ν h
      (starts_shrink few more x closed signed codes labels S T g c known ν h starts));
}
