-- Where no item of a list differs from the first of its name, items of one name are the same.
use Rattle.std.proofs.Common.{◌≡◌, ℕ, zero, suc, Bool, true, false, not, cond, Option, Some, None, List, [], ◌∷◌, ◌++◌, find, bytes_eq, inl, inr, ◌⊎◌, Contains, refl, sym, ◌∙◌, ap, subst, arith, append_assoc}
use Rattle.bed_machine.proofs.WordLaws.{some_same}
use Rattle.bed_lang.specs.declared.word.Name.{Name}
use Rattle.bed_sat.proofs.FrameLaws.{bytes_eq_same}
use Rattle.bed_sat.proofs.ExtensionLaws.{finds}
use Rattle.bed_link.specs.declared.error.LinkError.{LinkError}
use Rattle.bed_link.specs.Faults.{fault_if, each, each_after, differs_from, first_named, differing}
use Rattle.bed_fitting.proofs.EquivalenceLemmas.{Itself, Alike}

no : {A : Type 0} → ◌≡◌ {A = Bool} false true → A
no e = absurd cc

-- ---- no fault

pub nil_parts : {T : Type 0} (xs ys : List T) → xs ++ ys ≡ [] → (xs ≡ []) × (ys ≡ [])
nil_parts [] ys e = (refl, e)
nil_parts (x ∷ xs) ys e = absurd (cc)

pub not_so : (b : Bool) (e : LinkError) → fault_if b e ≡ [] → b ≡ false
not_so true e is = absurd (cc)
not_so false e is = refl

pub is_so : (b : Bool) (e : LinkError) → fault_if (not b) e ≡ [] → b ≡ true
is_so true e is = refl
is_so false e is = absurd (cc)

pub none_each : {T : Type 0} (f : T → List LinkError) (xs : List T) → each f xs ≡ [] → (x : T) → Contains xs x → f x ≡ []
none_each f [] e x (k, lt, is) = absurd (omega arith)
none_each f (y ∷ xs) e x (zero, lt, is) = subst (λ z. f z ≡ []) is (nil_parts (f y) (each f xs) e).0
none_each f (y ∷ xs) e x (suc k, lt, is) = none_each f xs (nil_parts (f y) (each f xs) e).1 x (k, omega arith, is)

-- ---- the first of a name

found_front : {T : Type 0} (p : T → Bool) (xs ys : List T) (x : T) → find p xs ≡ Some x → find p (xs ++ ys) ≡ Some x
found_front p [] ys x e = absurd (cc)
found_front p (z ∷ xs) ys x e = by (p z) e (found_front p xs ys x)
  where
    by : (b : Bool) → cond b (Some z) (find p xs) ≡ Some x → (find p xs ≡ Some x → find p (xs ++ ys) ≡ Some x) → cond b (Some z) (find p (xs ++ ys)) ≡ Some x
    by true e more = e
    by false e more = more e

found_back : {T : Type 0} (p : T → Bool) (xs ys : List T) → find p xs ≡ None → find p (xs ++ ys) ≡ find p ys
found_back p [] ys e = refl
found_back p (z ∷ xs) ys e = by (p z) e (found_back p xs ys)
  where
    by : (b : Bool) → cond b (Some z) (find p xs) ≡ None → (find p xs ≡ None → find p (xs ++ ys) ≡ find p ys) → cond b (Some z) (find p (xs ++ ys)) ≡ find p ys
    by true e more = absurd (cc)
    by false e more = more e

module _ {T : Type 0} (name_of : T → Name) (module_of : T → ℕ) (same : T → T → Bool) where
  abbrev named : T → T → Bool
  named t u = bytes_eq (name_of u).bytes (name_of t).bytes

  named_itself : (t : T) → named t t ≡ true
  named_itself t = bytes_eq_same (name_of t).bytes

  abbrev faults : List T → T → List LinkError
  faults before t = differs_from name_of module_of same (first_named name_of module_of same before t) t

  -- the first of an item's name is the item, or the same
  abbrev Follows : T → Option T → Type 0
  Follows t o = (first : T) → o ≡ Some first → (first ≡ t) ⊎ (same first t ≡ true)

  first_here : (before xs : List T) (x : T) (o : Option T) → find (named x) before ≡ o → differs_from name_of module_of same o x ≡ [] → Follows x (find (named x) (before ++ (x ∷ xs)))
  first_here before xs x (Some g) e none first is =
      let other : g ≡ first = some_same (sym (found_front (named x) before (x ∷ xs) g e) ∙ is) in
      inr (subst (λ z. same z x ≡ true) other (is_so (same g x) _ none))
  first_here before xs x None e none first is =
      let here : find (named x) (x ∷ xs) ≡ Some x = ap (λ b. cond b (Some x) (find (named x) xs)) (named_itself x) in
      inl (some_same (sym is ∙ found_back (named x) before (x ∷ xs) e ∙ here))

  agreeing : (before items : List T) → each_after faults before items ≡ [] → (t : T) → Contains items t → Follows t (find (named t) (before ++ items))
  agreeing before [] e t (k, lt, is) = absurd (omega arith)
  agreeing before (x ∷ xs) e t (zero, lt, is) =
      subst (λ z. Follows z (find (named z) (before ++ (x ∷ xs)))) is
      (first_here before xs x (find (named x) before) refl (nil_parts (faults before x) (each_after faults (before ++ x ∷ []) xs) e).0)
  agreeing before (x ∷ xs) e t (suc k, lt, is) =
      subst (λ l. Follows t (find (named t) l)) (append_assoc before (x ∷ []) xs)
      (agreeing (before ++ x ∷ []) xs (nil_parts (faults before x) (each_after faults (before ++ x ∷ []) xs) e).1 t (k, omega arith, is))

  -- two that the first is, or is the same as, are the same
  both : Itself same → Alike same → (first s t : T) → (first ≡ s) ⊎ (same first s ≡ true) → (first ≡ t) ⊎ (same first t ≡ true) → same s t ≡ true
  both itself alike first s t (inl a) (inl b) = subst (λ z. same z t ≡ true) a (subst (λ z. same first z ≡ true) b (itself first))
  both itself alike first s t (inl a) (inr b) = subst (λ z. same z t ≡ true) a b
  both itself alike first s t (inr a) (inl b) =
      subst (λ z. same s z ≡ true) b (sym (alike first s a first) ∙ itself first)
  both itself alike first s t (inr a) (inr b) = sym (alike first s a t) ∙ b

  pub all_agree : Itself same → Alike same → (items : List T) → differing name_of module_of same items ≡ [] → (s t : T) → Contains items s → Contains items t
      → (name_of s).bytes ≡ (name_of t).bytes → same s t ≡ true
  all_agree itself alike items e s t is it names =
      let first = finds (named s) items s is (named_itself s) in
      both itself alike first.0 s t (agreeing [] items e s is first.0 first.1)
      (agreeing [] items e t it first.0 (subst (λ n. find (λ u. bytes_eq (name_of u).bytes n) items ≡ Some first.0) names first.1))
