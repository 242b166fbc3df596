-- Lists of faults, us loops go over the items of a list.
use Rattle.std.proofs.Common.{◌≡◌, ◌∙◌, sym, ap, refl, ℕ, suc, ◌+◌, ◌<◌, ◌≤◌, add-one, Bool, true, false, cond, List, [], ◌∷◌, ◌++◌, map, length, take, drop, get_or, Option, None, Some, drop-cons, drop_of_length-le, append-nil, bytes_eq, filter, Result, Ok, Err, OnOk, IfErr, ◌≢◌}
use Rattle.std.specs.Prelude.{option_map}
use Rattle.std.proofs.lemmas.List.{take_more, map-append}
use Rattle.bed_lang.specs.declared.word.Name.{Name}
use Rattle.bed_link.specs.declared.error.LinkError.{LinkError}
use Rattle.bed_link.specs.declared.error.LinkError.TheVariants.{Memory}
use Rattle.bed_link.specs.Faults.{refusal, each, each_after, differs_from, first_named, differing}

-- ---- one list after another

pub append_none : (xs ys : List LinkError) → xs ≡ [] → ys ≡ [] → xs ++ ys ≡ []
append_none xs ys e f = ap (λ l. l ++ ys) e ∙ f

pub refusal_first : (xs ys : List LinkError) (e : LinkError) → refusal xs ≡ Some e → refusal (xs ++ ys) ≡ Some e
refusal_first [] ys e h = cc
refusal_first (x ∷ xs) ys e h = h

pub refusal_later : (xs ys : List LinkError) (e : LinkError) → xs ≡ [] → refusal ys ≡ Some e → refusal (xs ++ ys) ≡ Some e
refusal_later xs ys e none h = ap (λ l. refusal (l ++ ys)) none ∙ h

pub split : {T : Type 0} (xs : List T) (i : ℕ) (x : T) → i < length xs → x ≡ get_or xs i x → drop i xs ≡ x ∷ drop (i + 1) xs
split xs i x lt is = rw add-one (drop-cons xs i x lt ∙ ap (λ y. y ∷ drop (suc i) xs) (sym is))

-- ---- results

pub accepted_map : {A : Type 0} (r : Result A LinkError) (P Q : Type 0) → (P → Q) → OnOk r P → OnOk r Q
accepted_map (Ok a) P Q f h = f h
accepted_map (Err e) P Q f h = tt

pub refused_map : {A : Type 0} (r : Result A LinkError) (us vs : List LinkError) → ((e : LinkError) → refusal us ≡ Some e → refusal vs ≡ Some e)
    → IfErr r (λ e. e ≢ Memory → refusal us ≡ Some e) → IfErr r (λ e. e ≢ Memory → refusal vs ≡ Some e)
refused_map (Ok a) us vs f h = tt
refused_map (Err e) us vs f h = λ no. f e (h no)

pub told_map : {A : Type 0} (r : Result A LinkError) (us vs : List LinkError) → ((e : LinkError) → refusal us ≡ Some e → refusal vs ≡ Some e)
    → IfErr r (λ e. refusal us ≡ Some e) → IfErr r (λ e. e ≢ Memory → refusal vs ≡ Some e)
told_map (Ok a) us vs f h = tt
told_map (Err e) us vs f h = λ no. f e h

-- ---- each item by itself

module _ {T : Type 0} (F : T → List LinkError) where
  pub each_split : (xs : List T) (i : ℕ) (x : T) → i < length xs → x ≡ get_or xs i x → each F (drop i xs) ≡ F x ++ each F (drop (i + 1) xs)
  each_split xs i x lt is = ap (each F) (split xs i x lt is)

  pub each_step : (xs : List T) (i : ℕ) (x : T) (whole : List LinkError) → i < length xs → x ≡ get_or xs i x → F x ≡ []
      → each F (drop i xs) ≡ whole → each F (drop (i + 1) xs) ≡ whole
  each_step xs i x whole lt is none h = ap (λ l. l ++ each F (drop (i + 1) xs)) (sym none) ∙ sym (each_split xs i x lt is) ∙ h

  pub each_refused : (xs : List T) (i : ℕ) (x : T) (whole : List LinkError) (e : LinkError) → i < length xs → x ≡ get_or xs i x
      → refusal (F x) ≡ Some e → each F (drop i xs) ≡ whole → refusal whole ≡ Some e
  each_refused xs i x whole e lt is r h =
      ap refusal (sym h ∙ each_split xs i x lt is) ∙ refusal_first (F x) (each F (drop (i + 1) xs)) e r

  pub each_end : (xs : List T) (i : ℕ) (whole : List LinkError) → length xs ≤ i → each F (drop i xs) ≡ whole → whole ≡ []
  each_end xs i whole le h = sym h ∙ ap (each F) (drop_of_length-le xs le)

pub mapped_step : {A T : Type 0} (g : A → T) (F : T → List LinkError) (xs : List A) (i : ℕ) (x : A) (whole : List LinkError) → i < length xs
    → x ≡ get_or xs i x → F (g x) ≡ [] → each F (map g (drop i xs)) ≡ whole → each F (map g (drop (i + 1) xs)) ≡ whole
mapped_step g F xs i x whole lt is none h =
    ap (λ l. l ++ each F (map g (drop (i + 1) xs))) (sym none) ∙ ap (λ l. each F (map g l)) (sym (split xs i x lt is)) ∙ h

pub mapped_refused : {A T : Type 0} (g : A → T) (F : T → List LinkError) (xs : List A) (i : ℕ) (x : A) (whole : List LinkError) (e : LinkError)
    → i < length xs → x ≡ get_or xs i x → refusal (F (g x)) ≡ Some e → each F (map g (drop i xs)) ≡ whole → refusal whole ≡ Some e
mapped_refused g F xs i x whole e lt is r h =
    ap refusal (sym h ∙ ap (λ l. each F (map g l)) (split xs i x lt is)) ∙ refusal_first (F (g x)) (each F (map g (drop (i + 1) xs))) e r

pub filtered_end : {A : Type 0} (p : A → Bool) (xs out whole : List A) (i : ℕ) → length xs ≤ i → out ++ filter p (drop i xs) ≡ whole → out ≡ whole
filtered_end p xs out whole i le h = sym (append-nil out) ∙ ap (λ l. out ++ filter p l) (sym (drop_of_length-le xs le)) ∙ h

pub each_same : {T : Type 0} (F G : T → List LinkError) (xs : List T) → ((x : T) → F x ≡ G x) → each F xs ≡ each G xs
each_same F G [] same = refl
each_same F G (x ∷ xs) same = ap (λ l. l ++ each F xs) (same x) ∙ ap (λ l. G x ++ l) (each_same F G xs same)

-- ---- each item beside those before it

module _ {T : Type 0} (F : List T → T → List LinkError) where
  pub after_split : (xs : List T) (i : ℕ) (x : T) → i < length xs → x ≡ get_or xs i x
      → each_after F (take i xs) (drop i xs) ≡ F (take i xs) x ++ each_after F (take (i + 1) xs) (drop (i + 1) xs)
  after_split xs i x lt is =
      let front : take (i + 1) xs ≡ take i xs ++ x ∷ [] = take_more xs i x lt ∙ ap (λ y. take i xs ++ y ∷ []) (sym is) in
      ap (each_after F (take i xs)) (split xs i x lt is) ∙ ap (λ l. F (take i xs) x ++ each_after F l (drop (i + 1) xs)) (sym front)

  pub after_step : (xs : List T) (i : ℕ) (x : T) (whole : List LinkError) → i < length xs → x ≡ get_or xs i x
      → F (take i xs) x ≡ [] → each_after F (take i xs) (drop i xs) ≡ whole → each_after F (take (i + 1) xs) (drop (i + 1) xs) ≡ whole
  after_step xs i x whole lt is none h =
      ap (λ l. l ++ each_after F (take (i + 1) xs) (drop (i + 1) xs)) (sym none) ∙ sym (after_split xs i x lt is) ∙ h

  pub after_refused : (xs : List T) (i : ℕ) (x : T) (whole : List LinkError) (e : LinkError) → i < length xs → x ≡ get_or xs i x
      → refusal (F (take i xs) x) ≡ Some e → each_after F (take i xs) (drop i xs) ≡ whole → refusal whole ≡ Some e
  after_refused xs i x whole e lt is r h =
      ap refusal (sym h ∙ after_split xs i x lt is)
      ∙ refusal_first (F (take i xs) x) (each_after F (take (i + 1) xs) (drop (i + 1) xs)) e r

  pub after_end : (xs : List T) (i : ℕ) (whole : List LinkError) → length xs ≤ i → each_after F (take i xs) (drop i xs) ≡ whole → whole ≡ []
  after_end xs i whole le h = sym h ∙ ap (each_after F (take i xs)) (drop_of_length-le xs le)

-- ---- items that differ, seen through a map

module _ {A B : Type 0} (g : A → B) (name_of : B → Name) (module_of : B → ℕ) (same : B → B → Bool) where
  abbrev name' : A → Name
  name' a = name_of (g a)

  abbrev module' : A → ℕ
  module' a = module_of (g a)

  abbrev same' : A → A → Bool
  same' a b = same (g a) (g b)

  found_step : (b : Bool) (a : A) (o : Option A) (p : Option B) → p ≡ option_map g o → cond b (Some (g a)) p ≡ option_map g (cond b (Some a) o)
  found_step true a o p e = refl
  found_step false a o p e = e

  first_mapped : (us : List A) (t : A) → first_named name_of module_of same (map g us) (g t) ≡ option_map g (first_named name' module' same' us t)
  first_mapped [] t = refl
  first_mapped (a ∷ us) t = found_step (bytes_eq (name' a).bytes (name' t).bytes) a _ _ (first_mapped us t)

  differs_mapped : (o : Option A) (t : A) → differs_from name_of module_of same (option_map g o) (g t) ≡ differs_from name' module' same' o t
  differs_mapped None t = refl
  differs_mapped (Some a) t = refl

  abbrev after' : List A → List A → List LinkError
  after' = each_after (λ before t. differs_from name' module' same' (first_named name' module' same' before t) t)

  abbrev after_in : List B → List B → List LinkError
  after_in = each_after (λ before t. differs_from name_of module_of same (first_named name_of module_of same before t) t)

  after_mapped : (before us : List A) → after_in (map g before) (map g us) ≡ after' before us
  after_mapped before [] = refl
  after_mapped before (a ∷ us) =
      ap (λ l. differs_from name_of module_of same (first_named name_of module_of same (map g before) (g a)) (g a) ++ after_in l (map g us))
      (sym (map-append g before (a ∷ [])))
      ∙ ap (λ l. differs_from name_of module_of same (first_named name_of module_of same (map g before) (g a)) (g a) ++ l)
      (after_mapped (before ++ a ∷ []) us)
      ∙ ap (λ l. l ++ after' (before ++ a ∷ []) us)
      (ap (λ o. differs_from name_of module_of same o (g a)) (first_mapped before a)
      ∙ differs_mapped (first_named name' module' same' before a) a)

  pub differing_mapped : (us : List A) → differing name_of module_of same (map g us) ≡ differing name' module' same' us
  differing_mapped us = after_mapped [] us
