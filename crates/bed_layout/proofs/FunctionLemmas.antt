-- Functions over all items of code.
use Rattle.std.proofs.Common.{◌≡◌, ℕ, zero, suc, ◌+◌, ◌-◌, ◌<◌, ◌≤◌, Option, Some, List, [], ◌∷◌, ◌++◌, map, drop, get_or, length, slice_get, Contains, inl, inr, ◌⊎◌, sym, ◌∙◌, ap, ap₂, subst, arith, add-one}
use Rattle.std.proofs.Math.Seq.{drop-cons}
use Rattle.std.proofs.lemmas.List.Elements.{Contains-append_cases}
use Rattle.bed_lang.specs.Numbers.{wrap}
use Rattle.bed_il.specs.declared.blocks.Block.{Block}
use Rattle.bed_il.specs.Places.{blocks_size}
use Rattle.bed_layout.specs.Layered.{functions_in}

pub cons_at : {A : Type 0} (xs : List A) (k : ℕ) (x : A) → k < length xs → x ≡ get_or xs k x → drop k xs ≡ x ∷ drop (k + 1) xs
cons_at xs k x lt is = drop-cons xs k x lt ∙ ap₂ (λ y n. y ∷ drop n xs) (sym is) (sym (add-one k))

-- an element of the first of two lists, and one of the second
get_front : {A : Type 0} (xs ys : List A) (i : ℕ) (x : A) → i < length xs → x ≡ get_or xs i x → slice_get (xs ++ ys) i ≡ Some x
get_front [] ys i x lt is = absurd (omega arith)
get_front (y ∷ xs) ys zero x lt is = ap Some (sym is)
get_front (y ∷ xs) ys (suc i) x lt is = get_front xs ys i x (omega arith) is

get_back : {A : Type 0} (xs ys : List A) (i j : ℕ) → i ≡ length xs + j → slice_get (xs ++ ys) i ≡ slice_get ys j
get_back [] ys i j e = let same : i ≡ j = omega arith in ap (slice_get ys) same
get_back (x ∷ xs) ys zero j e = absurd (omega arith)
get_back (x ∷ xs) ys (suc i) j e = get_back xs ys i j (omega arith)

module _ {M : Type 0} (each : M → List (List Block)) (code : List M) (k : ℕ) (m : M) (lt : k < length code) (is : m ≡ get_or code k m) where
  cons_all : functions_in (map each (drop k code)) ≡ each m ++ functions_in (map each (drop (k + 1) code))
  cons_all = ap (λ l. functions_in (map each l)) (cons_at code k m lt is)

  pub found_here : (functions : List (List Block)) (left : ℕ) (o : Option (List Block)) (B : List Block) → functions ≡ each m → left < length functions → B ≡ get_or functions left B
      → slice_get (functions_in (map each (drop k code))) left ≡ o → Some B ≡ o
  found_here functions left o B here less at before =
      sym (get_front functions (functions_in (map each (drop (k + 1) code))) left B less at) ∙ ap (λ l. slice_get (l ++ functions_in (map each (drop (k + 1) code))) left) here
      ∙ sym (ap (λ l. slice_get l left) cons_all) ∙ before

  pub found_later : (functions : List (List Block)) (left after : ℕ) (o : Option (List Block)) → functions ≡ each m → length functions ≤ left → after ≡ left - length functions
      → slice_get (functions_in (map each (drop k code))) left ≡ o → slice_get (functions_in (map each (drop (k + 1) code))) after ≡ o
  found_later functions left after o here less after_is before =
      let sum : left ≡ length (each m) + after = (let n = ap length here in omega arith) in
      sym (get_back (each m) (functions_in (map each (drop (k + 1) code))) left after sum) ∙ sym (ap (λ l. slice_get l left) cons_all) ∙ before

  -- the functions of one more item are at most as long
  pub longest_more : (functions : List (List Block)) (before after : ℕ) (B : List Block) → functions ≡ each m → before ≤ after → ((C : List Block) → Contains functions C → wrap (blocks_size C) ≤ after)
      → (wrap (blocks_size B) ≤ before) ⊎ Contains (functions_in (map each (drop k code))) B → (wrap (blocks_size B) ≤ after) ⊎ Contains (functions_in (map each (drop (k + 1) code))) B
  longest_more functions before after B here le all (inl less) = inl (omega arith)
  longest_more functions before after B here le all (inr there) = elim (Contains-append_cases (each m) (functions_in (map each (drop (k + 1) code))) B (subst (λ l. Contains l B) cons_all there)) [
    | inl p ↦ inl (all B (subst (λ l. Contains l B) (sym here) p))
    | inr p ↦ inr p
  ]

-- of one function more
pub longer : (functions : List (List Block)) (k : ℕ) (C : List Block) (before after size : ℕ) (B : List Block) → k < length functions → C ≡ get_or functions k C → size ≡ wrap (blocks_size C) → before ≤ after → size ≤ after
    → (wrap (blocks_size B) ≤ before) ⊎ Contains (drop k functions) B → (wrap (blocks_size B) ≤ after) ⊎ Contains (drop (k + 1) functions) B
longer functions k C before after size B lt is size_is le le2 (inl less) = inl (omega arith)
longer functions k C before after size B lt is size_is le le2 (inr there) = by_number (subst (λ l. Contains l B) (cons_at functions k C lt is) there)
  where
    by_number : Contains (C ∷ drop (k + 1) functions) B → (wrap (blocks_size B) ≤ after) ⊎ Contains (drop (k + 1) functions) B
    by_number (zero, less, e) = inl (let same : wrap (blocks_size C) ≡ wrap (blocks_size B) = ap (λ D. wrap (blocks_size D)) e in omega arith)
    by_number (suc j, less, e) = inr (j, omega arith, e)

pub not_there : {A : Type 0} (xs : List A) (k : ℕ) (x : A) → length xs ≤ k → Contains (drop k xs) x → ⊥
not_there [] zero x le is = let lt = is.1 in omega arith
not_there [] (suc k) x le is = let lt = is.1 in omega arith
not_there (y ∷ xs) zero x le is = omega arith
not_there (y ∷ xs) (suc k) x le is = not_there xs k x (omega arith) is

pub all_done : {M : Type 0} (each : M → List (List Block)) (code : List M) (k : ℕ) (B : List Block) → length code ≤ k → Contains (functions_in (map each (drop k code))) B → ⊥
all_done each [] zero B le is = let lt = is.1 in omega arith
all_done each [] (suc k) B le is = let lt = is.1 in omega arith
all_done each (m ∷ code) zero B le is = omega arith
all_done each (m ∷ code) (suc k) B le is = all_done each code k B (omega arith) is
