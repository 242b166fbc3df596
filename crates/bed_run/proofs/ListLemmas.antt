-- Lists where one element is called, and hosts by their addresses.
use Rattle.std.proofs.Common.{◌≡◌, ℕ, zero, suc, ◌-◌, ◌<◌, ◌≤◌, ◌⊎◌, inl, inr, List, [], ◌∷◌, ◌++◌, length, map, drop, slice_set, Bool, true, false, nat_eq, if◌then◌else◌, Option, None, Some, refl, sym, ap, subst, ◌∙◌, arith, length-append, length-drop}
use Rattle.std.proofs.Math.Seq.{map-set_same}
use Rattle.std.proofs.lemmas.Bool.{eqb-true, cases_lt}
use Rattle.std.proofs.lemmas.List.{map-set, drop-append-le, append-nil, length-map}
use Rattle.std.proofs.lemmas.List.Elements.{All-head, All-tail}
use Rattle.std.proofs.lemmas.Option.{slice_get-map, slice_get_read}
use Rattle.std.specs.List.{All, slice_get, slice_index_or}
use Rattle.std.specs.Option.{option_map}
use Rattle.circular_buffer.specs.Buffer.{keep_last}
use Rattle.bed_run.specs.Hosted.{host_at}

some_same : {X : Type 0} (x y : X) → Some x ≡ Some y → x ≡ y
some_same x y e = cc

-- an element that all have to be like is like that
pub all_at : {X : Type 0} (P : X → Type 0) (xs : List X) (i : ℕ) (x : X) → slice_get xs i ≡ Some x → All P xs → P x
all_at P [] i x e all = absurd cc
all_at P (y ∷ ys) zero x e all = subst P (some_same y x e) (All-head P y ys all)
all_at P (y ∷ ys) (suc i) x e all = all_at P ys i x e (All-tail P y ys all)

pub within_has : {X : Type 0} (xs : List X) (i : ℕ) → i < length xs → (x : X) × (slice_get xs i ≡ Some x)
within_has [] i within = absurd (omega (arith, within))
within_has (x ∷ xs) zero within = (x, refl)
within_has (x ∷ xs) (suc i) within = within_has xs i (omega (arith, within))

pub within_map : {A B : Type 0} (view : A → B) (xs : List A) (i : ℕ) → i < length xs → i < length (map view xs)
within_map view xs i within = subst (λ n. i < n) (sym (length-map xs view)) within

pub within_same : {A B : Type 0} (view : A → B) (xs ys : List A) (i : ℕ) → length (map view xs) ≡ length (map view ys) → i < length ys → i < length xs
within_same view xs ys i e within = subst (λ n. i < n) (sym (length-map ys view) ∙ (sym e ∙ length-map xs view)) within

-- a list of boxes is seen by what each holds
module _ {A B : Type 0} (view : A → B) where
  pub seen_at : (xs : List A) (i : ℕ) (x : A) (h : B) → i < length xs → x ≡ slice_index_or xs i x → slice_get (map view xs) i ≡ Some h → h ≡ view x
  seen_at xs i x h within is e =
      let got : slice_get (map view xs) i ≡ Some (view x) = slice_get-map view xs i ∙ ap (option_map view) (slice_get_read xs (length xs) i x refl within is) in
      some_same h (view x) (sym e ∙ got)

  pub seen_host : (xs : List A) (i : ℕ) (x : A) → i < length xs → x ≡ slice_index_or xs i x → slice_get (map view xs) i ≡ Some (view x)
  seen_host xs i x within is = slice_get-map view xs i ∙ ap (option_map view) (slice_get_read xs (length xs) i x refl within is)

  pub left_alone : (xs : List A) (i : ℕ) (x y : A) → i < length xs → x ≡ slice_index_or xs i x → view y ≡ view x → map view (slice_set xs i y) ≡ map view xs
  left_alone xs i x y within is same = map-set_same view xs i y x (same ∙ ap view is)

  pub seen_set : (xs : List A) (i : ℕ) (y : A) (h : B) → view y ≡ h → map view (slice_set xs i y) ≡ slice_set (map view xs) i h
  seen_set xs i y h e = map-set view xs i y ∙ ap (slice_set (map view xs) i) e

-- the host at an address: its pair is among those outside
if_pair : (t : Bool) (a b n : ℕ) (o : Option ℕ) → nat_eq a b ≡ t → (if t then Some n else o) ≡ o ⊎ ((a ≡ b) × ((if t then Some n else o) ≡ Some n))
if_pair true a b n o is = inr (eqb-true a b is, refl)
if_pair false a b n o is = inl refl

pub none_at : (P : ℕ → Type 0) (pairs : List (ℕ × ℕ)) (a : ℕ) → All (λ pair. P pair.0 → ⊥) pairs → P a → host_at pairs a ≡ None
none_at P [] a apart p = refl
none_at P (pair ∷ pairs) a apart p =
    elim (if_pair (nat_eq pair.0 a) pair.0 a pair.1 (host_at pairs a) refl) [
      | inl other ↦ other ∙ none_at P pairs a (All-tail (λ q. P q.0 → ⊥) pair pairs apart) p
      | inr here ↦ absurd (All-head (λ q. P q.0 → ⊥) pair pairs apart (subst P (sym here.0) p))
    ]

pub number_within : (n : ℕ) (pairs : List (ℕ × ℕ)) (a k : ℕ) → All (λ pair. pair.1 < n) pairs → host_at pairs a ≡ Some k → k < n
number_within n [] a k small e = absurd cc
number_within n (pair ∷ pairs) a k small e =
    elim (if_pair (nat_eq pair.0 a) pair.0 a pair.1 (host_at pairs a) refl) [
      | inl other ↦ number_within n pairs a k (All-tail (λ q. q.1 < n) pair pairs small) (sym other ∙ e)
      | inr here ↦ subst (λ m. m < n) (some_same pair.1 k (sym here.1 ∙ e)) (All-head (λ q. q.1 < n) pair pairs small)
    ]

-- what a ring keeps, where one more address comes
drop_one : (k : ℕ) (xs : List ℕ) → drop 1 (drop k xs) ≡ drop (suc k) xs
drop_one zero xs = refl
drop_one (suc k) [] = refl
drop_one (suc k) (x ∷ xs) = drop_one k xs

kept_short : (n : ℕ) (xs : List ℕ) → length xs ≤ n → keep_last n xs ≡ xs
kept_short n xs few = let none : length xs - n ≡ 0 = omega arith in rw none refl

kept_full : (n : ℕ) (xs : List ℕ) (y : ℕ) → n ≤ length xs → keep_last n (keep_last n xs ++ y ∷ []) ≡ keep_last n (xs ++ y ∷ [])
kept_full n xs y many =
    let k : ℕ = length xs - n in
    let short : length (drop k xs ++ y ∷ []) - n ≡ 1 = omega (arith, many, length-append (drop k xs) (y ∷ []), length-drop k xs) in
    let long : length (xs ++ y ∷ []) - n ≡ suc k = omega (arith, many, length-append xs (y ∷ [])) in
    let joined : drop k (xs ++ y ∷ []) ≡ drop k xs ++ y ∷ [] = drop-append-le k xs (y ∷ []) (omega arith) in
    ap (λ m. drop m (drop k xs ++ y ∷ [])) short ∙ (ap (drop 1) (sym joined) ∙ (drop_one k (xs ++ y ∷ []) ∙ ap (λ m. drop m (xs ++ y ∷ [])) (sym long)))

pub kept_more : (n : ℕ) (xs : List ℕ) (y : ℕ) → keep_last n (keep_last n xs ++ y ∷ []) ≡ keep_last n (xs ++ y ∷ [])
kept_more n xs y = elim (cases_lt (length xs) n) [
  | inr many ↦ kept_full n xs y many
  | inl few ↦ ap (λ l. keep_last n (l ++ y ∷ [])) (kept_short n xs (omega (arith, few)))
]

pub kept_all : (n : ℕ) (xs : List ℕ) → length xs ≤ n → xs ≡ keep_last n (xs ++ [])
kept_all n xs few = sym (ap (keep_last n) (append-nil xs) ∙ kept_short n xs few)

-- elements of joined lists
pub get_front : {X : Type 0} (xs ys : List X) (i : ℕ) → i < length xs → slice_get (xs ++ ys) i ≡ slice_get xs i
get_front [] ys i within = absurd (omega (arith, within))
get_front (x ∷ xs) ys zero within = refl
get_front (x ∷ xs) ys (suc i) within = get_front xs ys i (omega (arith, within))

pub get_last : {X : Type 0} (xs : List X) (x : X) → slice_get (xs ++ x ∷ []) (length xs) ≡ Some x
get_last [] x = refl
get_last (y ∷ ys) x = get_last ys x
