-- Lists with another item at a place.
use Rattle.std.proofs.Common.{◌≡◌, ℕ, zero, suc, ◌+◌, ◌-◌, ◌<◌, List, [], ◌∷◌, ◌++◌, take, drop, length, Bool, true, false, ◌==◌, if◌then◌else◌, Some, None, slice_get, slice_set, refl, ap, ◌∙◌, arith}
use Rattle.std.proofs.lemmas.Option.{slice_get_within}
use Rattle.bed_deriv.specs.Arguments.{numbered}
use Rattle.bed_deriv.specs.Steps.{put_at}

put_same : {A : Type 0} (xs : List A) (k : ℕ) (x : A) → k < length xs → slice_set xs k x ≡ take k xs ++ x ∷ drop (suc k) xs
put_same [] k x h = absurd (omega (arith, h))
put_same (y ∷ ys) zero x h = refl
put_same (y ∷ ys) (suc k) x h = ap (λ zs. y ∷ zs) (put_same ys k x (omega (arith, h)))

pub put_is : {A : Type 0} (xs : List A) (k : ℕ) (x : A) → k < length xs → slice_set xs k x ≡ put_at k x xs
put_is xs k x h = let e : suc k ≡ k + 1 = omega arith in put_same xs k x h ∙ ap (λ m. take k xs ++ x ∷ drop m xs) e

-- an item that has a number is one of the list
pub numbered_within : {A : Type 0} (xs : List A) (n : ℕ) (x : A) → numbered xs n ≡ Some x → n - 1 < length xs
numbered_within {A} xs n x e = by (n == 0) e
  where
    by : (b : Bool) → (if b then None else slice_get xs (n - 1)) ≡ Some x → n - 1 < length xs
    by true e = absurd cc
    by false e = slice_get_within xs (n - 1) x e
