-- Items that are made one after the other, by their numbers from 1.
use Rattle.std.proofs.Common.{◌≡◌, ℕ, ◌+◌, List, [], ◌∷◌, ◌++◌, map, sym, ap, ◌∙◌, arith}
use Rattle.std.specs.List.{range_with_len}
use Rattle.std.proofs.lemmas.List.FromFn.{map-range_with_len_more}

pub one_more : {T : Type 0} (f : ℕ → T) (n : ℕ) (item : T) (out new : List T) → out ≡ map f (range_with_len 1 n) → item ≡ f (n + 1)
    → new ≡ out ++ item ∷ [] → new ≡ map f (range_with_len 1 (n + 1))
one_more f n item out new so_far is pushed =
    pushed ∙ ap (λ z. z ++ item ∷ []) so_far ∙ ap (λ x. map f (range_with_len 1 n) ++ x ∷ []) is
    ∙ sym (map-range_with_len_more f 1 n (n + 1) (next n))
  where
    next : (n : ℕ) → 1 + n ≡ n + 1
    next n = omega arith
