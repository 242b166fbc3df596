-- Steps of the sum of two lists of parts.
use Rattle.std.proofs.Common.{◌≡◌, ◌<◌, length, arith, List, [], ◌∷◌, refl, ap}
use Rattle.bed_lang.specs.Forms.{Part, add_parts}

pub add-none : (xs : List Part) → add_parts xs [] ≡ xs
add-none [] = refl
add-none (x ∷ xs) = ap (λ s. x ∷ s) (add-none xs)

pub none-left : (xs : List Part) → length xs < 1 → xs ≡ []
none-left [] h = refl
none-left (x ∷ xs) h = absurd (omega arith)
