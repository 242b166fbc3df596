-- Reading symbols one after the other, as a loop does.
use Rattle.std.proofs.Common.{◌≡◌, ℕ, suc, ◌-◌, ◌+◌, ◌≤◌, ◌<◌, List, [], ◌∷◌, ◌++◌, Result, Ok, Err, refl, sym, ap, ◌∙◌, append_assoc, arith}
use Rattle.std.proofs.lemmas.List.{append-nil}
use Rattle.bed_image.specs.declared.error.ImageError.{ImageError}
use Rattle.bed_image.specs.declared.error.ImageError.TheVariants.{BadImage, Memory}
use Rattle.bed_image.specs.declared.image.Symbol.{Symbol}
use Rattle.bed_image.specs.Reading.{Rest, ◌>>=◌, Fails, symbol_at, symbols_at}

-- what was read before, and what is still read
abbrev pub with_front : List Symbol → Result (List Symbol × Rest) ℕ → Result (List Symbol × Rest) ℕ
with_front front read = read >>= λ x. Ok (front ++ x.0, x.1)

regroup : (front : List Symbol) (s : Symbol) (read : Result (List Symbol × Rest) ℕ) → with_front front (read >>= λ x. Ok (s ∷ x.0, x.1)) ≡ with_front (front ++ s ∷ []) read
regroup front s (Ok x) = ap (λ (ss : List Symbol). Ok (ss, x.1)) (simp append_assoc)
regroup front s (Err at) = refl

module _ (base size : ℕ) (front : List Symbol) (count i : ℕ) (r : Rest) (total : Result (List Symbol × Rest) ℕ)
    (so_far : with_front front (symbols_at base size (count - i) r) ≡ total) where
  pub goes_on : (s : Symbol) (after : Rest) → i < count → symbol_at base size r ≡ Ok (s, after) → with_front (front ++ s ∷ []) (symbols_at base size (count - (i + 1)) after) ≡ total
  unfolding symbols_at
  goes_on s after lt h =
      let k : count - i ≡ suc (count - (i + 1)) = omega arith in
      let one : with_front front (symbols_at base size (count - i) r) ≡ with_front (front ++ s ∷ []) (symbols_at base size (count - (i + 1)) after) = rw (k, h) (regroup front s (symbols_at base size (count - (i + 1)) after)) in
      sym one ∙ so_far

  pub ends : (e : ImageError) → i < count → Fails e (symbol_at base size r) → Fails e total
  unfolding symbols_at
  ends Memory lt h = tt
  ends (BadImage at) lt h =
      let k : count - i ≡ suc (count - (i + 1)) = omega arith in
      let one : with_front front (symbols_at base size (count - i) r) ≡ Err at = rw (k, h) refl in
      sym so_far ∙ one

  pub is_done : count ≤ i → total ≡ Ok (front, r)
  unfolding symbols_at
  is_done le =
      let k : count - i ≡ 0 = omega arith in
      let one : with_front front (symbols_at base size (count - i) r) ≡ Ok (front, r) = rw k (ap (λ (ss : List Symbol). Ok (ss, r)) (append-nil front)) in
      sym so_far ∙ one
