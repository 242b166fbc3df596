-- Loops over lists of trees: the texts of the items that are left.
use Rattle.std.proofs.Common.{◌≡◌, ℕ, suc, ◌+◌, ◌<◌, ◌≤◌, List, ◌∷◌, ◌++◌, length, drop, get_or, drop-cons, sym, ap, ◌∙◌, append_assoc, append-nil, arith}
use Rattle.std.proofs.Math.ListN.{drop_of_length-le}
use Rattle.bed_condition_text.specs.Texts.{each_after}

split : {T : Type 0} (xs : List T) (i : ℕ) (x : T) → i < length xs → x ≡ get_or xs i x → drop i xs ≡ x ∷ drop (i + 1) xs
split xs i x within is = drop-cons xs i x within ∙ ap (λ z. z ∷ drop (suc i) xs) (sym is) ∙ ap (λ k. x ∷ drop k xs) (one_more i)
  where
    one_more : (i : ℕ) → suc i ≡ i + 1
    one_more i = omega arith

pub each_more : {T : Type 0} (mark : List ℕ) (f : T → List ℕ) (xs : List T) (i : ℕ) (x : T) (out next new whole : List ℕ) → i < length xs → x ≡ get_or xs i x
    → next ≡ out ++ mark → new ≡ next ++ f x → out ++ each_after mark f (drop i xs) ≡ whole → new ++ each_after mark f (drop (i + 1) xs) ≡ whole
each_more mark f xs i x out next new whole within is marked pushed so_far =
    ap (λ z. z ++ each_after mark f (drop (i + 1) xs)) (pushed ∙ ap (λ z. z ++ f x) marked)
    ∙ append_assoc (out ++ mark) (f x) (each_after mark f (drop (i + 1) xs))
    ∙ append_assoc out mark (f x ++ each_after mark f (drop (i + 1) xs))
    ∙ ap (λ z. out ++ each_after mark f z) (sym (split xs i x within is)) ∙ so_far

pub each_done : {T : Type 0} (mark : List ℕ) (f : T → List ℕ) (xs : List T) (i : ℕ) (out whole : List ℕ) → length xs ≤ i
    → out ++ each_after mark f (drop i xs) ≡ whole → out ≡ whole
each_done mark f xs i out whole past so_far =
    sym (append-nil out) ∙ ap (λ z. out ++ each_after mark f z) (sym (drop_of_length-le xs past)) ∙ so_far
