-- Loops over lists of trees: the tokens of the items that are left.
use Rattle.std.proofs.Common.{◌≡◌, ℕ, suc, ◌+◌, ◌<◌, ◌≤◌, List, [], ◌∷◌, ◌++◌, length, drop, get_or, drop-cons, sym, ap, ◌∙◌, append_assoc, append-nil, arith}
use Rattle.std.proofs.Math.ListN.{drop_of_length-le}
use Rattle.bed_lex.specs.declared.token.Kind.{Kind}
use Rattle.bed_print.specs.Kinds.{fixed, all_of, each_after}

split : {T : Type 0} (xs : List T) (i : ℕ) (x : T) → i < length xs → x ≡ get_or xs i x → drop i xs ≡ x ∷ drop (i + 1) xs
split xs i x within is = drop-cons xs i x within ∙ ap (λ z. z ∷ drop (suc i) xs) (sym is) ∙ ap (λ k. x ∷ drop k xs) (one_more i)
  where
    one_more : (i : ℕ) → suc i ≡ i + 1
    one_more i = omega arith

pub all_more : {T : Type 0} (f : T → List Kind) (xs : List T) (i : ℕ) (x : T) (out new whole : List Kind) → i < length xs → x ≡ get_or xs i x
    → new ≡ out ++ f x → out ++ all_of f (drop i xs) ≡ whole → new ++ all_of f (drop (i + 1) xs) ≡ whole
all_more f xs i x out new whole within is pushed so_far =
    ap (λ z. z ++ all_of f (drop (i + 1) xs)) pushed ∙ append_assoc out (f x) (all_of f (drop (i + 1) xs))
    ∙ ap (λ z. out ++ all_of f z) (sym (split xs i x within is)) ∙ so_far

pub all_done : {T : Type 0} (f : T → List Kind) (xs : List T) (i : ℕ) (out whole : List Kind) → length xs ≤ i
    → out ++ all_of f (drop i xs) ≡ whole → out ≡ whole
all_done f xs i out whole past so_far =
    sym (append-nil out) ∙ ap (λ z. out ++ all_of f z) (sym (drop_of_length-le xs past)) ∙ so_far

pub each_more : {T : Type 0} (c : ℕ) (f : T → List Kind) (xs : List T) (i : ℕ) (x : T) (out next new whole : List Kind) → i < length xs → x ≡ get_or xs i x
    → next ≡ out ++ fixed c ∷ [] → new ≡ next ++ f x → out ++ each_after c f (drop i xs) ≡ whole → new ++ each_after c f (drop (i + 1) xs) ≡ whole
each_more c f xs i x out next new whole within is word pushed so_far =
    ap (λ z. z ++ each_after c f (drop (i + 1) xs)) (pushed ∙ ap (λ z. z ++ f x) word)
    ∙ append_assoc (out ++ fixed c ∷ []) (f x) (each_after c f (drop (i + 1) xs))
    ∙ append_assoc out (fixed c ∷ []) (f x ++ each_after c f (drop (i + 1) xs))
    ∙ ap (λ z. out ++ each_after c f z) (sym (split xs i x within is)) ∙ so_far

pub each_done : {T : Type 0} (c : ℕ) (f : T → List Kind) (xs : List T) (i : ℕ) (out whole : List Kind) → length xs ≤ i
    → out ++ each_after c f (drop i xs) ≡ whole → out ≡ whole
each_done c f xs i out whole past so_far =
    sym (append-nil out) ∙ ap (λ z. out ++ each_after c f z) (sym (drop_of_length-le xs past)) ∙ so_far
