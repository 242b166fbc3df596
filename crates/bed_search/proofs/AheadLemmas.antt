-- What is to be done from an action on.
use Rattle.std.proofs.Common.{◌≡◌, ℕ, zero, suc, ◌+◌, ◌<◌, List, [], ◌∷◌, ◌++◌, length, drop, refl, ap, sym, ◌∙◌, arith, append_assoc}
use Rattle.bed_lang.specs.declared.module.Action.{Action}
use Rattle.bed_lang.specs.declared.condition.Goal.{Goal}
use Rattle.bed_lang.specs.declared.condition.Placed.{Placed}
use Rattle.bed_search.specs.declared.ahead.Todo.{Todo}
use Rattle.bed_search.specs.declared.ahead.Todo.TheVariants.{Makes}
use Rattle.bed_search.specs.Ahead.{hints_at, along}

along_from : (hs : List Placed) (m : ℕ) (n : ℕ) (as' : List Action) (g : Goal) → n < length as'
    → along hs m (drop n as') g ≡ hints_at hs m ++ Makes ∷ along hs (m + 1) (drop (suc n) as') g
along_from hs m n [] g h = absurd (omega (arith, h))
along_from hs m zero (a ∷ more) g h = refl
along_from hs m (suc n) (a ∷ more) g h = along_from hs m n more g (omega arith)

-- an action that is made, with its hints before it
pub along_next : (hs : List Placed) (n : ℕ) (as' : List Action) (g : Goal) (old hinted new all : List Todo) → n < length as'
    → old ++ along hs n (drop n as') g ≡ all → hinted ≡ old ++ hints_at hs n → new ≡ hinted ++ Makes ∷ []
    → new ++ along hs (n + 1) (drop (n + 1) as') g ≡ all
along_next hs n as' g old hinted new all h is hints made =
    let rest = along hs (n + 1) (drop (n + 1) as') g in
    let one : suc n ≡ n + 1 = omega arith in
    ap (λ ts. ts ++ rest) (made ∙ ap (λ ts. ts ++ Makes ∷ []) hints)
    ∙ append_assoc (old ++ hints_at hs n) (Makes ∷ []) rest
    ∙ append_assoc old (hints_at hs n) (Makes ∷ rest)
    ∙ ap (λ k. old ++ (hints_at hs n ++ Makes ∷ along hs (n + 1) (drop k as') g)) (sym one)
    ∙ ap (λ ts. old ++ ts) (sym (along_from hs n n as' g h))
    ∙ is
