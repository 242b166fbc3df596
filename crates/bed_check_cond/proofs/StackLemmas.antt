-- The walk with a list of its own: what is left of it, put together, is the walk.
use Rattle.std.proofs.Common.{◌≡◌, ℕ, List, [], ◌∷◌, ◌++◌, Ok, Err, refl, ap, sym, ◌∙◌}
use Rattle.bed_deriv.specs.Walk.{Walked, and_then}
use Rattle.bed_check_cond.specs.Stack.{left_walk}

module _ {F : Type 0} (walk : F → ℕ → Walked) where
  -- the last node of the list is the next
  pub left_last : (fs : List F) (f : F) (w : Walked) → left_walk walk (fs ++ f ∷ []) w ≡ left_walk walk fs (and_then w (walk f))
  left_last [] f w = refl
  left_last (g ∷ fs) f w = ap (λ (v : Walked). and_then v (walk g)) (left_last fs f w)

  left_two : (fs : List F) (f g : F) (w : Walked)
      → left_walk walk (fs ++ f ∷ g ∷ []) w ≡ left_walk walk fs (and_then (and_then w (walk g)) (walk f))
  left_two [] f g w = refl
  left_two (h ∷ fs) f g w = ap (λ (v : Walked). and_then v (walk h)) (left_two fs f g w)

  left_refused : (fs : List F) (e : ℕ × ℕ) → left_walk walk fs (Err e) ≡ Err e
  left_refused [] e = refl
  left_refused (f ∷ fs) e = ap (λ (v : Walked). and_then v (walk f)) (left_refused fs e)

  -- a turn that finds nothing left of the last node, that refuses, and that goes below it
  pub turn_spent : (fs : List F) (f : F) (n : ℕ) → walk f n ≡ Ok n → left_walk walk (fs ++ f ∷ []) (Ok n) ≡ left_walk walk fs (Ok n)
  turn_spent fs f n e = left_last fs f (Ok n) ∙ ap (left_walk walk fs) e

  pub turn_refused : (fs : List F) (f : F) (n : ℕ) (e : ℕ × ℕ) → walk f n ≡ Err e → left_walk walk (fs ++ f ∷ []) (Ok n) ≡ Err e
  turn_refused fs f n e fails = left_last fs f (Ok n) ∙ (ap (left_walk walk fs) fails ∙ left_refused fs e)

  pub turn_below : (fs : List F) (f left below : F) (n m : ℕ) → walk f n ≡ and_then (walk below m) (walk left)
      → left_walk walk (fs ++ f ∷ []) (Ok n) ≡ left_walk walk (fs ++ left ∷ below ∷ []) (Ok m)
  turn_below fs f left below n m e =
      left_last fs f (Ok n) ∙ (ap (left_walk walk fs) e ∙ sym (left_two fs left below (Ok m)))
