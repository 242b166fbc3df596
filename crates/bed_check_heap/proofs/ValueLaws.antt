-- Arguments that are values, with those so far.
use Rattle.std.proofs.Common.{◌≡◌, ◌∙◌, ℕ, ◌<◌, true, false, List, [], ◌∷◌, ◌++◌, length, Option, Some, None, refl, sym, ap, append_assoc, arith}
use Rattle.std.proofs.lemmas.List.{append-nil}
use Rattle.bed_lang.specs.declared.word.Name.{Name}
use Rattle.bed_lang.specs.declared.logic.Arg.{Arg}
use Rattle.bed_lang.specs.declared.logic.Bind.{Bind}
use Rattle.bed_deriv.specs.declared.derivation.DArg.{DArg}
use Rattle.bed_deriv.specs.Arguments.{to_value, value_before, named, to_values}
use Rattle.bed_deriv.specs.Matching.{prefixed}
use Rattle.bed_check_heap.specs.Predicates.{PushedIf}

prefixed_value : (out : List (Name × Arg)) (v : Name × Arg) (r : Option (List (Name × Arg))) (next : ℕ)
    → prefixed (out ++ v ∷ []) r ≡ prefixed out (value_before next (Some v) r)
prefixed_value out v None next = refl
prefixed_value out v (Some vs) next = ap Some (append_assoc out (v ∷ []) vs)

-- one more value, and none
pub values_more : (next : ℕ) (out new : List (Name × Arg)) (binds more : List Bind) (b : Bind) (args others : List DArg) (a : DArg)
    (r : Option (List (Name × Arg))) → binds ≡ b ∷ more → args ≡ a ∷ others → PushedIf true out new b.name (to_value next b.sort (Some a))
    → prefixed out (to_values next binds args) ≡ r → prefixed new (to_values next more others) ≡ r
values_more next out new binds more b args others a r is are pushed e =
    by (to_value next b.sort (Some a)) pushed
    ∙ ap (λ xs. prefixed out (to_values next xs (a ∷ others))) (sym is)
    ∙ ap (λ ys. prefixed out (to_values next binds ys)) (sym are)
    ∙ e
  where
    by : (o : Option Arg) → PushedIf true out new b.name o
        → prefixed new (to_values next more others) ≡ prefixed out (value_before next (named next b.name o) (to_values next more others))
    by None p = absurd p
    by (Some v) p = ap (λ xs. prefixed xs (to_values next more others)) p ∙ prefixed_value out (b.name, v) (to_values next more others) next

pub values_none : (next : ℕ) (out new : List (Name × Arg)) (binds more : List Bind) (b : Bind) (args others : List DArg) (a : DArg)
    (r : Option (List (Name × Arg))) → binds ≡ b ∷ more → args ≡ a ∷ others → PushedIf false out new b.name (to_value next b.sort (Some a))
    → prefixed out (to_values next binds args) ≡ r → None ≡ r
values_none next out new binds more b args others a r is are none e =
    ap (λ o. prefixed out (value_before next (named next b.name o) (to_values next more others))) (sym none)
    ∙ ap (λ xs. prefixed out (to_values next xs (a ∷ others))) (sym is)
    ∙ ap (λ ys. prefixed out (to_values next binds ys)) (sym are)
    ∙ e

none_left : {A : Type 0} (xs : List A) → length xs < 1 → xs ≡ []
none_left [] h = refl
none_left (x ∷ xs) h = absurd (omega (arith, h))

pub values_short : (next : ℕ) (out : List (Name × Arg)) (binds more : List Bind) (b : Bind) (args : List DArg) (r : Option (List (Name × Arg)))
    → binds ≡ b ∷ more → length args < 1 → prefixed out (to_values next binds args) ≡ r → None ≡ r
values_short next out binds more b args r is h e =
    ap (λ xs. prefixed out (to_values next xs [])) (sym is)
    ∙ ap (λ ys. prefixed out (to_values next binds ys)) (sym (none_left args h))
    ∙ e

pub values_all : (next : ℕ) (out : List (Name × Arg)) (binds : List Bind) (args : List DArg) (r : Option (List (Name × Arg)))
    → length binds < 1 → prefixed out (to_values next binds args) ≡ r → Some out ≡ r
values_all next out binds args r h e =
    sym (ap Some (append-nil out)) ∙ ap (λ xs. prefixed out (to_values next xs args)) (sym (none_left binds h)) ∙ e
