-- The code is the pieces of its functions, in order.
use Rattle.std.proofs.Common.{◌≡◌, ℕ, zero, suc, ◌+◌, Bool, Option, Some, None, [], ◌∷◌, ◌++◌, take, sym, ◌∙◌, ap, ap₂, arith, append_assoc}
use Rattle.std.proofs.lemmas.List.{append-nil}
use Rattle.bed_lang.specs.declared.word.Name.{Name}
use Rattle.bed_il.specs.Places.{blocks_size}
use Rattle.bed_layout.specs.Functions.{function_bytes, code_bytes}
use Rattle.bed_layout.specs.Laws.{PiecesAreCode}

none_some : {A : Type 0} {x : A} → ◌≡◌ {A = Option A} None (Some x) → ⊥
none_some e = cc

some_same : {A : Type 0} {x y : A} → ◌≡◌ {A = Option A} (Some x) (Some y) → x ≡ y
some_same e = cc

pub pieces : PiecesAreCode
pieces a [] [] at stand k B f is at_f = absurd (none_some is)
pieces a [] (C ∷ Bs) at stand k B f is at_f = absurd stand
pieces a (g ∷ fs) [] at stand k B f is at_f = absurd stand
pieces a (g ∷ fs) (C ∷ Bs) at stand zero B f is at_f =
    let there : at ≡ f.1 = sym stand.0 ∙ ap (λ (x : Name × ℕ × Bool). x.1) (some_same at_f) in
    append-nil (function_bytes a C at) ∙ ap₂ (λ D x. function_bytes a D x) (some_same is) there
pieces a (g ∷ fs) (C ∷ Bs) at stand (suc k) B f is at_f =
    let later : suc k + 1 ≡ suc (k + 1) = omega arith in
    ap (λ n. code_bytes a (take n (C ∷ Bs)) at) later
    ∙ ap (λ l. function_bytes a C at ++ l) (pieces a fs Bs (at + blocks_size C) stand.1 k B f is at_f)
    ∙ sym (append_assoc (function_bytes a C at) (code_bytes a (take k Bs) (at + blocks_size C)) (function_bytes a B f.1))
