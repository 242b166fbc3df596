-- Lists without the item at a place, and states without an atom or two.
use Rattle.std.proofs.Common.{◌≡◌, ℕ, suc, ◌+◌, ◌<◌, ◌≤◌, if◌then◌else◌, List, ◌++◌, length, take, drop, sym, ap, arith}
use Rattle.std.specs.Prelude.{remove}
use Rattle.std.proofs.lemmas.Bool.{le-leb, lt-leb}
use Rattle.std.proofs.lemmas.List.{take_all, drop_all, append-nil}
use Rattle.bed_deriv.specs.declared.state.SymState.{SymState}
use Rattle.bed_deriv.specs.HeapRules.{without, taken, both_taken}

pub remove_without : {A : Type 0} (xs : List A) (i : ℕ) → remove xs i ≡ without i xs
remove_without xs i =
    let e : suc i ≡ i + 1 = omega arith in
    ap (λ m. take i xs ++ drop m xs) e

pub without_past : {A : Type 0} (xs : List A) (i : ℕ) → length xs ≤ i → without i xs ≡ xs
without_past xs i h = rw (take_all i xs h, drop_all (i + 1) xs (omega (arith, h))) (append-nil xs)

-- two atoms of different numbers are taken out from the back
pub both_second_first : (s : SymState) (i j : ℕ) → i ≤ j → taken (taken s j) i ≡ both_taken s i j
both_second_first s i j h = ap (λ b. if b then taken (taken s j) i else taken (taken s i) j) (sym (le-leb i j h))

pub both_in_turn : (s : SymState) (i j : ℕ) → j < i → taken (taken s i) j ≡ both_taken s i j
both_in_turn s i j h = ap (λ b. if b then taken (taken s j) i else taken (taken s i) j) (sym (lt-leb i j h))
