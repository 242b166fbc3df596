-- Tests of numbers and of other tests.
use Rattle.std.proofs.Common.{◌≡◌, ℕ, ◌<◌, Bool, true, false, ◌||◌, nat_lt, refl, arith}
use Rattle.std.proofs.lemmas.Bool.Decides.{nat_tests}

pub or_case : (P : Type 0) (a b : Bool) → (a || b) ≡ true → (a ≡ true → P) → (b ≡ true → P) → P
or_case P true b h f g = f refl
or_case P false b h f g = g h

pub by_test : (P : Type 0) (b : Bool) → (b ≡ true → P) → (b ≡ false → P) → P
by_test P true f g = f refl
by_test P false f g = g refl

pub lt_is : (n m : ℕ) → nat_lt n m ≡ true → n < m
lt_is n m h = grind (arith, nat_tests)
