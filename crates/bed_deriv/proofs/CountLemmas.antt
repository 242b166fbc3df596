-- Counts that are taken off a number one by one.
use Rattle.std.proofs.Common.{◌≡◌, ◌∙◌, ℕ, ◌+◌, ◌-◌, ◌≤◌, ◌<◌, false, nat_le, inl, inr, sym, arith}
use Rattle.std.proofs.lemmas.Bool.{le-leb, lt-leb}
use Rattle.std.proofs.lemmas.Bool.Decides.{leb_tells}

pub within_less : (g c n : ℕ) → g ≤ n → nat_le (g + c) n ≡ nat_le c (n - g)
within_less g c n h =
    elim (leb_tells c (n - g)) [
      | inl t ↦ le-leb (g + c) n (omega (arith, t.1, h)) ∙ sym t.0
      | inr t ↦ lt-leb (g + c) n (omega (arith, t.1, h)) ∙ sym t.0
    ]

pub within_past : (g c n : ℕ) → n < g → nat_le (g + c) n ≡ false
within_past g c n h = lt-leb (g + c) n (omega (arith, h))
