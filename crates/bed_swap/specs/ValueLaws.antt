-- What a swap does to values: where the three names differ, the first two have each other's words behind it.
use Rattle.std.proofs.Common.{◌≡◌, ◌≢◌, ℕ, List, sym, ◌∙◌, ap, arith}
use Rattle.bed_machine.specs.Memory.{Memory}
use Rattle.bed_lang.specs.Numbers.{wrap}
use Rattle.bed_lang.specs.declared.word.Name.{Name}
use Rattle.bed_lang.specs.Values.{Values, Named}
use Rattle.bed_sat.specs.Valid.{set_local}
use Rattle.bed_sat.proofs.FrameLaws.{set_same, set_other}
use Rattle.bed_laws.specs.Described.{Leads}
use Rattle.bed_swap.specs.Swaps.{swap_actions}

wrap_twice : (n : ℕ) → wrap (wrap n) ≡ wrap n
wrap_twice n = omega arith

module _ (labels : List ℕ → ℕ) (x y t : Name) (xy : x.bytes ≢ y.bytes) (xt : x.bytes ≢ t.bytes) (yt : y.bytes ≢ t.bytes) (ν μ : Values) (h g : Memory) (led : Leads labels (swap_actions x y t) ν h μ g) where
  abbrev first : Values
  first = set_local ν t (wrap (ν.words (Named x.bytes)))

  abbrev second : Values
  second = set_local first x (wrap (first.words (Named y.bytes)))

  pub first_has_second : μ.words (Named x.bytes) ≡ wrap (ν.words (Named y.bytes))
  first_has_second =
      ap (λ κ. κ.words (Named x.bytes)) (sym led.0) ∙ set_other second y.bytes x.bytes (wrap (second.words (Named t.bytes))) xy
      ∙ set_same first x.bytes (wrap (first.words (Named y.bytes))) ∙ ap wrap (set_other ν t.bytes y.bytes (wrap (ν.words (Named x.bytes))) yt)

  pub second_has_first : μ.words (Named y.bytes) ≡ wrap (ν.words (Named x.bytes))
  second_has_first =
      ap (λ κ. κ.words (Named y.bytes)) (sym led.0) ∙ set_same second y.bytes (wrap (second.words (Named t.bytes)))
      ∙ ap wrap (set_other first x.bytes t.bytes (wrap (first.words (Named y.bytes))) (λ e. xt (sym e)) ∙ set_same ν t.bytes (wrap (ν.words (Named x.bytes)))) ∙ wrap_twice (ν.words (Named x.bytes))

  pub memory_stays : h ≡ g
  memory_stays = led.1
