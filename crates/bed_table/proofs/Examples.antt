-- Code that was worked out by hand, computed from the definitions.
use Rattle.std.proofs.Common.{◌≡◌, [], ◌∷◌, refl}
use Rattle.bed_lang.specs.declared.module.Operand.TheVariants.{Number}
use Rattle.bed_table.specs.Pieces.{sequence}
use Rattle.bed_table.specs.CodeTable.{entry, answer}

-- the code of `return 7` in a function
seven : (sequence (entry ∷ sequence (answer (Number 7) ∷ []) ∷ [])).bytes [] (λ f. 0) 4194304
    ≡ 0x89 ∷ 0xB5 ∷ 0 ∷ 0 ∷ 0 ∷ 0 ∷ 0xB9 ∷ 7 ∷ 0 ∷ 0 ∷ 0 ∷ 0x8B ∷ 0xC1 ∷ 0x8B ∷ 0xB5 ∷ 0 ∷ 0 ∷ 0 ∷ 0 ∷ 0xFF ∷ 0xE6 ∷ []
seven = refl
