-- The limits of the language by which frames and numbers of locals are counted in 32 bits.
use Rattle.std.specs.Prelude.{◌≤◌, length, All}
use Rattle.bed_lang.specs.declared.module.Module.{Module}

-- a signature has at most 60 parameters and reserves at most 4096 words; a function has at most 60 further locals
pub record KeepsLimits (m : Module) : Type 0 where
  pub signatures : All (λ s. (length s.params ≤ 60) × (s.reserve ≤ 4096)) m.signatures
  pub functions : All (λ f. length f.locals ≤ 60) m.functions
