-- A module that keeps the rules of names, as others see it.
use Rattle.bed_lang.specs.declared.condition.Decls.{Decls}
use Rattle.bed_lang.specs.declared.module.Module.{Module}

-- the module without bare arguments, and what it declares
pub record InScope : Type 0 where
  pub «module» : Module
  pub decls : Decls
