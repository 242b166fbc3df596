-- What a body asks of the function in which it stands. The rules of names see to it.
use Rattle.std.specs.Prelude.{◌≡◌, ◌⊎◌, Bool, true, false, Option, List, [], ◌∷◌}
use Rattle.bed_lang.specs.declared.word.Name.{Name}
use Rattle.bed_lang.specs.declared.module.Operand.{Operand}
use Rattle.bed_lang.specs.declared.condition.Decls.{Decls}
use Rattle.bed_laws.specs.Activations.{FunctionSite, IsAmong}
use Rattle.bed_laws.specs.StatementBlocks.{IsKnown}
use Rattle.bed_macro_call.specs.Room.{HasRoom}

-- One demand: a name is that of a local; a local that stands as an operand is one of the function's; the frame has room for that of a
-- callee; control comes to the end of what something stands behind; control doesn't come to the end of one of two bodies, where no join
-- stands behind them; and no `find` or `walk` stands there, since those are written out.
pub data Demand : Type 0 where
  Assigned : Name → Demand
  Read : Operand → Demand
  Room : Operand → Option Name → Demand
  Falls : Bool → Demand
  StopsOnce : Bool → Bool → Demand
  WrittenOut : Demand

module _ (d : Decls) (c : FunctionSite) where
  abbrev pub IsMet : Demand → Type 0
  IsMet (Assigned x) = IsAmong c.site.locals x.bytes
  IsMet (Read a) = IsKnown c.site.locals a
  IsMet (Room target via) = HasRoom d c target via
  IsMet (Falls f) = f ≡ true
  IsMet (StopsOnce f g) = (f ≡ false) ⊎ (g ≡ false)
  IsMet WrittenOut = ⊥

  abbrev pub AreMet : List Demand → Type 0
  AreMet [] = Unit {0}
  AreMet (x ∷ xs) = IsMet x × AreMet xs
