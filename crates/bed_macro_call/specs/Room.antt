-- Where a call may stand.
use Rattle.std.specs.Prelude.{◌≡◌, ◌+◌, ◌≤◌, Option, Some, length}
use Rattle.bed_lang.specs.declared.word.Name.{Name}
use Rattle.bed_lang.specs.declared.module.Operand.{Operand}
use Rattle.bed_lang.specs.declared.module.Signature.{Signature}
use Rattle.bed_lang.specs.declared.condition.Decls.{Decls}
use Rattle.bed_lang.specs.Lookups.{signature_named}
use Rattle.bed_sat.specs.Frames.{frame_size}
use Rattle.bed_sat.specs.Valid.{callee_name}
use Rattle.bed_laws.specs.Activations.{FunctionSite}

-- the frame of a function has room, behind the return address and the locals, for the frame of the callee of a call
abbrev pub HasRoom : Decls → FunctionSite → Operand → Option Name → Type 0
HasRoom d c target via =
    (name : Name) (S : Signature) → callee_name d target via ≡ Some name → signature_named d name.bytes ≡ Some S
    → frame_size S + (1 + length c.site.locals) ≤ frame_size c.signature
