use Rattle.std.proofs.Common.{◌≡◌, drop}
use Rattle.bed_table.specs.Code.{params_of}
use Rattle.bed_macro.proofs.sites.params_of.Given as goal

abbrev pub invariant-loop-signature : goal.invariant-loop-signature
invariant-loop-signature l = params_of (drop l.signature-index l.signatures) l.name.bytes ≡ params_of l.signatures l.name.bytes
