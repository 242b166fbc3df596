use Rattle.std.proofs.Common.{◌≡◌, ◌<◌, sym, ap, ◌∙◌, List, Option, Some, None, rules}
use Rattle.std.specs.Prelude.{ℕ, IfSome}
use Rattle.std.specs.Option.{option_copied}
use denote.Bor.{Bor}
use Rattle.bed_lang.specs.declared.module.Signature.{Signature}
use Rattle.bed_lang.specs.Lookups.{first_signature}
use Rattle.bed_names.specs.Statements.{frame}
use Rattle.bed_names.specs.Tables.{FramesFit}
use Rattle.bed_names.proofs.declared.Declared.signature.Goals as goal

-- the signature that was found is the first of its name, and its frame fits
found_fits : (o : Option (Bor Signature)) (signatures : List Signature) (x : List ℕ) → FramesFit signatures
    → option_copied o ≡ first_signature signatures x → IfSome o (λ s. frame s.now < 4294967296)
found_fits None signatures x fits e = tt
found_fits (Some s) signatures x fits e = fits x s.now (sym e)

pub returns-clause-fits : goal.returns-clause-fits
returns-clause-fits c =
    let e : option_copied c.get-2.result ≡ first_signature c.self.inside.decls.now.signatures c.args.x.now.bytes = search rules in
    found_fits c.get-2.result c.self.inside.decls.now.signatures c.args.x.now.bytes c.self.invariant.fits e
