use Rattle.std.proofs.Common.{map, string_bytes, subst, sym}
use Rattle.bed_words.specs.Reading.{read_plain, Gives}
use Rattle.bed_words.proofs.making.make.Goals as goal

pub returns-in-Disasm : goal.returns-in-Disasm
returns-in-Disasm c =
    subst (λ v. Gives (read_plain v (map string_bytes c.args.options.now) (map string_bytes c.args.plain.now)) c.disasm.result) (sym c.in-Disasm.is)
    (c.disasm.ensures (map string_bytes c.args.options.now))

pub returns-in-Gen : goal.returns-in-Gen
returns-in-Gen c =
    subst (λ v. Gives (read_plain v (map string_bytes c.args.options.now) (map string_bytes c.args.plain.now)) c.generate.result) (sym c.in-Gen.is)
    (c.generate.ensures (map string_bytes c.args.options.now))
