-- A line is that of an instruction, or of a byte at which none begins.
use Rattle.bed_disasm.proofs.ListingLemmas.{instruction_appended, byte_appended}
use Rattle.bed_disasm.proofs.lines.push_line.Goals as goal

pub returns-in_ok-push_instruction_line-in-Ok-clause-line :
    goal.returns-in_ok-push_instruction_line-in-Ok-clause-line
returns-in_ok-push_instruction_line-in-Ok-clause-line c =
    instruction_appended c.args.at c.args.bytes.now c.in-Ok.ins c.in-Ok.size _ _ ((c.decode.ensures.found c.in-Ok.ins c.in-Ok.size).0 c.in-Ok.is)
    c.in_ok-push_instruction_line-in-Ok.ensures

pub returns-in_ok-push_byte_line-in-Err-clause-line :
    goal.returns-in_ok-push_byte_line-in-Err-clause-line
returns-in_ok-push_byte_line-in-Err-clause-line c =
    byte_appended c.args.at c.args.bytes.now c.in-Err.field-0 c.decode.result _ _ (λ i size. (c.decode.ensures.found i size).1) c.in-Err.is
    c.in_ok-push_byte_line-in-Err.ensures
