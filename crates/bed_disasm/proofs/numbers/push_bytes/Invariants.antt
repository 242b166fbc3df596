use Rattle.std.proofs.Common.{◌≡◌, ◌++◌, take}
use Rattle.bed_disasm.specs.Text.{bytes_text}
use Rattle.bed_disasm.proofs.numbers.push_bytes.Given as goal

abbrev pub invariant-loop-byte : goal.invariant-loop-byte
invariant-loop-byte l = l.out.items ≡ l.initial.out.items ++ bytes_text (take l.byte-index l.bytes)
