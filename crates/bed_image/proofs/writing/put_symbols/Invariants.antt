use Rattle.std.proofs.Common.{◌≡◌, ◌++◌, take}
use Rattle.bed_image.specs.Format.{table_bytes}
use Rattle.bed_image.proofs.writing.put_symbols.Given as goal

abbrev pub invariant-loop-s : goal.invariant-loop-s
invariant-loop-s l = l.out.items ≡ l.initial.out.items ++ table_bytes (take l.s-index l.symbols)
