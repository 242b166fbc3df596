use Rattle.std.proofs.Common.{◌≡◌, ◌++◌, take}
use Rattle.bed_disasm.specs.Listing.{name_lines}
use Rattle.bed_disasm.proofs.names.push_names.Given as goal

abbrev pub invariant-loop-s : goal.invariant-loop-s
invariant-loop-s l = l.out.items ≡ l.initial.out.items ++ name_lines (take l.s-index l.symbols) l.at
