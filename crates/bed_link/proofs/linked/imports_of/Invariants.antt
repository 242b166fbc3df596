use Rattle.std.proofs.Common.{◌≡◌, ◌++◌, drop, map}
use Rattle.bed_link.specs.Seen.{outside_of}
use Rattle.bed_link.proofs.linked.imports_of.Given as goal

abbrev pub invariant-loop-import : goal.invariant-loop-import
invariant-loop-import l = l.out ++ map outside_of (drop l.import-index l.imports) ≡ map outside_of l.imports
