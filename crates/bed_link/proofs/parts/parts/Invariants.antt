use Rattle.std.proofs.Common.{◌≡◌, ◌++◌, drop, map}
use Rattle.bed_link.specs.Parts.{parts, parts_from}
use Rattle.bed_link.specs.Seen.{module_of, pair_of}
use Rattle.bed_link.proofs.parts.parts.Given as goal

abbrev pub invariant-loop-scoped : goal.invariant-loop-scoped
invariant-loop-scoped g l = record {
  number : l.number ≡ l.scoped-index;
  parts : map pair_of l.out.items ++ parts_from g.T.Item.listed l.scoped-index (map module_of (drop l.scoped-index l.modules))
      ≡ parts g.T.Item.listed (map module_of l.modules);
}
