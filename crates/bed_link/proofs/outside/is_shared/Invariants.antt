use Rattle.std.proofs.Common.{◌≡◌, ◌+◌, ◌≤◌, drop, map, count_by, nat_eq}
use Rattle.bed_link.specs.Seen.{outside_of}
use Rattle.bed_link.proofs.outside.is_shared.Given as goal

abbrev pub invariant-loop-import : goal.invariant-loop-import
invariant-loop-import l = record {
  within : l.count ≤ l.import-index;
  same : l.count + count_by (λ o. nat_eq o.1 l.address) (map outside_of (drop l.import-index l.imports))
      ≡ count_by (λ o. nat_eq o.1 l.address) (map outside_of l.imports);
}
