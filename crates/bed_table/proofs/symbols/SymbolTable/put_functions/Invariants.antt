use Rattle.std.proofs.Common.{◌≡◌, ◌+◌, ◌≤◌, ◌++◌, length, drop, map}
use Rattle.bed_lang.specs.Numbers.{wrap}
use Rattle.bed_table.specs.Layout.{placed_from, total_size}
use Rattle.bed_table.specs.Image.{symbols_of, table_bytes}
use Rattle.bed_table.specs.Seen.{defined_of}
use Rattle.bed_table.proofs.symbols.SymbolTable.put_functions.Given as goal

abbrev pub invariant-loop-item : goal.invariant-loop-item
invariant-loop-item l = record {
  within : l.at + total_size (map defined_of (drop l.item-index l.functions)) ≤ 4294967296;
  bytes_are : l.self.bytes.items ++ table_bytes (symbols_of (placed_from l.at (map defined_of (drop l.item-index l.functions))))
      ≡ l.initial.self.bytes.items ++ table_bytes (symbols_of (placed_from l.base (map defined_of l.functions)));
  count_is : wrap (l.self.count + length (symbols_of (placed_from l.at (map defined_of (drop l.item-index l.functions)))))
      ≡ wrap (l.initial.self.count + length (symbols_of (placed_from l.base (map defined_of l.functions))));
}
