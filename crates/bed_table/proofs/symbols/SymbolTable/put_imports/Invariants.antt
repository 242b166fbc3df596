use Rattle.std.proofs.Common.{◌≡◌, ◌+◌, ◌++◌, length, drop, map}
use Rattle.bed_lang.specs.Numbers.{wrap}
use Rattle.bed_table.specs.Layout.{address_of}
use Rattle.bed_table.specs.Image.{import_symbols, table_bytes}
use Rattle.bed_table.specs.Seen.{label_of}
use Rattle.bed_table.proofs.symbols.SymbolTable.put_imports.Given as goal

abbrev pub invariant-loop-name : goal.invariant-loop-name
invariant-loop-name l = record {
  bytes_are : l.self.bytes.items ++ table_bytes (import_symbols (address_of (map label_of l.labels)) (map (λ n. n.now) (drop l.name-index l.names)))
      ≡ l.initial.self.bytes.items ++ table_bytes (import_symbols (address_of (map label_of l.labels)) (map (λ n. n.now) l.names));
  count_is : wrap (l.self.count + length (import_symbols (address_of (map label_of l.labels)) (map (λ n. n.now) (drop l.name-index l.names))))
      ≡ wrap (l.initial.self.count + length (import_symbols (address_of (map label_of l.labels)) (map (λ n. n.now) l.names)));
}
