use Rattle.std.proofs.Common.{◌≡◌, ◌+◌, ◌++◌, length, drop}
use Rattle.bed_lang.specs.Numbers.{wrap}
use Rattle.bed_table.specs.Image.{loop_symbols, table_bytes}
use Rattle.bed_table.proofs.symbols.SymbolTable.put_loops.Given as goal

abbrev pub invariant-loop-head : goal.invariant-loop-head
invariant-loop-head l = record {
  number_is : l.number ≡ l.head-index + 1;
  bytes_are : l.self.bytes.items ++ table_bytes (loop_symbols l.function l.number (drop l.head-index l.heads))
      ≡ l.initial.self.bytes.items ++ table_bytes (loop_symbols l.function 1 l.heads);
  count_is : wrap (l.self.count + length (loop_symbols l.function l.number (drop l.head-index l.heads)))
      ≡ wrap (l.initial.self.count + length (loop_symbols l.function 1 l.heads));
}
