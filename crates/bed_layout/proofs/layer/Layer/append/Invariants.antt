use Rattle.std.proofs.Common.{◌≡◌, ◌+◌, ◌++◌, drop, length}
use Rattle.bed_lang.specs.Numbers.{wrap}
use Rattle.bed_layout.specs.Addresses.{address_in}
use Rattle.bed_layout.specs.Functions.{code_bytes}
use Rattle.bed_layout.specs.Layered.{total_size}
use Rattle.bed_layout.proofs.layer.Layer.append.Given as goal

abbrev pub invariant-loop-function : goal.invariant-loop-function
invariant-loop-function l = record {
  put : l.out.items ++ code_bytes (address_in l.initial.self.names) (drop l.function-index l.functions) l.next ≡ l.initial.out.items ++ code_bytes (address_in l.initial.self.names) l.functions l.at;
  end : wrap (l.next + total_size (drop l.function-index l.functions)) ≡ wrap (l.at + total_size l.functions);
  room : length l.self.bytes ≡ length l.initial.self.bytes;
  names : l.self.names ≡ l.initial.self.names;
}
