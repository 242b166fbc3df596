use Rattle.std.proofs.Common.{◌≡◌, ◌+◌, ◌++◌, take, drop}
use Rattle.bed_il.specs.Bytes.{insts_bytes}
use Rattle.bed_il.specs.Places.{place_of, insts_size}
use Rattle.bed_layout.specs.Addresses.{address_in}
use Rattle.bed_layout.proofs.put.put_insts.Given as goal

abbrev pub invariant-loop-inst : goal.invariant-loop-inst
invariant-loop-inst l = record {
  size : l.next + insts_size (drop l.inst-index l.insts) ≡ l.fn.from + insts_size l.insts;
  front : take l.next l.into ++ insts_bytes (address_in l.labels.names.now) (place_of l.labels.blocks.now l.labels.at) (drop l.inst-index l.insts)
      ≡ take l.fn.from l.initial.into ++ insts_bytes (address_in l.labels.names.now) (place_of l.labels.blocks.now l.labels.at) l.insts;
}
