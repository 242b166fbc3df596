use Rattle.std.proofs.Common.{◌≡◌, ◌+◌, ◌++◌, take, drop}
use Rattle.bed_il.specs.Bytes.{laid}
use Rattle.bed_il.specs.Places.{place_of, blocks_size}
use Rattle.bed_layout.specs.Addresses.{address_in}
use Rattle.bed_layout.proofs.put.put_blocks.Given as goal

abbrev pub invariant-loop-block : goal.invariant-loop-block
invariant-loop-block l = record {
  size : l.next + blocks_size (drop l.block-index l.labels.blocks.now) ≡ blocks_size l.labels.blocks.now;
  front : take l.next l.into ++ laid (address_in l.labels.names.now) (place_of l.labels.blocks.now l.labels.at) (drop l.block-index l.labels.blocks.now) l.at
      ≡ laid (address_in l.labels.names.now) (place_of l.labels.blocks.now l.labels.at) l.labels.blocks.now l.labels.at;
}
