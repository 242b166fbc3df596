use Rattle.std.proofs.Common.{◌+◌, ◌%◌, take, drop, ◌∙◌, ap, refl}
use Rattle.bed_il.specs.Places.{place_of, blocks_size}
use Rattle.bed_layout.specs.Addresses.{address_in}
use Rattle.bed_layout.proofs.PutLemmas.{blocks_step, blocks_room}
use Rattle.bed_layout.proofs.put.put_blocks.Goals as goal

pub loop-block-preserved : goal.loop-block-preserved
loop-block-preserved c =
    let l = c.args.labels.now in
    let s = c.loop-block in
    let put = c.put_block-next in
    record {
      size = ap (λ n. n + blocks_size (drop (s.block-index + 1) l.blocks.now)) put.ensures.size ∙ blocks_room l.blocks.now s.block-index c.block-item.result s.next (blocks_size l.blocks.now) c.loop-block-test.true c.block-item.is s.invariant.size;
      front = blocks_step (address_in l.names.now) (place_of l.blocks.now l.at) l.blocks.now s.block-index c.block-item.result s.at c.block_size-at.result ((s.at + c.block_size-at.result) % 4294967296)
          (take s.next s.into) (take put.result put.new.into) _ c.loop-block-test.true c.block-item.is c.block_size-at.ensures refl s.invariant.front put.ensures.front;
    }
