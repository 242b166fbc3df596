use Rattle.std.proofs.Common.{◌+◌, ◌++◌, ◌%◌, take, ◌∙◌, ap, refl}
use Rattle.bed_lang.specs.Numbers.{wrap}
use Rattle.bed_il.specs.Bytes.{insts_bytes}
use Rattle.bed_il.specs.Places.{place_of, insts_size}
use Rattle.bed_layout.specs.Addresses.{address_in}
use Rattle.bed_layout.proofs.PutLemmas.{block_put}
use Rattle.bed_layout.proofs.put.put_block.Goals as goal

pub returns-clause-front : goal.returns-clause-front
returns-clause-front c =
    let l = c.args.labels.now in
    let next = c.put_insts-next in
    let same = c.as_slice-insts.ensures in
    block_put (address_in l.names.now) (place_of l.blocks.now l.at) c.args.block.now c.args.at ((c.args.at + c.insts_size.result) % 4294967296) c.insts_size.result
    (take c.args.from c.args.into.now) (take next.result next.new.into) (take c.put_jump.result c.put_jump.new.into)
    (c.insts_size.ensures ∙ ap (λ is. wrap (insts_size is)) same) refl
    (next.ensures.front ∙ ap (λ is. take c.args.from c.args.into.now ++ insts_bytes (address_in l.names.now) (place_of l.blocks.now l.at) is) same)
    c.put_jump.ensures.front
