use Rattle.std.proofs.Common.{◌+◌, drop, take, ◌∙◌, ap, arith}
use Rattle.bed_machine.specs.Instructions.{row}
use Rattle.bed_il.specs.Places.{place_of, insts_size}
use Rattle.bed_layout.specs.Addresses.{address_in}
use Rattle.bed_layout.proofs.PutLemmas.{insts_step, insts_room}
use Rattle.bed_layout.proofs.put.put_insts.Goals as goal

pub put_ins-next-requires-clause-room : goal.put_ins-next-requires-clause-room
put_ins-next-requires-clause-room c =
    let l = c.args.labels.now in
    let s = c.loop-inst in
    let insts = c.args.insts.now in
    let room = insts_room (address_in l.names.now) (place_of l.blocks.now l.at) insts s.inst-index c.inst-item.result (row c.machine_ins.result) s.next (c.args.from + insts_size insts) c.loop-inst-test.true c.inst-item.is c.machine_ins.ensures.row
    s.invariant.size in
    omega (arith, room, c.requires.room, s.auto.into)

pub loop-inst-preserved : goal.loop-inst-preserved
loop-inst-preserved c =
    let l = c.args.labels.now in
    let s = c.loop-inst in
    let insts = c.args.insts.now in
    let bytes = row c.machine_ins.result in
    record {
      size = ap (λ n. n + insts_size (drop (s.inst-index + 1) insts)) c.put_ins-next.ensures.size
          ∙ insts_room (address_in l.names.now) (place_of l.blocks.now l.at) insts s.inst-index c.inst-item.result bytes s.next (c.args.from + insts_size insts) c.loop-inst-test.true c.inst-item.is c.machine_ins.ensures.row s.invariant.size;
      front = insts_step (address_in l.names.now) (place_of l.blocks.now l.at) insts s.inst-index c.inst-item.result bytes (take s.next s.into) (take c.put_ins-next.result c.put_ins-next.new.into) _ c.loop-inst-test.true c.inst-item.is
          c.machine_ins.ensures.row s.invariant.front c.put_ins-next.ensures.front;
    }
