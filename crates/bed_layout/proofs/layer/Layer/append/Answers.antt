use Rattle.std.proofs.Common.{◌+◌, ◌%◌, ◌∙◌, ap, refl}
use Rattle.bed_lang.specs.Numbers.{wrap}
use Rattle.bed_il.specs.Places.{blocks_size}
use Rattle.bed_layout.specs.Addresses.{address_in}
use Rattle.bed_layout.specs.Functions.{function_bytes}
use Rattle.bed_layout.proofs.LayLemmas.{code_step, end_step}
use Rattle.bed_layout.specs.Layered.{total_size}
use Rattle.bed_layout.proofs.layer.Layer.append.Goals as goal

pub loop-function-preserved : goal.loop-function-preserved
loop-function-preserved c =
    let s = c.loop-function in
    let fs = c.args.functions.now in
    let put = c.put-size in
    let B = c.function-item.result in
    let size = c.blocks_size-next in
    let size_is = size.ensures ∙ ap (λ b. wrap (blocks_size b)) c.as_slice-in-loop-function.ensures in
    let piece = c.bytes.ensures ∙ put.ensures.front ∙ ap (λ b. function_bytes (address_in s.self.names) b s.next) c.as_slice.ensures ∙ ap (λ n. function_bytes (address_in n) B s.next) s.invariant.names in
    record {
      put = code_step (address_in c.args.self.now.names) fs s.function-index B s.next size.result ((s.next + size.result) % 4294967296) s.out.items c.bytes.result.now c.extend_from_slice.new.self.items _ c.loop-function-test.true c.function-item.is
          size_is refl s.invariant.put c.in_ok-extend_from_slice.ensures.items piece;
      end = end_step fs s.function-index B s.next size.result ((s.next + size.result) % 4294967296) (c.args.at + total_size fs) c.loop-function-test.true c.function-item.is size_is refl s.invariant.end;
      room = put.ensures.room ∙ s.invariant.room;
      names = put.ensures.names ∙ s.invariant.names;
    }
