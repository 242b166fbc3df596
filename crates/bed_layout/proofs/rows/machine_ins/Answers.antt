use Rattle.std.proofs.Common.{◌∙◌, sym, ap}
use Rattle.bed_machine.specs.Instructions.{row}
use Rattle.bed_il.specs.Bytes.{ins_of}
use Rattle.bed_il.specs.Places.{place_of}
use Rattle.bed_layout.specs.Addresses.{address_in}
use Rattle.bed_layout.proofs.rows.machine_ins.Goals as goal

pub returns-in-Fetch-clause-row : goal.returns-in-Fetch-clause-row
returns-in-Fetch-clause-row c =
    let l = c.args.labels.now in
    c.fetch.ensures.row (place_of l.blocks.now l.at) ∙ ap (λ i. row (ins_of (address_in l.names.now) (place_of l.blocks.now l.at) i)) (sym c.in-Fetch.is)
