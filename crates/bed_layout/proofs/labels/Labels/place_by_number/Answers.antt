use Rattle.std.proofs.Common.{◌+◌, ◌-◌, ◌%◌, get_or, ◌∙◌, ap}
use Rattle.bed_il.specs.declared.blocks.Block.{Block}
use Rattle.bed_layout.proofs.LabelLemmas.{place_at}
use Rattle.bed_layout.proofs.labels.Labels.place_by_number.Goals as goal

pub returns-then-block-label : goal.returns-then-block-label
returns-then-block-label c =
    let s = c.args.self.now in
    let number = (c.args.label + (4294967296 - (get_or s.blocks.now 0 c.index-self-0.result).label)) % 4294967296 in
    place_at s.blocks.now s.at c.args.label number c.index-self-number.result (get_or s.places.now number 0) c.requires.distinct c.if-number-self.false c.index-self-number.is (ap (λ (b : Block). b.label) c.index-self-number.is ∙ c.if-block-label.true)
    (c.requires.addresses number c.if-number-self-2.false c.if-number-self.false)
