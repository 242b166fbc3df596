use Rattle.std.proofs.Common.{◌≡◌, drop}
use Rattle.bed_lang.specs.Numbers.{wrap}
use Rattle.bed_il.specs.Places.{place_of}
use Rattle.bed_layout.proofs.labels.Labels.place_by_sizes.Given as goal

abbrev pub invariant-loop-block : goal.invariant-loop-block
invariant-loop-block l = wrap (place_of (drop l.block-index l.self.blocks.now) l.next l.label) ≡ wrap (place_of l.self.blocks.now l.self.at l.label)
