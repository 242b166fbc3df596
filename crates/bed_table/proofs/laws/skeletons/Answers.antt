use Rattle.bed_table.proofs.SkeletonLaws.{images_read_skeletons, code_reads_skeletons}
use Rattle.bed_table.proofs.laws.skeletons.Goals as goal

pub returns : goal.returns
returns c = record { images = images_read_skeletons; code = code_reads_skeletons }
