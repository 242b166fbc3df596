mod InstructionLemmas
mod HeadLemmas
mod WholeLemmas
mod PlaceLemmas
mod MoveLemmas
mod LabelLemmas
mod WrapLemmas
mod PutLemmas
mod NameLemmas
mod FunctionLemmas
mod LayLemmas
pub mod EntryLaws
pub mod PieceLaws
mod ByteLemmas
mod StartLemmas
mod PlacementLemmas
pub mod SoundLaws
