pub mod PartLaws
pub mod CellLaws
pub mod BlockLaws
pub mod SatLaws
pub mod RunLaws
pub mod FrameLaws
pub mod LaidLaws
mod ReturnLaws
pub mod ScopeLaws
pub mod SameLaws
mod ListLaws
mod RowLaws
mod MemoryExamples
mod ProgramExamples
mod ComparisonLaws
pub mod InstanceLaws
pub mod SignatureLaws
pub mod ExtensionLaws
mod StartLaws
pub mod LinkingLaws
pub mod ConditionLaws
mod ConditionExamples
mod ListLoopExamples
mod ValidExamples
mod RefutedExamples
mod WrittenLaws
mod WrittenParts
pub mod PathLaws
mod WrittenCode
mod SoundExamples
mod OutsideExamples
mod LinkExamples
mod BodyExamples
mod LivePaths
