pub mod SizeLaws
pub mod SkeletonLaws
pub mod CodeLemmas
mod LayoutLemmas
mod StepLemmas
pub mod ReturnLaws
mod Examples
