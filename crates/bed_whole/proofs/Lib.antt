mod LowerLemmas
mod OwedLemmas
mod SameLemmas
mod ReadyLemmas
pub mod ProgramLaws
