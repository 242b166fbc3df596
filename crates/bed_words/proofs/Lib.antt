mod CallLemmas
pub mod CommandLaws
mod LoopLemmas
mod OptionLemmas
mod ReadingLemmas
