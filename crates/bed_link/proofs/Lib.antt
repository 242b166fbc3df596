mod FaultLemmas
mod TableLemmas
mod DistinctLemmas
mod LayoutLemmas
mod OutsideLemmas
mod HeadLemmas
mod ResolvingLemmas
pub mod StandingLaws
