pub mod DerivedLaws
pub mod RefusedLaws
pub mod SearchLaws
pub mod SteadyLaws
mod AheadLemmas
mod SearchLemmas
