mod BeginningLemmas
mod ListingLemmas
pub mod ListingLaws
