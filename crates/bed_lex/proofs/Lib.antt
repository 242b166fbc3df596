mod MarkLemmas
mod NumberLemmas
pub mod NumberTokens
pub mod ScanLaws
