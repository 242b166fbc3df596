pub mod KnownLaws
pub mod StartLaws
mod ReadLemmas
mod PrefixLemmas
mod LeftLemmas
mod CountLemmas
