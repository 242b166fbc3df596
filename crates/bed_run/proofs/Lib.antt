mod ListLemmas
mod ArgumentLemmas
mod RunLemmas
pub mod HostedLaws
