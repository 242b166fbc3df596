mod EquivalenceLemmas
mod AgreementLemmas
mod ConsistentLemmas
mod StandingLemmas
pub mod FittingLaws
