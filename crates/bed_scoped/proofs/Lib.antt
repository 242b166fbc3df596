mod KnownLemmas
pub mod ScopedLaws
