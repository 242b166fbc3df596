mod StatementLemmas
pub mod TextLaws
pub mod ResolvedLaws
pub mod OwedLaws
