pub mod ArgumentLaws
mod BareLemmas
mod NotedLemmas
mod ResolvedLemmas
pub mod RuleLaws
mod ScopeLemmas
mod ScopedLemmas
pub mod SkeletonLaws
mod StatementLemmas
pub mod TableLaws
mod TermLemmas
