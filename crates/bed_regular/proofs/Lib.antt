mod StatementLemmas
mod ScopeLemmas
pub mod FunctionLaws
