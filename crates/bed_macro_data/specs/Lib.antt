pub mod Kinds
pub mod StatementLaws
