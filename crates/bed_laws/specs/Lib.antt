pub mod Activations
pub mod Described
pub mod Keeps
pub mod Spans
pub mod StatementBlocks
pub mod Lays
pub mod Statements
pub mod Counts
