pub mod Grammar
pub mod Tables
pub mod Parsing
pub mod Exact
pub mod Laws
pub mod Gives
