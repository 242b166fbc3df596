pub mod Demands
pub mod Bodies
pub mod Laws
pub mod Functions
pub mod Entries
