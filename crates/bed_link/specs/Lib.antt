pub mod Parts
pub mod Faults
pub mod Linkable
pub mod Resolved
pub mod Seen
pub mod Laws
