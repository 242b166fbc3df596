pub mod Steps
pub mod Instances
pub mod Sound
pub mod Laws
pub mod Parts
pub mod Predicates
pub mod Matching
pub mod Examples
