pub mod Paths
pub mod States
pub mod Points
pub mod Parts
pub mod Answered
pub mod Stack
pub mod Facts
