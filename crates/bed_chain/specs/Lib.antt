pub mod Graph
pub mod Tables
pub mod Answers
pub mod Freed
