pub mod Given
pub mod Ahead
pub mod Procedure
pub mod Answers
pub mod Layers
pub mod Laws
