pub mod Trees
pub mod Solving
pub mod Chained
pub mod Plain
pub mod Laws
