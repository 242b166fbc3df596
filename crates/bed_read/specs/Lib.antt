pub mod Classes
pub mod Trees
pub mod Written
pub mod Factored
pub mod Tables
pub mod Reading
pub mod Laws
