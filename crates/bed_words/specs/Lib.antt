pub mod Values
pub mod Options
pub mod Commands
pub mod Limits
pub mod Usage
pub mod Reading
