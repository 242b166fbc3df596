pub mod Hosted
pub mod Runs
pub mod Calls
pub mod Inside
