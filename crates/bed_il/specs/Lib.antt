pub mod BlockMachine
pub mod Stepping
pub mod Bytes
pub mod Places
pub mod Fit
pub mod Laws
