mod Decoding
pub mod InstructionLaws
mod Exactness
pub mod WordLaws
pub mod StepLaws
mod Steps
