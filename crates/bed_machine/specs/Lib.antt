pub mod Memory
pub mod Instructions
pub mod MachineCode
pub mod Machine
pub mod Decoder
pub mod Plain
pub mod PlainIsMemory
