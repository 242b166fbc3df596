pub mod Swaps
pub mod SwapLaws
pub mod ValueLaws
