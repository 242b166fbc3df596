mod Certificate
mod Counts
mod Equivalence
mod Lists
mod Shorter
pub mod TextLaws
mod Wholes
