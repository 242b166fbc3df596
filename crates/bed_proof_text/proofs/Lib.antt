pub mod Certificate
pub mod TextLemmas
pub mod Outcomes
pub mod TextAnswers
