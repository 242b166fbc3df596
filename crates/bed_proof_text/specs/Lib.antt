pub mod Spellings
pub mod Classes
pub mod Trees
pub mod Written
pub mod Tables
pub mod Texts
