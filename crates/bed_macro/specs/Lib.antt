pub mod Sites
pub mod Paths
pub mod Lists
pub mod Joins
pub mod Ends
pub mod EndLaws
