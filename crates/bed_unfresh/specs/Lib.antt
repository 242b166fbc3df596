pub mod Unfresh
