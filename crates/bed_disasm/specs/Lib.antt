pub mod Text
pub mod Listing
pub mod Appended
pub mod Laws
