-- What is printed, as bytes.
pub mod Listing
pub mod Loading
pub mod Licences
pub mod Checking
