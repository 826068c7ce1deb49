-- Rows of tables, the laws of looking at them, what a table says is true, and what the code goes by.
pub mod Loops
pub mod Steps
pub mod Rows
pub mod Looks
pub mod Nothing
pub mod Hopping
pub mod Cases
pub mod Truth
pub mod Licensing
pub mod Promises
