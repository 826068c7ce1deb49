-- The laws of ranges and of what steps make of them, and what the code goes by.
pub mod Order
pub mod Monotone
pub mod Keeps
pub mod Pairs
pub mod Ends
