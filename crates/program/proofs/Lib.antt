-- The laws of reading.
pub mod Results
pub mod OneStep
pub mod Whole
pub mod Within
pub mod Loops
pub mod Walk
pub mod Promises
