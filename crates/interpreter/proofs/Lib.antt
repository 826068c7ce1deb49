-- The laws of runs of many steps, and what is promised of them.
pub mod Filling
pub mod Runs
pub mod Loop
pub mod Promises
