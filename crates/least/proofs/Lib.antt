-- Taking a guess over, counting sweeps, and what is promised.
pub mod Mixed
pub mod Counts
pub mod Promises
