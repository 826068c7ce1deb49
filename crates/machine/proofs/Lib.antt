-- The marks of steps, rows that are known to be there, arrays in memory, and what each kind of step does.
pub mod Marking
pub mod Fetching
pub mod Memory
pub mod Arms
