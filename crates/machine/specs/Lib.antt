-- One step of a run on lent memory.
pub mod Layout
pub mod Marks
pub mod Fetching
pub mod Acting
