-- Ranges for variables, and what a step makes of them.
pub mod Ranges
pub mod Boxes
pub mod Tests
pub mod Laws
