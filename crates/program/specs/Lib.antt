-- Programs, their rows, and what reading them answers.
pub mod Program
pub mod Rows
pub mod Reading
pub mod Runs
pub mod Says
