-- What a run answers, shows and leaves.
pub mod Ending
pub mod Says
