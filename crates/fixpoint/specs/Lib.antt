-- The least table that holds, going round to it, and guesses that are confirmed.
pub mod Hops
pub mod Least
pub mod Rounds
pub mod Growth
pub mod Confirming
pub mod Needed
pub mod Ways
pub mod Says
pub mod Joining
pub mod Moving
