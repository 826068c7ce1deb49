-- Tables of ranges for all places, whether they hold, and how that is looked for.
pub mod Tables
pub mod Hops
pub mod Rows
pub mod Looking
pub mod Cases
pub mod Licences
pub mod Says
