-- Whole numbers of 64 bits with sign.
pub mod Numbers
