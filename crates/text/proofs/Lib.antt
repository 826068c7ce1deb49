pub mod Scans
pub mod Digits
pub mod Places
pub mod Progress
pub mod Laws
