-- What a transcript goes by.
pub mod Ends
