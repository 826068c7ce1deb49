-- Steps in words, as bytes.
pub mod Words
