-- What is printed of a run, as bytes.
pub mod Transcripts
