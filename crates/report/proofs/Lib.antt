-- What the functions that read texts and write lines go by.
pub mod Lines
pub mod Texts
