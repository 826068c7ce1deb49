-- Going to the least table, and what finding it promises.
pub mod Going
pub mod Says
