-- What the filter answers and leaves.
pub mod Filter
