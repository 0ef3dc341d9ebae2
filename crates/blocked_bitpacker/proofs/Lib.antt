-- The store's laws: what a store that is not damaged has, of sealing, of reading, and what its count says.
pub mod Judged
pub mod Changing
pub mod ReadingLaws
pub mod Values
pub mod Searching
pub mod Counting
