-- The laws of one block: of packing it, of sealing it, and of reading it back.
pub mod Packing
pub mod SealingLaws
pub mod Reading
pub mod BlockLaws
