-- The laws of the bit rule, which the proofs of every other crate cite.
pub mod Bytes
pub mod Stream
pub mod Place
pub mod Width
pub mod Search
pub mod Parts
