-- The laws of texts.
pub mod Laws
pub mod Settled
pub mod Lines
pub mod Adding
pub mod Pieces
pub mod Holds
