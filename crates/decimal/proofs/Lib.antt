-- The laws of decimal numerals.
pub mod Laws
pub mod Bytewise
pub mod Written
