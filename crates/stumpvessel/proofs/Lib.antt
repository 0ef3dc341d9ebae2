-- The laws of the functions for C.
pub mod Words
pub mod Packing
pub mod Calls
