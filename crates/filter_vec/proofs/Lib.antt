-- The laws of the filter's loop.
pub mod Turn
