-- The laws of "the first check that holds".
pub mod First
