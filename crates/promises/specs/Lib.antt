-- Promises that no single function makes: a column that was packed is read back, and document 01's marked examples.
pub mod Column
pub mod Reply
pub mod Runs
pub mod Examples
pub mod Defined
pub mod Histories
pub mod Paper
pub mod Promises
