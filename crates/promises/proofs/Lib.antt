-- The proofs of the promises.
pub mod Column
pub mod Examples
pub mod Cutting
pub mod Honest
pub mod Answers
pub mod Histories
pub mod Finding
pub mod Refusing
pub mod Room
pub mod Promises
