-- Document 01's numbers and names of refusal, "the first check that holds", and a call that was done.
pub mod Number
pub mod Name
pub mod First
pub mod Done
